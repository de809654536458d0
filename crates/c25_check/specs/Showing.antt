-- Which warnings of a program are shown, and how.
use Rattle.std.specs.Prelude.{ℕ, Bool, true, false, Option, None, Some, not, ◌==◌, if◌then◌else◌, List, length}
use Rattle.std.specs.List.{filter, list_any}
use Rattle.std.specs.Str.{bytes_eq}
use Rattle.c25_inputs.specs.Files.{SourceNames}
use Rattle.c25_check.specs.declared.showing.Paging.{Paging}
use Rattle.c25_check.specs.declared.showing.Paging.TheVariants.{Nothing, Certain, All}
use Rattle.c25_check.specs.declared.showing.Showing.{Showing}
use Rattle.c25_warnings.specs.Program.{ProgramWarnings}
use Rattle.c25_warnings.specs.Warnings.{Warning}

-- whether a warning is of a line of another file than these
abbrev pub is_elsewhere : List (List ℕ) → Warning → Bool
is_elsewhere files w = not (list_any (bytes_eq w.file) files)

-- the warnings without those of the lines of these files
abbrev pub without_files : List (List ℕ) → ProgramWarnings → ProgramWarnings
without_files files p = record { of_lines = filter (is_elsewhere files) p.of_lines; of_sections = p.of_sections }

-- the warnings that are shown of texts of these names: where they are fronts, not those of their own lines
abbrev pub shown_warnings : (fronted : Bool) → (names : List (List ℕ)) → ProgramWarnings → ProgramWarnings
shown_warnings fronted names p = if fronted then without_files names p else p

-- what is said of data pages: all where that is asked for, else what is certain where a command file is named
abbrev pub paging_for : (pages : Bool) → (command : Option (List ℕ)) → Paging
paging_for true command = All
paging_for false None = Nothing
paging_for false (Some file) = Certain

-- how the warnings of sources are shown: explained or not, and without those of fronts where symbols are defined
abbrev pub showing_for : (explain : Bool) → Paging → SourceNames → Showing
showing_for explain paging sources = record { explain = explain; paging = paging; fronted = not (length sources.definitions == 0) }
