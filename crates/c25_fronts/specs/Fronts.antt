-- The front of a source: a text that defines symbols of a command line, and then copies the source.
use Rattle.std.specs.Prelude.{ℕ, Bool, true, List, [], ◌∷◌, ◌++◌, Option, Some, None, map, codes, String}
use Rattle.std.specs.List.{flat_map}
use Rattle.std.specs.String.{string_bytes}
use Rattle.c25_meaning_expansion.specs.Files.{Files, text_named}
use Rattle.c25_disk.specs.Held.{Held}
use Rattle.c25_fronts.specs.Definitions.{name_of, value_of}
use Rattle.c25_fronts.specs.declared.front.Front.{Front}

-- the line that defines the symbol of NAME=VALUE, or of NAME alone
abbrev pub set_line : List ℕ → List ℕ
set_line definition = name_of definition ++ codes " .set " ++ value_of definition ++ codes "\n"

-- a line for each definition, in their order
abbrev pub set_lines : List (List ℕ) → List ℕ
set_lines = flat_map set_line

-- the text that stands for a source: the definitions, and then the source
abbrev pub front : List (List ℕ) → List ℕ → List ℕ
front definitions source = set_lines definitions ++ codes " .copy \"" ++ source ++ codes "\"\n"

-- the name under which that text stands on a disk
abbrev pub front_name : List ℕ → List ℕ
front_name source = codes "-D " ++ source

-- the fronts of sources, as files
abbrev pub fronts : List (List ℕ) → List (List ℕ) → Files
fronts definitions sources = map (λ source. (front_name source, front definitions source)) sources

-- the name and the text of a front
abbrev pub entry_of : Front → List ℕ × List ℕ
entry_of made = (string_bytes made.name, string_bytes made.text)

-- what a disk holds where these files stand on it in addition: one of them is read in place of a file of its name
abbrev pub fronted : Files → Held → Held
fronted files held name = elim (text_named files name) [ None ↦ held name | Some text ↦ Some text ]

-- which names can be opened there
abbrev pub with_fronts : Files → (List ℕ → Option Bool) → List ℕ → Option Bool
with_fronts files opens name = elim (text_named files name) [ None ↦ opens name | Some text ↦ Some true ]
