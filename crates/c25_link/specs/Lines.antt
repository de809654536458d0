-- The lines of instructions, as the code has them.
use Rattle.std.specs.Prelude.{ℕ, List, [], map, filter, unwrap_or, String}
use Rattle.std.specs.List.{slice_get, zip}
use Rattle.std.specs.declared.alloc.Global.{Global}
use Rattle.std.specs.declared.vec.Vec.{Vec}
use Rattle.c25_meaning_objects.specs.Module.{Contents}
use Rattle.c25_meaning_objects.specs.declared.object.LineMark.{LineMark}
use Rattle.c25_meaning_objects.specs.declared.object.ModuleMark.{ModuleMark}
use Rattle.c25_meaning_linking.specs.Place.{Place, by_modules}
use Rattle.c25_meaning_linking.specs.Words.{LineData, placed_mark, is_line_on_program}
use Rattle.c25_module.specs.View.{files_data}
use Rattle.c25_link.specs.declared.lines.LinePlace.{LinePlace}
use Rattle.c25_link.specs.declared.lines.SourceLines.{SourceLines}

-- the names of the files of each module, as clauses see them
abbrev pub files_view : List (Vec (String Global) Global) → List (List (List ℕ))
files_view files = map (λ v. files_data v.items) files

-- the name of the file of a number, among those of the module of a number
abbrev pub file_at : List (List (List ℕ)) → ℕ → ℕ → List ℕ
file_at files number index = unwrap_or (slice_get (unwrap_or (slice_get files number) []) index) []

-- an instruction with the name of its file
abbrev pub line_data : List (List (List ℕ)) → LinePlace → LineData
line_data files l = record { mark = l.mark; file = file_at files l.number l.file; line = l.line }

-- the instructions with the names of their files
abbrev pub lines_view : SourceLines → List LineData
lines_view l = map (line_data (files_view l.files.items)) l.places.items

-- a mark of the module of a number with its line, where its section's part stands
abbrev pub line_place : List Contents → List Place → ℕ → Contents → ModuleMark × LineMark → LinePlace
line_place modules places number m told = record { mark = placed_mark modules places number m told.0; number = number; file = told.1.file; line = told.1.line }

-- the instructions of a module that are on page 0 and have a line
abbrev pub module_places : List Contents → List Place → ℕ → Contents → List LinePlace
module_places modules places number m = map (line_place modules places number m) (filter (is_line_on_program places m) (zip m.marks m.lines))

-- the instructions of all modules that are on page 0 and have a line
abbrev pub all_places : List Contents → List Place → List LinePlace
all_places modules places = by_modules (module_places modules places) 0 modules
