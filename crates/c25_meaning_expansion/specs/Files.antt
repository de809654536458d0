-- The files of a source: their names and texts.
use Rattle.std.specs.Prelude.{ℕ, List, [], Option, Some, None, slice_get}
use Rattle.std.specs.Map.{lookup}
use Rattle.std.specs.Str.{bytes_eq}

-- names of files with their texts, in the order in which they were added
abbrev pub Files : Type 0
Files = List (List ℕ × List ℕ)

-- the text of the file of this name, if there is one
abbrev pub text_named : Files → List ℕ → Option (List ℕ)
text_named files name = lookup (bytes_eq name) files

-- the name of the file of this number, counted from 0; empty where there is no such file
abbrev pub file_name : Files → ℕ → List ℕ
file_name files number = elim (slice_get files number) [ None ↦ [] | Some file ↦ file.0 ]
