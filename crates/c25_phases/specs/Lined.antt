-- The files and lines of a module, as its lists.
use Rattle.std.specs.Prelude.{◌≡◌, ◌<◌, ℕ, List, String, length}
use Rattle.std.specs.List.{position_or_len}
use Rattle.std.specs.Str.{bytes_eq}
use Rattle.std.specs.declared.alloc.Global.{Global}
use Rattle.c25_meaning_assembly.specs.Emission.{Lines}
use Rattle.c25_meaning_assembly.specs.Sections.{once}
use Rattle.c25_meaning_objects.specs.declared.object.LineMark.{LineMark}
use Rattle.c25_module.specs.View.{files_data}

-- two lists are the names of these files and these lines
pub record IsLined (meant : Lines) (names : List (String Global)) (marks : List LineMark) : Type 0 where
  pub files : files_data names ≡ meant.files
  pub lines : marks ≡ meant.lines

-- the first file of this name has this number
pub record IsAt (files : List (List ℕ)) (number : ℕ) (name : List ℕ) : Type 0 where
  pub first : number ≡ position_or_len (bytes_eq name) files
  pub within : number < length files
  pub there : once files name ≡ files
