-- The source of an image.
use Rattle.std.specs.Prelude.{◌≡◌, ℕ, false, List, Some, Result, Ok, Err, string_bytes}
use Rattle.std.specs.FinMap as finite
use Rattle.std.specs.List.{slice_get}
use Rattle.std.specs.Ordering.{nat_cmp}
use Rattle.c25_layout.specs.Layout.{ArePartsOf}
use Rattle.c25_layout.specs.SourceText.{command_text, source_text}
use Rattle.c25_layout.specs.declared.layout.Part.{Part}
use Rattle.c25_meaning_assembly.specs.Sections.{is_file_name}
use Rattle.c25_meaning_common.specs.declared.failure.Failure.TheVariants as failure
use Rattle.c25_meaning_common.specs.declared.failure.Failure.{Failure}
use Rattle.c25_source.specs.Rebuilt.{IsRebuilt, SourceFiles}
use Rattle.c25_source.specs.declared.source.NotMade.{NotMade}
use Rattle.c25_source.specs.declared.source.NotMade.TheVariants.{LongName, TooManySections}
use Rattle.c25_source.specs.declared.source.Source.{Source}

-- the two texts are those of the parts
pub record IsLaidOut (s : Source) : Type 0 where
  pub source : string_bytes s.source ≡ source_text s.parts.items
  pub command : string_bytes s.command ≡ command_text s.parts.items

-- the files of a source
abbrev pub files_of : List ℕ → Source → SourceFiles
files_of name s = record { name = name; source = string_bytes s.source; command = string_bytes s.command }

-- the files of parts
abbrev pub files_of_parts : List ℕ → List Part → SourceFiles
files_of_parts name parts = record { name = name; source = source_text parts; command = command_text parts }

-- there are more parts than a module may have sections; the first one too many begins at this address
pub record IsOneTooMany (parts : List Part) (address : ℕ) : Type 0 where
  pub part : Part
  pub there : slice_get parts 254 ≡ Some part
  pub begins : part.address ≡ address

-- there are more parts of an image than a module may have sections; the first one too many begins at this address
pub record AreTooMany (words : finite.FinMap nat_cmp ℕ) (blank address : ℕ) : Type 0 where
  pub parts : List Part
  pub are : ArePartsOf words blank parts
  pub many : IsOneTooMany parts address

-- why the words of an image have no source in a file of a name
abbrev pub IsNotMade : List ℕ → finite.FinMap nat_cmp ℕ → ℕ → NotMade → Type 0
IsNotMade name words blank (TooManySections address) = AreTooMany words blank address
IsNotMade name words blank LongName = is_file_name name ≡ false

-- the texts of parts of an image, which are built to a program with its words; or why there are none, unless memory ran out
abbrev pub Answers : List ℕ → finite.FinMap nat_cmp ℕ → ℕ → Result Source (Failure NotMade) → Type 0
Answers name words blank (Ok s) = IsLaidOut s × ArePartsOf words blank s.parts.items × IsRebuilt (files_of name s) words blank
Answers name words blank (Err (failure.NoMemory n)) = Unit {0}
Answers name words blank (Err (failure.Fault why)) = IsNotMade name words blank why
