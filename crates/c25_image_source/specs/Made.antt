-- The source of an image, made of its files (this project's own).
use Rattle.std.specs.Prelude.{◌≡◌, ◌⊎◌, ℕ, Bool, false, ◌||◌, List, ◌++◌, Option, Some, None, Result, Ok, Err, codes, String}
use Rattle.std.specs.String.{string_bytes}
use Rattle.std.specs.Str.{bytes_eq}
use Rattle.std.specs.declared.alloc.Global.{Global}
use Rattle.c25_disk.specs.Held.{Held}
use Rattle.c25_image_source.specs.Hints.{HintList, ReadsHints}
use Rattle.c25_image_source.specs.Told.{IsTold}
use Rattle.c25_image_source.specs.Words.{Answer, ReadsImage, WordsMap}
use Rattle.c25_image_source.specs.declared.asked.ImageAsked.{ImageAsked}
use Rattle.c25_image_source.specs.declared.asked.ImageFiles.{ImageFiles}
use Rattle.c25_image_source.specs.declared.asked.ImageFiles.TheVariants as files
use Rattle.c25_image_source.specs.declared.fault.ImageFault.{ImageFault}
use Rattle.c25_image_source.specs.declared.fault.SourceFault.{SourceFault}
use Rattle.c25_image_source.specs.declared.fault.SourceFault.TheVariants as fault
use Rattle.c25_image_source.specs.declared.made.Image.{Image}
use Rattle.c25_image_source.specs.declared.made.MadeNames.{MadeNames}
use Rattle.c25_image_source.specs.declared.made.MadeSource.{MadeSource}
use Rattle.c25_meaning_common.specs.declared.failure.Failure.{Failure}
use Rattle.c25_meaning_common.specs.declared.failure.Failure.TheVariants as failure
use Rattle.c25_options.specs.Task.{text_of}
use Rattle.c25_source.specs.Answer.{Answers}

-- ---- names

-- the file of the source, and the command file
abbrev pub source_name : (base : List ℕ) → List ℕ
source_name base = base ++ codes ".asm"

abbrev pub command_name : (base : List ℕ) → List ℕ
command_name base = base ++ codes ".cmd"

-- the names of the files that are written
pub record AreNames (base : List ℕ) (names : MadeNames) : Type 0 where
  pub source : string_bytes names.source ≡ source_name base
  pub command : string_bytes names.command ≡ command_name base

-- a file of an image has this name
abbrev pub is_named : ImageFiles → (name : List ℕ) → Bool
is_named (files.Hex file) name = bytes_eq file.now name
is_named (files.Binary file order) name = bytes_eq file.now name
is_named (files.Pair high low) name = bytes_eq high.now name || bytes_eq low.now name

-- a file of this name is read for an image
abbrev pub is_read : ImageFiles → (hints : Option (List ℕ)) → (name : List ℕ) → Bool
is_read files None name = is_named files name
is_read files (Some hints) name = bytes_eq hints name || is_named files name

-- a file that is read has one of the names of those that are written
abbrev pub overwrites : ImageAsked → (source command : List ℕ) → Bool
overwrites asked source command = is_read asked.files (text_of asked.hints) source || is_read asked.files (text_of asked.hints) command

-- ---- sources

-- the words of an image and its hints are read: first those, then these
abbrev pub ReadsAll : Held → ImageAsked → Answer Image → Type 0
ReadsAll held asked (Ok image) = ReadsImage held asked.files (Ok image.words) × ReadsHints held (text_of asked.hints) (Ok image.hints)
ReadsAll held asked (Err failure) =
    ReadsImage held asked.files (Err failure)
    ⊎ ((words : WordsMap) × ReadsImage held asked.files (Ok words) × ReadsHints held (text_of asked.hints) (Err failure))

-- a fault of an image as that of its source
abbrev pub IsToldOfImage : Failure (ImageFault (String Global)) → Failure SourceFault → Type 0
IsToldOfImage (failure.NoMemory n) (failure.NoMemory m) = Unit {0}
IsToldOfImage (failure.NoMemory n) (failure.Fault r) = ⊥
IsToldOfImage (failure.Fault f) (failure.NoMemory m) = ⊥
IsToldOfImage (failure.Fault f) (failure.Fault r) = r ≡ fault.Image f

-- the words of an image have this source under the name of its file, with what is printed of it; or it is said why they have none
abbrev pub SourcesImage : (name base : List ℕ) → WordsMap → (blank : ℕ) → Result MadeSource (Failure SourceFault) → Type 0
SourcesImage name base words blank (Ok made) = Answers name words blank (Ok made.source) × IsTold base words made.source.parts.items (string_bytes made.told)
SourcesImage name base words blank (Err (failure.NoMemory n)) = Unit {0}
SourcesImage name base words blank (Err (failure.Fault (fault.Image f))) = ⊥
SourcesImage name base words blank (Err (failure.Fault (fault.NotMade why))) = Answers name words blank (Err (failure.Fault why))

-- an answer is a failure of an image
abbrev pub FailsAs : Failure (ImageFault (String Global)) → Result MadeSource (Failure SourceFault) → Type 0
FailsAs failure (Ok made) = ⊥
FailsAs failure (Err told) = IsToldOfImage failure told

-- the source of the words that the files of an image hold, or why there is none
abbrev pub MakesSource : Held → ImageAsked → (name : List ℕ) → Result MadeSource (Failure SourceFault) → Type 0
MakesSource held asked name answer =
    ((failure : Failure (ImageFault (String Global))) × ReadsAll held asked (Err failure) × FailsAs failure answer)
    ⊎ ((image : Image) × ReadsAll held asked (Ok image) × SourcesImage name asked.base.now image.words asked.blank answer)
