-- Files that are to be written.
use Rattle.std.specs.Prelude.{◌≡◌, ◌∷◌, ◌++◌, ℕ, List, map, Option, String}
use Rattle.std.specs.declared.alloc.Global.{Global}
use Rattle.c25_meaning_common.specs.declared.failure.Failure.{Failure}
use Rattle.c25_meaning_expansion.specs.Files.{Files}
use Rattle.c25_disk.specs.Held.{Adds, IsOfFile}
use Rattle.c25_meaning_common.specs.declared.placed.Placed.{Placed}
use Rattle.c25_disk.specs.declared.fault.FileFault.{FileFault}
use Rattle.c25_disk.specs.declared.fault.FileFault.TheVariants.{CannotWrite}
use Rattle.c25_disk.specs.declared.writing.Output.{Output}

-- a file's name and its bytes
abbrev pub contents_of : Output → List ℕ × List ℕ
contents_of output = (output.name.now, output.bytes.items)

-- of these files those before this one were written, and no others
pub record EndsBefore (old new : Option Files) (files : Files) (file : List ℕ × List ℕ) : Type 0 where
  pub before : Files
  pub after : Files
  pub split : files ≡ before ++ file ∷ after
  pub written : Adds old new before

-- the first file that cannot be written is reported (7), unless memory ran out then
abbrev pub IsUnwritten : Option Files → Option Files → List Output → Failure (Placed (String Global) FileFault) → Type 0
IsUnwritten old new outputs failure =
    (file : List ℕ × List ℕ) × EndsBefore old new (map contents_of outputs) file × IsOfFile file.0 CannotWrite failure
