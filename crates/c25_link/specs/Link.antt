-- What linking gives.
use Rattle.std.specs.Prelude.{◌≡◌, List, ℕ, Option, None, Result, Ok, Err, String}
use Rattle.std.specs.declared.alloc.Global.{Global}
use Rattle.c25_meaning_linking.specs.Command.{CommandData}
use Rattle.c25_meaning_linking.specs.Linking.{ImageData, IsProgram, IsRefusal, HasWords, HasMarks, HasRunMarks, HasLines, first_spilled, refused_with, map_of}
use Rattle.c25_meaning_objects.specs.Module.{Contents}
use Rattle.c25_meaning_linking.specs.Place.{Place}
use Rattle.c25_meaning_common.specs.declared.failure.Failure.{Failure}
use Rattle.c25_meaning_common.specs.declared.failure.Failure.TheVariants.{NoMemory, Fault}
use Rattle.c25_meaning_common.specs.declared.placed.Placed.{Placed}
use Rattle.c25_meaning_linking.specs.declared.link_fault.LinkFault.{LinkFault}
use Rattle.c25_meaning_linking.specs.declared.link_fault.LinkFault.TheVariants.{RelocRange}
use Rattle.c25_place.specs.View.{refusal_of}

-- the program, or the first fault, unless memory ran out
abbrev pub Links : List Contents → CommandData → Result ImageData (Failure (Placed (String Global) LinkFault)) → Type 0
Links modules command (Ok image) = IsProgram modules command image
Links modules command (Err (NoMemory n)) = Unit {0}
Links modules command (Err (Fault f)) = IsRefusal modules command (refusal_of f)

-- the program of modules whose sections stand at these places
pub record IsImageAt (modules : List Contents) (places : List Place) (entry : Option (List ℕ)) (image : ImageData) : Type 0 where
  pub fields : first_spilled modules places ≡ None
  pub program : HasWords modules places 0 image.program
  pub store : HasWords modules places 1 image.store
  pub marks : HasMarks modules places image.marks
  pub run_marks : HasRunMarks modules places image.marks image.run_marks
  pub lines : HasLines modules places image.lines
  pub described : image.described ≡ map_of modules entry places

-- the program of modules whose sections stand at these places, or the first field that does not take its
-- value
abbrev pub LinksAt : List Contents → List Place → Option (List ℕ) → Result ImageData (Failure (Placed (String Global) LinkFault)) → Type 0
LinksAt modules places entry (Ok image) = IsImageAt modules places entry image
LinksAt modules places entry (Err (NoMemory n)) = Unit {0}
LinksAt modules places entry (Err (Fault f)) = refused_with RelocRange (first_spilled modules places) ≡ Err (refusal_of f)
