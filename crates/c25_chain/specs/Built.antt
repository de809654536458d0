-- The program of sources and the text of a command file, or the first fault.
use Rattle.std.specs.Prelude.{◌≡◌, ◌⊎◌, ℕ, List, map, Result, Ok, Err}
use Rattle.std.specs.String.{string_bytes}
use Rattle.c25_meaning_expansion.specs.Files.{Files}
use Rattle.c25_meaning_linking.specs.Linking.{ImageData}
use Rattle.c25_meaning_common.specs.declared.failure.Failure.TheVariants as failure
use Rattle.c25_chain.specs.Linked.{LinkedTexts, IsLinked, IsLinkedUnder, IsRefusedUnder}
use Rattle.c25_chain.specs.Modules.{Modules, modules_of}
use Rattle.c25_chain.specs.Refusal.{Fault, refusal_of}
use Rattle.c25_chain.specs.declared.built.Built.{Built}
use Rattle.c25_chain.specs.declared.fault.ChainFault.{ChainFault}

-- the program of the modules of these sources under the command, with its texts and the listings of the
-- sources
pub record IsBuilt (files : Files) (sources : List (List ℕ)) (command : List ℕ) (image : ImageData) (texts : LinkedTexts) (listings : List (List ℕ)) : Type 0 where
  pub all : Modules
  pub assembled : modules_of files sources ≡ Ok all
  pub listings_are : listings ≡ all.listings
  pub linked : IsLinkedUnder all.modules command image texts

-- all sources have modules, but the command or linking has a fault
pub record IsRefusedLink (files : Files) (sources : List (List ℕ)) (command : List ℕ) (r : ChainFault (List ℕ)) : Type 0 where
  pub all : Modules
  pub assembled : modules_of files sources ≡ Ok all
  pub refused : IsRefusedUnder all.modules command r

-- a source has a fault, or else the command or linking
abbrev pub IsUnbuilt : Files → List (List ℕ) → List ℕ → ChainFault (List ℕ) → Type 0
IsUnbuilt files sources command r = (modules_of files sources ≡ Err r) ⊎ IsRefusedLink files sources command r

-- a program as the code has it, with the words that its hex texts were read as
pub record IsBuiltAs (files : Files) (sources : List (List ℕ)) (command : List ℕ) (b : Built) : Type 0 where
  pub all : Modules
  pub assembled : modules_of files sources ≡ Ok all
  pub listings_are : map string_bytes b.listings.items ≡ all.listings
  pub linked : IsLinked all.modules command b.linked

-- the program, or the first fault, unless memory ran out
abbrev pub Builds : Files → List (List ℕ) → List ℕ → Result Built Fault → Type 0
Builds files sources command (Ok b) = IsBuiltAs files sources command b
Builds files sources command (Err (failure.NoMemory n)) = Unit {0}
Builds files sources command (Err (failure.Fault f)) = IsUnbuilt files sources command (refusal_of f)
