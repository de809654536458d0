-- Fronts that are added to the texts of sources.
use Rattle.std.specs.Prelude.{◌≡◌, ◌⊎◌, ◌==◌, ℕ, Bool, if◌then◌else◌, List, [], ◌∷◌, ◌++◌, is_some, length, map, true, false, Result, Ok, Err, IfErr, IfOk, String}
use Rattle.std.specs.String.{string_bytes}
use Rattle.std.specs.declared.alloc.Global.{Global}
use Rattle.c25_meaning_expansion.specs.Files.{Files, text_named}
use Rattle.c25_meaning_common.specs.declared.failure.Failure.{Failure}
use Rattle.c25_meaning_common.specs.declared.failure.Failure.TheVariants.{NoMemory, Fault}
use Rattle.c25_meaning_common.specs.declared.placed.Placed.{Placed}
use Rattle.c25_disk.specs.declared.fault.FileFault.{FileFault}
use Rattle.c25_disk.specs.declared.fault.FileFault.TheVariants.{FileTwice}
use Rattle.c25_fronts.specs.Fronts.{front_name, fronts}

-- there is a text of this name already (37), or memory ran out
abbrev pub IsTaken : Files → List ℕ → Failure (Placed (String Global) FileFault) → Type 0
IsTaken files name (NoMemory n) = Unit {0}
IsTaken files name (Fault f) = (is_some (text_named files name) ≡ true) × (string_bytes f.place ≡ name) × (f.fault ≡ FileTwice)

-- a front is added after these files, or why not
abbrev pub AddsFront : Files → Files → List ℕ × List ℕ → Result (Unit {0}) (Failure (Placed (String Global) FileFault)) → Type 0
AddsFront files after front (Ok done) = (is_some (text_named files front.0) ≡ false) × (after ≡ files ++ front ∷ [])
AddsFront files after front (Err failure) = IsTaken files front.0 failure

-- fronts are added one by one after these files, or the first fault
abbrev pub AddsFronts : Files → Files → Result Files (Failure (Placed (String Global) FileFault)) → Type 0
AddsFronts files [] result = result ≡ Ok files
AddsFronts files (front ∷ fronts) result =
    IfErr result (IsTaken files front.0) × IfOk result (λ _. ⊥)
    ⊎ ((is_some (text_named files front.0) ≡ false) × AddsFronts (files ++ front ∷ []) fronts result)

-- where there are no definitions, these files; else these files and the fronts after them, or why not: a name is taken, or memory ran out
abbrev pub AddsUnless : Bool → Files → Files → Result Files (Failure (Placed (String Global) FileFault)) → Type 0
AddsUnless true files fronts result = result ≡ Ok files
AddsUnless false files fronts (Ok all) = AddsFronts files fronts (Ok all)
AddsUnless false files fronts (Err (NoMemory n)) = Unit {0}
AddsUnless false files fronts (Err (Fault f)) = AddsFronts files fronts (Err (Fault f))

-- the texts of sources of these names, and, where symbols are defined, their fronts after them
abbrev pub AddsDefinitions : (definitions names : List (List ℕ)) → Files → Result Files (Failure (Placed (String Global) FileFault)) → Type 0
AddsDefinitions definitions names files result = AddsUnless (length definitions == 0) files (fronts definitions names) result

-- the name of the text that is assembled for a source of this name
abbrev pub assembled_name : (definitions : List (List ℕ)) → (name : List ℕ) → List ℕ
assembled_name definitions name = if length definitions == 0 then name else front_name name

-- the names of the texts that are assembled for sources of these names
abbrev pub assembled_names : (definitions names : List (List ℕ)) → List (List ℕ)
assembled_names definitions names = if length definitions == 0 then names else map front_name names
