-- Tasks over files, to which the files that a task asks for are added.
use Rattle.std.specs.Prelude.{◌≡◌, ℕ, ◌≤◌, List, [], ◌∷◌, ◌++◌, length, Option, Some, None, IfSome, is_some, true, false, Result, Ok, Err, String}
use Rattle.std.specs.String.{string_bytes}
use Rattle.std.specs.declared.alloc.Global.{Global}
use Rattle.c25_meaning_expansion.specs.Files.{Files, text_named}
use Rattle.c25_meaning_common.specs.declared.failure.Failure.{Failure}
use Rattle.c25_meaning_common.specs.declared.failure.Failure.TheVariants.{NoMemory, Fault}
use Rattle.c25_disk.specs.Held.{Held, AreAsHeld, IsAllOf}
use Rattle.c25_disk.specs.declared.attempts.Turn.{Turn}
use Rattle.c25_disk.specs.declared.attempts.Turn.TheVariants.{Answered, Lacks}
use Rattle.c25_meaning_common.specs.declared.placed.Placed.{Placed}
use Rattle.c25_disk.specs.declared.fault.FileFault.{FileFault}
use Rattle.c25_disk.specs.declared.fault.FileFault.TheVariants.{CannotRead}
use Rattle.c25_disk.specs.declared.work.CopyFault.{CopyFault}
use Rattle.c25_disk.specs.declared.work.CopyFault.TheVariants.{File, Work}

-- a file that is asked for, if one is, is there
abbrev pub IsThere : Files → Option (List ℕ) → Type 0
IsThere files name = IfSome name (λ n. is_some (text_named files n) ≡ true)

-- a file of this name is asked for, and is not among the files
abbrev pub Lacking : Files → Option (List ℕ) → List ℕ → Type 0
Lacking files asked name = (asked ≡ Some name) × (is_some (text_named files name) ≡ false)

-- a file's fault as the fault of a task over files
abbrev pub IsFileFault : {F : Type 0} → Failure (Placed (String Global) FileFault) → Failure (CopyFault F) → Type 0
IsFileFault (NoMemory n) (NoMemory m) = Unit {0}
IsFileFault (NoMemory n) (Fault g) = ⊥
IsFileFault (Fault f) (NoMemory m) = ⊥
IsFileFault (Fault f) (Fault (File g)) = g ≡ f
IsFileFault (Fault f) (Fault (Work g)) = ⊥

-- what follows a fault: it is reported, unless it asks for a file that is not among these
abbrev pub AfterFault : {A F : Type 0} → (F → Option (List ℕ)) → Files → F → Result (Turn A) (Failure (CopyFault F)) → Type 0
AfterFault missing files f (Ok (Answered a)) = ⊥
AfterFault missing files f (Ok (Lacks name)) = Lacking files (missing f) (string_bytes name)
AfterFault missing files f (Err (NoMemory n)) = Unit {0}
AfterFault missing files f (Err (Fault (Work g))) = (g ≡ f) × IsThere files (missing g)
AfterFault missing files f (Err (Fault (File g))) = ⊥

-- one attempt of a task that may have these results
abbrev pub IsTurn : {A F : Type 0} → (Result A (Failure F) → Type 0) → (F → Option (List ℕ)) → Files → Result (Turn A) (Failure (CopyFault F)) → Type 0
IsTurn comes_to missing files (Ok (Answered a)) = comes_to (Ok a)
IsTurn {A} {F} comes_to missing files (Ok (Lacks name)) = (f : F) × comes_to (Err (Fault f)) × Lacking files (missing f) (string_bytes name)
IsTurn comes_to missing files (Err (NoMemory n)) = Unit {0}
IsTurn comes_to missing files (Err (Fault (Work f))) = comes_to (Err (Fault f)) × IsThere files (missing f)
IsTurn comes_to missing files (Err (Fault (File f))) = ⊥

-- the answer is a result of the task over these files, or the file that the task asks for cannot be read (8)
abbrev pub IsEnd : {A F : Type 0} → (Result A (Failure F) → Type 0) → (F → Option (List ℕ)) → Files → Result A (Failure (CopyFault F)) → Type 0
IsEnd comes_to missing files (Ok a) = comes_to (Ok a)
IsEnd comes_to missing files (Err (NoMemory n)) = Unit {0}
IsEnd comes_to missing files (Err (Fault (Work f))) = comes_to (Err (Fault f)) × IsThere files (missing f)
IsEnd {A} {F} comes_to missing files (Err (Fault (File g))) =
    (g.fault ≡ CannotRead) × ((f : F) × comes_to (Err (Fault f)) × Lacking files (missing f) (string_bytes g.place))

-- a file is read and added to these, or cannot be read (8)
abbrev pub AddsCopy : {F : Type 0} → Held → Files → Files → List ℕ → Result (Unit {0}) (Failure (CopyFault F)) → Type 0
AddsCopy held files after name (Ok done) = (text : List ℕ) × IsAllOf (held name) text × (after ≡ files ++ (name, text) ∷ [])
AddsCopy held files after name (Err (NoMemory n)) = Unit {0}
AddsCopy held files after name (Err (Fault (File g))) = (string_bytes g.place ≡ name) × (g.fault ≡ CannotRead)
AddsCopy held files after name (Err (Fault (Work f))) = ⊥

-- the given files, and after them at most so many that were copied from a disk
pub record HasCopied (held : Held) (given : Files) (most : ℕ) (files : Files) : Type 0 where
  pub copies : Files
  pub behind : files ≡ given ++ copies
  pub few : length copies ≤ most
  pub read : AreAsHeld held copies

-- the answer of a task over given files and at most 256 others, each as the disk holds it: a result over the
-- files that are there in the end, or, if these lack a file that the task asks for, that this file cannot be
-- read (8)
abbrev pub EndsOver : {A F : Type 0} → Held → Files → (Files → Result A (Failure F) → Type 0) → (F → Option (List ℕ)) → Result A (Failure (CopyFault F)) → Type 0
EndsOver held given comes_to missing result =
    (files : Files) × HasCopied held given 256 files × IsEnd (comes_to files) missing files result

-- the answer of a task over given files and at most 256 others, or none yet
abbrev pub EndsAhead : {A F : Type 0} → Held → Files → (Files → Result A (Failure F) → Type 0) → (F → Option (List ℕ)) → Result (Option A) (Failure (CopyFault F)) → Type 0
EndsAhead held given comes_to missing (Ok (Some a)) = EndsOver held given comes_to missing (Ok a)
EndsAhead held given comes_to missing (Ok None) = Unit {0}
EndsAhead held given comes_to missing (Err failure) = EndsOver held given comes_to missing (Err failure)
