-- What the first phase keeps of a line that it refuses.
use Rattle.std.specs.Prelude.{◌≡◌, ℕ, List, Option, Result, Ok, Err, true, false}
use Rattle.c25_meaning_assembly.specs.AllFaults.{is_last_kind, labelled, left_out}
use Rattle.c25_meaning_assembly.specs.Sections.{Progress}
use Rattle.c25_meaning_common.specs.declared.failure.Failure.{Failure}
use Rattle.c25_meaning_common.specs.declared.failure.Failure.TheVariants.{NoMemory, Fault}
use Rattle.c25_meaning_language.specs.declared.statement.FaultKind.{FaultKind}

-- a call that is refused has changed nothing
abbrev pub IsKept : {S T : Type 0} → (old : S) → Result T (Failure FaultKind) → (new : S) → Type 0
IsKept old (Ok x) new = Unit {0}
IsKept old (Err (NoMemory n)) new = Unit {0}
IsKept old (Err (Fault kind)) new = new ≡ old

-- a call is refused only where there is no room
abbrev pub IsFull : {T : Type 0} → Result T (Failure FaultKind) → Type 0
IsFull (Ok x) = Unit {0}
IsFull (Err (NoMemory n)) = Unit {0}
IsFull (Err (Fault kind)) = is_last_kind kind ≡ true

-- a call that is refused has changed nothing, unless there is no room
abbrev pub IsUndone : {T : Type 0} → (old : Progress) → Result T (Failure FaultKind) → (new : Progress) → Type 0
IsUndone old (Ok x) new = Unit {0}
IsUndone old (Err (NoMemory n)) new = Unit {0}
IsUndone old (Err (Fault kind)) new = is_last_kind kind ≡ false → new ≡ old

-- a line that is refused has defined its label, or nothing, unless there is no room: with the label it is all
-- the same
abbrev pub IsLabelled : {T : Type 0} → (name : Option (List ℕ)) → (old : Progress) → Result T (Failure FaultKind) → (new : Progress) → Type 0
IsLabelled name old (Ok x) new = Unit {0}
IsLabelled name old (Err (NoMemory n)) new = Unit {0}
IsLabelled name old (Err (Fault kind)) new = is_last_kind kind ≡ false → labelled name new ≡ labelled name old

-- a line that is refused is left out but for its label, unless there is no room
abbrev pub IsLeftOut : {T : Type 0} → (text : List ℕ) → (old : Progress) → Result T (Failure FaultKind) → (new : Progress) → Type 0
IsLeftOut text old (Ok x) new = Unit {0}
IsLeftOut text old (Err (NoMemory n)) new = Unit {0}
IsLeftOut text old (Err (Fault kind)) new = is_last_kind kind ≡ false → new ≡ left_out text old
