-- The fault with which a source is refused, by the fault of expansion.
use Rattle.std.specs.Prelude.{◌≡◌, ℕ, List, Option, Some, None}
use Rattle.std.specs.String.{string_bytes}
use denote.Ref.{Bor}
use Rattle.c25_macro.specs.Expander.{ExpandFault}
use Rattle.c25_meaning_common.specs.declared.failure.Failure.{Failure}
use Rattle.c25_meaning_common.specs.declared.failure.Failure.TheVariants.{NoMemory, Fault}
use Rattle.c25_phases.specs.declared.fault.AsmFault.{AsmFault}
use Rattle.c25_phases.specs.declared.fault.AsmFault.TheVariants.{Line, NoFile}

-- the fault of a line that is wrong
abbrev pub IsWrongLine : ExpandFault → Failure AsmFault → Type 0
IsWrongLine f (Fault (Line told)) = told ≡ f
IsWrongLine f (Fault (NoFile file line text)) = ⊥
IsWrongLine f (NoMemory n) = ⊥

-- the fault of a line that asks for a file of this name, which is not there
abbrev pub IsNoFile : List ℕ → ExpandFault → Failure AsmFault → Type 0
IsNoFile name f (Fault (Line told)) = ⊥
IsNoFile name f (Fault (NoFile file line text)) = (file.now ≡ f.place.file.now) × (line ≡ f.place.line) × (string_bytes text ≡ name)
IsNoFile name f (NoMemory n) = Unit {0}

-- a fault of expansion as the fault of the source; `missing` is the name of the file that is not there
abbrev pub IsToldBy : Option (Bor (List ℕ)) → ExpandFault → Failure AsmFault → Type 0
IsToldBy None f told = IsWrongLine f told
IsToldBy (Some name) f told = IsNoFile name.now f told

-- a failure of expansion as the failure of the source
abbrev pub IsTold : Option (Bor (List ℕ)) → Failure ExpandFault → Failure AsmFault → Type 0
IsTold missing (NoMemory n) (NoMemory m) = Unit {0}
IsTold missing (NoMemory n) (Fault f) = ⊥
IsTold missing (Fault f) told = IsToldBy missing f told
