-- What two words decode to, with a size.
use Rattle.std.specs.Prelude.{◌≡◌, ℕ, Option, Some, None}
use Rattle.c25_meaning_instructions.specs.Table.{Reads, size_of}
use Rattle.c25_meaning_instructions.specs.declared.insn.Insn.{Insn}

-- the instruction of this size that the words decode to, or that there is none
abbrev pub IsWhole : ℕ → ℕ → ℕ → Option Insn → Type 0
IsWhole first second size (Some i) = Reads first second i × (size_of i ≡ size)
IsWhole first second size None = (i : Insn) → Reads first second i → size_of i ≡ size → ⊥
