-- When what is known of a program is true in every run from a reset, and when no run leaves the program's code.
use Rattle.std.specs.Prelude.{◌≡◌, ℕ, ◌+◌, ◌≤◌, ◌⊎◌, true, false, None, Some}
use Rattle.c25_meaning_instructions.specs.declared.insn.Insn.{Insn}
use Rattle.c25_meaning_instructions.specs.Table.{size_of}
use Rattle.c25_meaning_processor.specs.Step.{is_unrepeatable}
use Rattle.c25_meaning_processor.specs.Statements.{Statements, Copied, copied_at, statement_at}
use Rattle.c25_meaning_pages.specs.declared.known.Known.{Known}
use Rattle.c25_meaning_pages.specs.Known.{Knowledge, LeadsTo, known_on_reset}
use Rattle.c25_meaning_pages.specs.Routines.{Acts, Repeats, Interrupts}

-- an instruction may act at an address: its statement stands there, or runs there in block B0
abbrev pub MayStand : Statements → ℕ → Insn → Type 0
MayStand statements address i =
    (statement_at statements.plain address ≡ Some i)
    ⊎ ((c : Copied) × (copied_at statements.copied address ≡ Some c) × (c.insn ≡ i))

-- the knowledge is inductive: a reset leads to address 0 with what is known there; where something is known, and the processor may be
-- awake, each instruction that may act there leads on to where no more is known, and so does each of its repetitions; and where INTM
-- may be 0 and EINT may not have been the last instruction, each of the three interrupt lines begins a routine
pub record IsInductive (statements : Statements) (knowledge : Knowledge) : Type 0 where
  pub first : LeadsTo knowledge known_on_reset 0 0
  pub acts : (context address : ℕ) (known : Known) (i : Insn) → knowledge.known_at context address ≡ Some known →
      known.asleep ≡ false → MayStand statements address i → Acts knowledge i known context address
  pub repeats : (context address : ℕ) (known : Known) (i : Insn) → knowledge.known_at context address ≡ Some known →
      known.asleep ≡ false → MayStand statements address i → Repeats knowledge i known address
  pub interrupts : (context address : ℕ) (known : Known) → knowledge.known_at context address ≡ Some known →
      known.masked ≡ false → known.shadowed ≡ false →
      Interrupts knowledge known 1 2 context address
      × Interrupts knowledge known 2 4 context address
      × Interrupts knowledge known 4 6 context address

-- the knowledge is closed: wherever something is known and the processor may be awake, a statement stands, which ends below FF00h,
-- where the program addresses of block B0 begin, and no statement runs in B0 at that address; and where the statement may not be
-- repeated, surely no repeat is running
pub record IsClosed (statements : Statements) (knowledge : Knowledge) : Type 0 where
  pub stands : (context address : ℕ) (known : Known) → knowledge.known_at context address ≡ Some known → known.asleep ≡ false →
      (i : Insn) × (statement_at statements.plain address ≡ Some i) × (copied_at statements.copied address ≡ None)
      × (address + size_of i ≤ 0xFF00)
  pub once : (context address : ℕ) (known : Known) (i : Insn) → knowledge.known_at context address ≡ Some known →
      known.asleep ≡ false → statement_at statements.plain address ≡ Some i → is_unrepeatable i ≡ true → known.once ≡ true

-- DP is surely this page before the statement at an address acts, in every context in which that statement is reached
abbrev pub IsSurelyOn : Knowledge → (address page : ℕ) → Type 0
IsSurelyOn knowledge address page =
    (context : ℕ) (known : Known) → knowledge.known_at context address ≡ Some known → known.page ≡ Some page
