-- What is supposed of a run: which interrupt lines IMR lets through, which words are not written, and where BACC and CALA go.
use Rattle.std.specs.Prelude.{◌≡◌, ℕ, ◌+◌, ◌%◌, ◌^◌, ◌<◌, Bool, true, false, Some}
use Rattle.c25_meaning_instructions.specs.declared.insn.Insn.{Insn}
use Rattle.c25_meaning_instructions.specs.declared.insn.Insn.TheVariants as insn
use Rattle.c25_meaning_instructions.specs.declared.mnemonic.PlainName.TheVariants as plain
use Rattle.c25_meaning_instructions.specs.Table.{size_of}
use Rattle.c25_meaning_processor.specs.declared.lines.Lines.{Lines}
use Rattle.c25_meaning_processor.specs.State.{State}
use Rattle.c25_meaning_processor.specs.Step.{advanced, begun, has}
use Rattle.c25_meaning_processor.specs.Run.{Signals, Stepping, Ran, run_of}
use Rattle.c25_meaning_processor.specs.Statements.{Statements, standing, statement_step}
use Rattle.c25_meaning_pages.specs.Known.{Knowledge}
use Rattle.c25_meaning_pages.specs.KnownAfter.{written_address}

-- an interrupt mask lets no line through of the three that is not supposed to be let through
abbrev pub LetsNoOther : Knowledge → ℕ → Type 0
LetsNoOther knowledge mask =
    (has mask 1 ≡ true → has knowledge.lines 1 ≡ true) × (has mask 2 ≡ true → has knowledge.lines 2 ≡ true)
    × (has mask 4 ≡ true → has knowledge.lines 4 ≡ true)

-- whether an instruction goes to the address in the accumulator
abbrev pub goes_by_accumulator : Insn → Bool
goes_by_accumulator (insn.Plain plain.Bacc o) = true
goes_by_accumulator (insn.Plain plain.Cala o) = true
goes_by_accumulator i = false

-- a state is as supposed, with the interrupt lines of its step: IMR, data word 4, lets no other lines through; and where the processor
-- is awake in that step, the statement that acts does not write the data word that is to be spared there, and if it goes by the
-- accumulator, it goes to an address to which it is supposed to go
pub record IsSupposed (statements : Statements) (knowledge : Knowledge) (lines : Lines) (s : State) : Type 0 where
  pub lets : LetsNoOther knowledge (s.world.words 4)
  pub spares : (i : Insn) (word : ℕ) → (begun lines s).asleep ≡ false →
      standing statements (begun lines s).cnf s.world (begun lines s).pc ≡ Some i →
      knowledge.spared (begun lines s).pc ≡ Some word → written_address i (advanced (size_of i) (begun lines s)) ≡ Some word → ⊥
  pub goes : (i : Insn) → (begun lines s).asleep ≡ false →
      standing statements (begun lines s).cnf s.world (begun lines s).pc ≡ Some i → goes_by_accumulator i ≡ true →
      knowledge.may_go (begun lines s).pc ((begun lines s).acc.value % 2 ^ 16) ≡ true

-- one step of the statements, from a state that is as supposed
abbrev pub StepAsSupposed : Statements → Knowledge → Stepping
StepAsSupposed statements knowledge lines bio s outcome =
    IsSupposed statements knowledge lines s × (outcome ≡ statement_step statements lines bio s)

-- each state in which one of n steps of the statements begins, the first of them step k, is as supposed
abbrev pub AreSupposed : Statements → Knowledge → Signals → (k n : ℕ) → State → Type 0
AreSupposed statements knowledge signals k n s =
    (j : ℕ) (t : State) → j < n → run_of (statement_step statements) signals k j s ≡ Ran t
    → IsSupposed statements knowledge (signals.lines (k + j)) t
