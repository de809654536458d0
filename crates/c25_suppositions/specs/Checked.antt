-- What a run says whose suppositions were tested.
use Rattle.std.specs.Prelude.{◌≡◌, ◌≤◌, ◌<◌, ◌/◌, ℕ, suc, pos, Some}
use Rattle.c25_board.specs.Run.{IsRun}
use Rattle.c25_board.specs.declared.board.Outcome.{Outcome}
use Rattle.c25_board.specs.declared.board.Outcome.TheVariants.{Ran, Left, SinkFault}
use Rattle.c25_meaning_common.specs.Fields.{field_number}
use Rattle.c25_meaning_common.specs.declared.relocation.RelocationKind.TheVariants.{Low7}
use Rattle.c25_meaning_instructions.specs.declared.insn.Insn.{Insn}
use Rattle.c25_meaning_instructions.specs.Table.{size_of}
use Rattle.c25_meaning_pages.specs.Inductive.{IsSurelyOn}
use Rattle.c25_meaning_pages.specs.Known.{Knowledge}
use Rattle.c25_meaning_pages.specs.Operands.{direct_of, operand_address}
use Rattle.c25_meaning_pages.specs.Supposed.{AreSupposed, LetsNoOther}
use Rattle.c25_meaning_processor.specs.Run.{Reaches, Signals}
use Rattle.c25_meaning_processor.specs.State.{State}
use Rattle.c25_meaning_processor.specs.Statements.{Statements}
use Rattle.c25_meaning_processor.specs.Step.{advanced, begun}
use Rattle.c25_meaning_processor.specs.WordStep.{WordStep}
use Rattle.c25_suppositions.specs.Breaches.{IsBreach}
use Rattle.c25_suppositions.specs.declared.breach.Breach.{Breach}
use Rattle.c25_suppositions.specs.declared.checking.Checked.{Checked}
use Rattle.c25_suppositions.specs.declared.checking.Checked.TheVariants as checked

-- how many steps of a run that ended so, up to step j, were begun: one that halts is begun, too
abbrev pub begun_steps : Outcome → (j : ℕ) → ℕ
begun_steps Ran j = j
begun_steps (Left at stop) j = suc j
begun_steps (SinkFault at) j = suc j

-- each state in which a step of a run began was as supposed, and IMR lets no other line through in the last state
pub record WasSupposed (statements : Statements) (knowledge : Knowledge) (signals : Signals) (s : State) (begins : ℕ) (t : State) : Type 0 where
  pub states : AreSupposed statements knowledge signals 0 begins s
  pub last : LetsNoOther knowledge (t.world.words 4)

-- t is the state of the first of n steps, begun in s, whose state is not as supposed, step j: the steps before it are done, and their
-- states were as supposed. Of the state after the last step only IMR counts
pub record IsUnsupposed (statements : Statements) (knowledge : Knowledge) (signals : Signals) (n : ℕ) (s : State) (breach : Breach) (j : ℕ) (t : State) : Type 0 where
  pub few : j ≤ n
  pub reached : Reaches WordStep signals 0 j s t
  pub before : AreSupposed statements knowledge signals 0 j s
  pub breaks : IsBreach statements knowledge (signals.lines j) t breach

-- the answer to n steps from the first on, begun in s, whose suppositions were tested: they led to t, up to step j
abbrev pub IsChecked : Statements → Knowledge → Signals → (n : ℕ) → State → Checked → (j : ℕ) → State → (failed fails : ℕ) → Type 0
IsChecked statements knowledge signals n s (checked.Supposed outcome) j t failed fails =
    IsRun signals 0 n s outcome j t failed fails × WasSupposed statements knowledge signals s (begun_steps outcome j) t
IsChecked statements knowledge signals n s (checked.Unsupposed breach) j t failed fails =
    IsUnsupposed statements knowledge signals n s breach j t × (fails ≡ failed)

-- in each of the first states of a run from state s, as many as are counted, DP is the page at each address where it is surely that
-- page, and a direct operand of a word on that page is that word; all after the interrupt that the next step may take
pub record KeepsToPages (knowledge : Knowledge) (signals : Signals) (s : State) (count : ℕ) : Type 0 where
  pub pages : (done : ℕ) (t : State) (address page : ℕ) → done < count → Reaches WordStep signals 0 done s t →
      IsSurelyOn knowledge address page → (begun (signals.lines done) t).pc ≡ address → (begun (signals.lines done) t).dp ≡ page
  pub operands : (done : ℕ) (t : State) (address word : ℕ) (i : Insn) → done < count → Reaches WordStep signals 0 done s t →
      IsSurelyOn knowledge address (word / 128) → direct_of i ≡ Some (field_number Low7 (pos word)) →
      (begun (signals.lines done) t).pc ≡ address → operand_address i (advanced (size_of i) (begun (signals.lines done) t)) ≡ Some word
