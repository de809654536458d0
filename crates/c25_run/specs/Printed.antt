-- Steps of a board, whose outputs are printed as they go.
use Rattle.std.specs.Prelude.{◌≡◌, ◌⊎◌, ℕ, ◌+◌, ◌≤◌, Bool, true, false, List, [], ◌++◌, Option}
use Rattle.std.specs.Io.KnownBytes.{Appends}
use Rattle.c25_board.specs.declared.board.Outcome.{Outcome}
use Rattle.c25_chain.specs.OutcomeText.{outcome_of, steps_of}
use Rattle.c25_chain.specs.Run.{last_state}
use Rattle.c25_meaning_processor.specs.Run.{Ending, Reaches, Runs, Signals}
use Rattle.c25_meaning_processor.specs.RunText.{outputs_text}
use Rattle.c25_meaning_processor.specs.State.{State}
use Rattle.c25_meaning_processor.specs.WordStep.{WordStep}
use Rattle.c25_run_laws.specs.Behind.{behind}
use Rattle.c25_report.specs.Ending.{HasFront}
use Rattle.c25_run.specs.Timed.{IsEndText, PutIn, PutTo, TimedOutput, at_step, timed_text}
use Rattle.c25_run.specs.declared.batch.Batch.{Batch}

-- a batch is empty and has refused nothing
abbrev pub IsFresh : Batch → Type 0
IsFresh batch = (batch.outputs.items ≡ []) × (batch.failures ≡ 0)

-- n steps from step k on ended with this outcome, with j done in all: their outputs are printed, and t is
-- what the board holds of their last state, in which the outputs that were printed stand before those that it
-- still has
pub record PrintsSome (signals : Signals) (k n : ℕ) (s : State) (o : Outcome) (j : ℕ) (t : State) (old new : Option (List ℕ)) : Type 0 where
  pub end : Ending
  pub run : Runs WordStep signals k n s end
  pub outcome_is : o ≡ outcome_of end
  pub count : j ≡ steps_of (k + n) end
  pub outputs : List (ℕ × ℕ)
  pub left : last_state end ≡ behind outputs t
  pub printed : Appends old new (outputs_text outputs)

-- of n steps from step k on some were done, and some first bytes of the text of their outputs are printed
pub record BreaksOff (signals : Signals) (k n : ℕ) (s : State) (old new : Option (List ℕ)) : Type 0 where
  pub done : ℕ
  pub few : done ≤ n
  pub reached : State
  pub reaches : Reaches WordStep signals k done s reached
  pub front : HasFront (outputs_text reached.world.outputs) old new

-- n steps from the first on ended with this outcome, with j done, and their text is printed
pub record PrintsAll (when : Bool) (signals : Signals) (n : ℕ) (s : State) (o : Outcome) (j : ℕ) (t : State) (old new : Option (List ℕ)) : Type 0 where
  pub end : Ending
  pub run : Runs WordStep signals 0 n s end
  pub outcome_is : o ≡ outcome_of end
  pub count : j ≡ steps_of n end
  pub outputs : List (ℕ × ℕ)
  pub left : last_state end ≡ behind outputs t
  pub text : List ℕ
  pub text_is : IsEndText when WordStep signals n s end text
  pub printed : Appends old new text

-- of n steps from the first on some were done, and some first bytes of the text of their outputs with their steps are printed
pub record TimedBreaksOff (signals : Signals) (n : ℕ) (s : State) (old new : Option (List ℕ)) : Type 0 where
  pub done : ℕ
  pub few : done ≤ n
  pub reached : State
  pub timed : List TimedOutput
  pub put : PutIn WordStep signals 0 done s timed reached
  pub front : HasFront (timed_text timed) old new

-- of n steps from the first on some were done, and some first bytes of the text of their outputs are printed
abbrev pub BreaksOffIn : (when : Bool) → Signals → ℕ → State → Option (List ℕ) → Option (List ℕ) → Type 0
BreaksOffIn false signals n s old new = BreaksOff signals 0 n s old new
BreaksOffIn true signals n s old new = TimedBreaksOff signals n s old new

-- some first bytes of the text of the n steps with this end are printed
abbrev pub HasFrontOf : (when : Bool) → Signals → ℕ → State → Ending → Option (List ℕ) → Option (List ℕ) → Type 0
HasFrontOf when signals n s end old new = (text : List ℕ) × IsEndText when WordStep signals n s end text × HasFront text old new

-- some first bytes of the text of n steps are printed: of the outputs of some steps, or of the whole text
abbrev pub PrintsFront : (when : Bool) → Signals → ℕ → State → Option (List ℕ) → Option (List ℕ) → Type 0
PrintsFront when signals n s old new = BreaksOffIn when signals n s old new ⊎ ((end : Ending) × Runs WordStep signals 0 n s end × HasFrontOf when signals n s end old new)

-- ---- outputs with their steps

-- step k from state s on has this outcome, with j done in all, and the lines of its outputs come after other lines; t is what the
-- board holds of the state after it, in which these outputs stand before those that it still has
pub record PutsLines (signals : Signals) (k : ℕ) (s : State) (o : Outcome) (j : ℕ) (t : State) (before after : List ℕ) : Type 0 where
  pub end : Ending
  pub run : Runs WordStep signals k 1 s end
  pub outcome_is : o ≡ outcome_of end
  pub count : j ≡ steps_of (k + 1) end
  pub outputs : List (ℕ × ℕ)
  pub left : last_state end ≡ behind outputs t
  pub lines : after ≡ before ++ timed_text (at_step k outputs)

-- n steps from the first on ended with this outcome, with j done: the lines of their outputs are printed, but for these, which come
-- last; and t is what the board holds of their last state
pub record TimedSome (signals : Signals) (n : ℕ) (s : State) (o : Outcome) (j : ℕ) (t : State) (old new : Option (List ℕ)) (lines : List ℕ) : Type 0 where
  pub end : Ending
  pub run : Runs WordStep signals 0 n s end
  pub outcome_is : o ≡ outcome_of end
  pub count : j ≡ steps_of (0 + n) end
  pub outputs : List (ℕ × ℕ)
  pub left : last_state end ≡ behind outputs t
  pub timed : List TimedOutput
  pub put : PutTo WordStep signals n s timed end
  pub front : List ℕ
  pub printed : Appends old new front
  pub text_is : timed_text timed ≡ front ++ lines

-- lines are printed and taken away, or left as they are
pub record PrintsLines (before after : List ℕ) (old new : Option (List ℕ)) : Type 0 where
  pub front : List ℕ
  pub printed : Appends old new front
  pub lines : before ≡ front ++ after
