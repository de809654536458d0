-- Runs of the same words with instructions at other places: what they have in common.
use Rattle.std.specs.Prelude.{◌≡◌, ◌⊎◌, ℕ, ◌+◌, ◌≤◌, List, [], ◌++◌}
use Rattle.c25_meaning_processor.specs.declared.stop.Stop.{Stop}
use Rattle.c25_meaning_processor.specs.declared.stop.Stop.TheVariants.{CodeWrite, OutOfCode}
use Rattle.c25_meaning_processor.specs.Run.{Ending, Left, Ran, Reaches, Signals}
use Rattle.c25_meaning_processor.specs.State.{State}
use Rattle.c25_meaning_processor.specs.WordStep.{WordStep}

-- a state without the places of instructions: it has no marks and no run marks
abbrev pub unmarked : State → State
unmarked s = record s { world = record s.world { marks = []; run_marks = [] } }

-- the end of a run, its state without the places of instructions
abbrev pub unmarked_end : Ending → Ending
unmarked_end (Ran t) = Ran (unmarked t)
unmarked_end (Left j stop t) = Left j stop (unmarked t)

-- the state in which a run ends
abbrev pub end_state : Ending → State
end_state (Ran t) = t
end_state (Left j stop t) = t

-- a stop that comes of the places of instructions: no instruction is found at PC, or a word of one would be
-- written
abbrev pub IsByPlaces : Stop → Type 0
IsByPlaces stop = (stop ≡ OutOfCode) ⊎ (stop ≡ CodeWrite)

-- a run of the words from t, which ended in the state `last`, was before step j in a state that is u but for
-- the places of instructions, and its outputs begin with those of u
pub record Passes (signals : Signals) (k : ℕ) (t last : State) (j : ℕ) (u : State) : Type 0 where
  pub done : ℕ
  pub at : j ≡ k + done
  pub passed : State
  pub reached : Reaches WordStep signals k done t passed
  pub same : unmarked passed ≡ unmarked u
  pub later : List (ℕ × ℕ)
  pub outputs : last.world.outputs ≡ u.world.outputs ++ later

-- a run did not stop before step j
abbrev pub StopsNoSooner : ℕ → Ending → Type 0
StopsNoSooner j (Ran t) = Unit {0}
StopsNoSooner j (Left i stop t) = j ≤ i

-- a run stopped in a step because of the places of instructions, in a state that the other run, from t, passed,
-- too, which did not stop before that step
abbrev pub LeavesFirst : Signals → ℕ → Ending → State → Ending → Type 0
LeavesFirst signals k (Ran u) t other = ⊥
LeavesFirst signals k (Left j stop u) t other = IsByPlaces stop × StopsNoSooner j other × Passes signals k t (end_state other) j u

-- two runs of the same number of steps from step k on, one from s and the other from t, did the same until one
-- left the code: both ended alike but for the places of instructions, or one of them ended because of these,
-- and the other one passed the state in which it did
abbrev pub Agree : Signals → ℕ → State → Ending → State → Ending → Type 0
Agree signals k s one t other =
    (unmarked_end one ≡ unmarked_end other) ⊎ (LeavesFirst signals k one t other ⊎ LeavesFirst signals k other s one)
