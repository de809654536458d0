-- The printed text of a chain's run.
use Rattle.std.specs.Prelude.{ℕ, List, ◌++◌, codes}
use Rattle.std.specs.Fmt.{decimal}
use Rattle.c25_meaning_processor.specs.Run.{Ending, Ran, Left}
use Rattle.c25_meaning_processor.specs.RunText.{outputs_text, stop_name}
use Rattle.c25_board.specs.declared.board.Outcome.{Outcome}
use Rattle.c25_board.specs.declared.board.Outcome.TheVariants as outcome
use Rattle.c25_chain.specs.Run.{last_state}
use Rattle.c25_chain.specs.declared.chain.Chain.{Chain}

-- how a run ended after so many steps
abbrev pub outcome_text : Outcome → ℕ → List ℕ
outcome_text outcome.Ran steps = codes "ran " ++ decimal steps ++ codes "\n"
outcome_text (outcome.Left at stop) steps = codes "left " ++ decimal steps ++ codes " " ++ stop_name stop ++ codes "\n"
outcome_text (outcome.SinkFault at) steps = codes "sink " ++ decimal steps ++ codes "\n"

-- the outputs, and how the run ended
abbrev pub run_text : Chain → List ℕ
run_text chain = outputs_text chain.outputs.items ++ outcome_text chain.outcome chain.steps

-- ---- by the end of a run

-- how a run with this end ended
abbrev pub outcome_of : Ending → Outcome
outcome_of (Ran t) = outcome.Ran
outcome_of (Left j stop t) = outcome.Left j stop

-- how many of n steps were done
abbrev pub steps_of : ℕ → Ending → ℕ
steps_of n (Ran t) = n
steps_of n (Left j stop t) = j

-- the text of n steps with this end, which is that of an answer with this run
abbrev pub end_text : ℕ → Ending → List ℕ
end_text n e = outputs_text (last_state e).world.outputs ++ outcome_text (outcome_of e) (steps_of n e)
