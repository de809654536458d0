-- What a session's answers say: what the definition says, or that the sink refused a word in one of the steps
-- (this project's own).
use Rattle.std.specs.Prelude.{◌≡◌, ◌<◌, ℕ, ◌+◌, Bool, true, false, List, []}
use Rattle.c25_board.specs.Board.{state, steps}
use Rattle.c25_board.specs.Run.{Puts}
use Rattle.c25_board.specs.declared.board.Board.{Board}
use Rattle.c25_board.specs.declared.ports.Feed as feeds
use Rattle.c25_board.specs.declared.ports.Sink as sinks
use Rattle.c25_board.specs.declared.run_to.Halted.{Halted}
use Rattle.c25_board.specs.declared.run_to.Halted.TheVariants as halted
use Rattle.c25_core.specs.Sink.{HasFailed}
use Rattle.c25_meaning_processor.specs.Goes.{Left, Met, Passes, Ran}
use Rattle.c25_meaning_debugger.specs.Debugger.{Answers, Point, Steps, tried}
use Rattle.c25_meaning_debugger.specs.Texts.{halting_text, sink_text}
use Rattle.c25_meaning_linking.specs.Linking.{ImageData}
use Rattle.c25_meaning_processor.specs.Run.{Signals}
use Rattle.c25_meaning_processor.specs.WordStep.{WordStep}
use Rattle.c25_meaning_processor.specs.declared.script.Cmd.{Cmd}
use Rattle.c25_meaning_processor.specs.declared.script.Cmd.TheVariants as cmd

-- where a session over a board stands with these breakpoints
abbrev pub point_of : {F S : Type 0} {feed : feeds.Ghosts F} {sink : sinks.Ghosts S} → Board F S feed sink → List ℕ → Point
point_of board breaks = record { steps = steps board; state = state board; breaks = breaks }

-- the sink refused a word in one of n steps from a point on, and after no step before that one a breakpoint
-- was met; the last two numbers are the sink's failures before and now
pub record IsSunk (signals : Signals) (breaks : List ℕ) (n : ℕ) (p : Point) (text : List ℕ) (q : Point) (before now : ℕ) : Type 0 where
  pub done : ℕ
  pub below : done < tried p.steps n
  pub passed : Passes WordStep signals breaks p.steps done p.state q.state
  pub steps : q.steps ≡ p.steps + done
  pub same : q.breaks ≡ p.breaks
  pub text_is : text ≡ sink_text q.steps
  pub refused : HasFailed before now
  pub puts : Puts signals q.steps q.state

-- the text of how a run ended, with so many steps done in all, and PC
abbrev pub end_text : Halted → ℕ → ℕ → List ℕ
end_text halted.Ran steps pc = halting_text Ran steps pc
end_text halted.Met steps pc = halting_text Met steps pc
end_text (halted.Left at stop) steps pc = halting_text (Left stop) steps pc
end_text (halted.SinkFault at) steps pc = sink_text at

-- whether the sink refused a word
abbrev pub is_sunk : Halted → Bool
is_sunk (halted.SinkFault at) = true
is_sunk _ = false

-- the answer to n steps: how they ended, or that the sink refused a word
abbrev pub StepsTold : Signals → List ℕ → ℕ → Point → List ℕ → Point → Bool → ℕ → ℕ → Type 0
StepsTold signals breaks n p text q false before now = Steps WordStep signals breaks n p text q × (now ≡ before)
StepsTold signals breaks n p text q true before now = IsSunk signals breaks n p text q before now

-- the answer to a command
abbrev pub Told : Signals → ImageData → Cmd → Point → List ℕ → Point → Bool → ℕ → ℕ → Type 0
Told signals image (cmd.Step n) p text q refused before now = StepsTold signals [] n p text q refused before now
Told signals image (cmd.Run n) p text q refused before now = StepsTold signals p.breaks n p text q refused before now
Told signals image c p text q refused before now = Answers WordStep signals image c p text q × (refused ≡ false) × (now ≡ before)
