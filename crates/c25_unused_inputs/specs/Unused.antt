-- What a run did not use of its inputs.
use Rattle.std.specs.Prelude.{◌≡◌, ℕ, Bool, false, List, [], ◌++◌, Option, Some, None}
use Rattle.c25_meaning_processor.specs.Run.{Reaches}
use Rattle.c25_meaning_processor.specs.Signals.{signals_of}
use Rattle.c25_meaning_processor.specs.State.{State}
use Rattle.c25_meaning_processor.specs.WordStep.{WordStep}
use Rattle.c25_meaning_processor.specs.declared.schedule.ScheduleEntry.{ScheduleEntry}
use Rattle.c25_unused_inputs.specs.Ports.{counts_of, unread_lines}
use Rattle.c25_unused_inputs.specs.Requests.{bit_of, number_of, requests_of, unwatched}
use Rattle.c25_unused_inputs.specs.Texts.{reason_text, request_name, unreached_text}
use Rattle.c25_unused_inputs.specs.Watched.{KnowAll, intm, is_unmasked}
use Rattle.c25_unused_inputs.specs.declared.requests.InterruptLine.{InterruptLine}
use Rattle.c25_unused_inputs.specs.declared.requests.Request.{Request}
use Rattle.c25_unused_inputs.specs.declared.requests.Requests.{Requests}
use Rattle.c25_unused_inputs.specs.declared.requests.RunEnd.{RunEnd}

-- ---- the lines of interrupts

-- the lines of the last interrupt of a line, by whether the line was enabled since; nothing where it was
abbrev pub waiting_lines : InterruptLine → Option ℕ → (enabled : Bool) → State → List ℕ
waiting_lines line (Some step) false t =
    request_name (number_of line) step ++ reason_text (number_of line) (bit_of line) (is_unmasked (bit_of line) t) (intm t)
waiting_lines line _ _ t = []

-- the line of the first interrupt of a line after a run of so many steps
abbrev pub unreached_line : InterruptLine → Option ℕ → (steps : ℕ) → List ℕ
unreached_line line (Some step) steps = request_name (number_of line) step ++ unreached_text steps
unreached_line line None steps = []

-- the lines of one interrupt line, after so many steps that led to state t
abbrev pub request_lines : (steps : ℕ) → State → Request → List ℕ
request_lines steps t r = waiting_lines r.line r.last r.enabled t ++ unreached_line r.line r.next steps

-- the lines of the three
abbrev pub requests_lines : (steps : ℕ) → State → Requests → List ℕ
requests_lines steps t rs = request_lines steps t rs.int0 ++ request_lines steps t rs.int1 ++ request_lines steps t rs.int2

-- ---- a run

-- the lines of what a run from state s that ends so did not use: by how many samples each port had, and has left in the last
-- state, and by whether interrupts of a line were enabled since the schedule latched it
pub record IsUnused (had : List ℕ) (entries : List ScheduleEntry) (s : State) (end : RunEnd) (text : List ℕ) : Type 0 where
  pub last : State
  pub reached : Reaches WordStep (signals_of entries) 0 end.steps s last
  pub requests : Requests
  pub of_schedule : unwatched requests ≡ requests_of entries end
  pub known : KnowAll (signals_of entries) end.steps s requests
  pub text_is : text ≡ unread_lines had (counts_of last.world.samples) ++ requests_lines end.steps last requests
