-- The interrupts of a schedule, by their lines, seen from the end of a run.
use Rattle.std.specs.Prelude.{ℕ, ◌+◌, Bool, false, ◌&&◌, List, Option, Some, None, nat_le, nat_lt, if◌then◌else◌}
use Rattle.std.specs.List.{fold}
use Rattle.c25_meaning_processor.specs.Step.{has}
use Rattle.c25_meaning_processor.specs.declared.schedule.Event.{Event}
use Rattle.c25_meaning_processor.specs.declared.schedule.Event.TheVariants.{Bio, Latch}
use Rattle.c25_meaning_processor.specs.declared.schedule.ScheduleEntry.{ScheduleEntry}
use Rattle.c25_meaning_processor.specs.declared.stop.Stop.{Stop}
use Rattle.c25_unused_inputs.specs.declared.requests.InterruptLine.{InterruptLine}
use Rattle.c25_unused_inputs.specs.declared.requests.InterruptLine.TheVariants as line
use Rattle.c25_unused_inputs.specs.declared.requests.Request.{Request}
use Rattle.c25_unused_inputs.specs.declared.requests.Requests.{Requests}
use Rattle.c25_unused_inputs.specs.declared.requests.RunEnd.{RunEnd}

-- the number of a line, as its name has it and as that of its bit in IMR
abbrev pub number_of : InterruptLine → ℕ
number_of line.Int0 = 0
number_of line.Int1 = 1
number_of line.Int2 = 2

-- the bit of a line in IMR and in a set of lines
abbrev pub bit_of : InterruptLine → ℕ
bit_of line.Int0 = 1
bit_of line.Int1 = 2
bit_of line.Int2 = 4

-- whether an event latches a line, which is given by its bit
abbrev pub latches : ℕ → Event → Bool
latches bit (Latch lines) = has lines.0 bit
latches bit (Bio level) = false

-- whether an entry latches a line in a step below a number
abbrev pub is_before : (bit below : ℕ) → ScheduleEntry → Bool
is_before bit below entry = latches bit entry.event && nat_lt entry.step below

-- whether an entry latches a line in a step from a number on
abbrev pub is_from : (bit from : ℕ) → ScheduleEntry → Bool
is_from bit from entry = latches bit entry.event && nat_le from entry.step

-- the step of the last entry that latches a line in a step below a number, if there is one
abbrev pub later : (bit below : ℕ) → Option ℕ → ScheduleEntry → Option ℕ
later bit below found entry = if is_before bit below entry then Some entry.step else found

abbrev pub last_step : (bit below : ℕ) → List ScheduleEntry → Option ℕ
last_step bit below entries = fold (later bit below) None entries

-- the step of the first entry that latches a line in a step from a number on, if there is one
abbrev pub sooner : (bit from : ℕ) → Option ℕ → ScheduleEntry → Option ℕ
sooner bit from (Some step) entry = Some step
sooner bit from None entry = if is_from bit from entry then Some entry.step else None

abbrev pub next_step : (bit from : ℕ) → List ScheduleEntry → Option ℕ
next_step bit from entries = fold (sooner bit from) None entries

-- the first step that a run did not begin: where a step stopped, the one after it
abbrev pub unbegun_after : ℕ → Option Stop → ℕ
unbegun_after steps None = steps
unbegun_after steps (Some stop) = steps + 1

abbrev pub unbegun : RunEnd → ℕ
unbegun end = unbegun_after end.steps end.stop

-- what a schedule has for a line before the first step of a run that ends so
abbrev pub request_of : List ScheduleEntry → RunEnd → InterruptLine → Request
request_of entries end line =
    record { line = line; last = last_step (bit_of line) end.steps entries; next = next_step (bit_of line) (unbegun end) entries; enabled = false }

abbrev pub requests_of : List ScheduleEntry → RunEnd → Requests
requests_of entries end =
    record { int0 = request_of entries end line.Int0; int1 = request_of entries end line.Int1; int2 = request_of entries end line.Int2 }

-- what requests are before a run, whatever is known of them after some of its steps
abbrev pub unwatched_one : Request → Request
unwatched_one r = record r { enabled = false }

abbrev pub unwatched : Requests → Requests
unwatched rs = record { int0 = unwatched_one rs.int0; int1 = unwatched_one rs.int1; int2 = unwatched_one rs.int2 }
