-- What a schedule has for a line, by the bit of the line.
use Rattle.std.proofs.Common.{◌≡◌, ◌∙◌, ℕ, false, List, Option, ap}
use Rattle.c25_meaning_processor.specs.declared.schedule.ScheduleEntry.{ScheduleEntry}
use Rattle.c25_unused_inputs.specs.Requests.{bit_of, last_step, next_step, request_of, unbegun}
use Rattle.c25_unused_inputs.specs.declared.requests.InterruptLine.{InterruptLine}
use Rattle.c25_unused_inputs.specs.declared.requests.Request.{Request}
use Rattle.c25_unused_inputs.specs.declared.requests.RunEnd.{RunEnd}

made : InterruptLine → (last next : Option ℕ) → Request
made line last next = record { line = line; last = last; next = next; enabled = false }

pub request_made : (entries : List ScheduleEntry) (end : RunEnd) (line : InterruptLine) (bit from : ℕ) (last next : Option ℕ) → bit ≡ bit_of line → from ≡ unbegun end
    → last ≡ last_step bit end.steps entries → next ≡ next_step bit from entries → record { line = line; last = last; next = next; enabled = false } ≡ request_of entries end line
unfolding made
request_made entries end line bit from last next same begins found after =
    ap (λ l. made line l next) (found ∙ ap (λ b. last_step b end.steps entries) same)
    ∙ ap (made line (last_step (bit_of line) end.steps entries)) (after ∙ ap (λ b. next_step b from entries) same ∙ ap (λ f. next_step (bit_of line) f entries) begins)
