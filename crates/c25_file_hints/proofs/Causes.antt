-- Why lines of samples and of schedules are refused.
use Rattle.std.proofs.Common.{◌≡◌, ℕ, ◌<◌, Bool, true, false, cond, List, [], ◌∷◌, Option, Some, None, is_none, is_some, refl, arith}
use Rattle.std.specs.Prelude.{nat_lt, option_and_then, option_map}
use Rattle.std.specs.List.{list_any}
use Rattle.std.proofs.lemmas.Bool.Decides.{nat_tests}
use Rattle.c25_meaning_common.specs.Digits.{decimal_of, hexadecimal_of}
use Rattle.c25_meaning_processor.specs.Samples.{sample_of}
use Rattle.c25_meaning_processor.specs.Schedule.{entry_of, event_of, last_step, timed}
use Rattle.c25_meaning_processor.specs.declared.sample.Sample.{Sample}
use Rattle.c25_meaning_processor.specs.declared.schedule.Event.{Event}
use Rattle.c25_meaning_processor.specs.declared.schedule.ScheduleEntry.{ScheduleEntry}
use Rattle.c25_file_hints.specs.Items.{IsEarlier, entry_cause, entry_parts_cause, first_failed, is_comment, or_comment, sample_cause}
use Rattle.c25_file_hints.specs.declared.cause.Cause.{Cause}
use Rattle.c25_file_hints.specs.declared.cause.Cause.TheVariants as cause

-- ---- samples

pair : (port word : Option ℕ) (made : ℕ → ℕ → Sample) (other : Cause → Cause)
    → is_none (option_and_then (λ p. option_map (made p) word) port) ≡ is_some (option_map other (first_failed (is_some port) cause.Port (is_some word) cause.Word))
pair None word made other = refl
pair (Some p) None made other = refl
pair (Some p) (Some w) made other = refl

pub sample : (before : List Sample) (part : List ℕ) (parts : List (List ℕ)) → is_none (sample_of before (part ∷ parts)) ≡ is_some (sample_cause (part ∷ parts))
sample before part [] = refl
sample before part (word ∷ []) = pair (decimal_of 15 part) (hexadecimal_of 4 word) (λ p w. record { port = p; word = w }) (or_comment (part ∷ word ∷ []))
sample before part (word ∷ other ∷ rest) = refl

-- ---- schedules

earlier : (before : List ScheduleEntry) (part : List ℕ) (parts : List (List ℕ)) (step : Option ℕ) (event : Option Event)
    → decimal_of 4294967295 part ≡ step → timed (last_step before) step event ≡ None
    → cond (is_some step) (cond (is_some event) cause.Order cause.Event) cause.Step ≡ cause.Order → IsEarlier before (part ∷ parts)
earlier before part parts None event is refused late = absurd cc
earlier before part parts (Some step) None is refused late = absurd cc
earlier before part parts (Some step) (Some event) is refused late = (step, is, by (nat_lt step (last_step before)) _ refl refused) where
  by : (b : Bool) (entry : ScheduleEntry) → nat_lt step (last_step before) ≡ b → cond b None (Some entry) ≡ None → step < last_step before
  by true entry less none = grind (arith, nat_tests)
  by false entry less none = absurd cc

-- without comments
parts_too_late : (before : List ScheduleEntry) (words : List (List ℕ)) → entry_of before words ≡ None → entry_parts_cause words ≡ cause.Order → IsEarlier before words
parts_too_late before [] refused late = absurd cc
parts_too_late before (part ∷ []) refused late = absurd cc
parts_too_late before (part ∷ event ∷ []) refused late = earlier before part (event ∷ []) (decimal_of 4294967295 part) (event_of event) refl refused late
parts_too_late before (part ∷ event ∷ other ∷ rest) refused late = absurd cc

-- where no comment stands in a line, the cause is that of its parts
of_parts : (comment : Bool) (because : Cause) → cond comment cause.Comment because ≡ cause.Order → because ≡ cause.Order
of_parts true because late = absurd cc
of_parts false because late = late

pub too_late : (before : List ScheduleEntry) (words : List (List ℕ)) → entry_of before words ≡ None → entry_cause words ≡ cause.Order → IsEarlier before words
too_late before words refused late = parts_too_late before words refused (of_parts (list_any is_comment words) (entry_parts_cause words) late)
