-- Schedules: on each line a step and an event, and no step is less than that of the line before (this
-- project's own; the interrupt lines are those of SPRU014, "External Interrupts", and BIO is the input that
-- BIOZ tests).
use Rattle.std.specs.Prelude.{ℕ, ◌-◌, true, false, List, [], ◌∷◌, length, codes, slice_get, Option, Some, None, option_map, unwrap_or, Result, nat_lt, if◌then◌else◌}
use Rattle.std.specs.Str.{str_eq_ignore_ascii_case}
use Rattle.c25_meaning_processor.specs.declared.schedule.Event.{Event}
use Rattle.c25_meaning_processor.specs.declared.schedule.Event.TheVariants.{Latch, Bio}
use Rattle.c25_meaning_processor.specs.declared.schedule.ScheduleEntry.{ScheduleEntry}
use Rattle.c25_meaning_common.specs.Digits.{decimal_of}
use Rattle.c25_meaning_common.specs.Items.{ItemOf, items_of}

-- the event that a name stands for, in upper or lower case: an interrupt line is latched, or BIO has a level
-- from this step on
unfoldable pub event_of : List ℕ → Option Event
event_of word =
    if str_eq_ignore_ascii_case word (codes "int0") then Some (Latch (record { 0 = 1 }))
    else (if str_eq_ignore_ascii_case word (codes "int1") then Some (Latch (record { 0 = 2 }))
    else (if str_eq_ignore_ascii_case word (codes "int2") then Some (Latch (record { 0 = 4 }))
    else (if str_eq_ignore_ascii_case word (codes "bio0") then Some (Bio false)
    else (if str_eq_ignore_ascii_case word (codes "bio1") then Some (Bio true)
    else None))))

-- the step of the last entry so far, 0 where there is none
abbrev pub last_step : List ScheduleEntry → ℕ
last_step before = unwrap_or (option_map (λ entry. entry.step) (slice_get before (length before - 1))) 0

-- the entry of a step and an event, if both are valid and the step is not less than the last
abbrev pub timed : ℕ → Option ℕ → Option Event → Option ScheduleEntry
timed last (Some step) (Some event) = if nat_lt step last then None else Some (record { step = step; event = event })
timed last _ _ = None

-- the entry of a line after these entries, if its two parts are a step, in decimal, and an event
abbrev pub entry_of : ItemOf ScheduleEntry
entry_of before (step ∷ event ∷ []) = timed (last_step before) (decimal_of 4294967295 step) (event_of event)
entry_of before _ = None

-- the schedule of a text, or the number of its first faulty line
abbrev pub schedule_of : List ℕ → Result (List ScheduleEntry) ℕ
schedule_of = items_of entry_of
