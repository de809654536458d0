-- A schedule as the interrupt lines and the BIO level of each step (SPRU014, "External Interrupts" and the page of BIOZ).
use Rattle.std.specs.Prelude.{ℕ, ◌==◌, Bool, true, List, [], ◌∷◌, filter, map, bit_or, nat_le}
use Rattle.c25_meaning_processor.specs.declared.schedule.Event.{Event}
use Rattle.c25_meaning_processor.specs.declared.schedule.Event.TheVariants.{Latch, Bio}
use Rattle.c25_meaning_processor.specs.declared.schedule.ScheduleEntry.{ScheduleEntry}
use Rattle.c25_meaning_processor.specs.Run.{Signals}

-- the events of those entries whose step passes a test, in order
abbrev pub events_at : (ℕ → Bool) → List ScheduleEntry → List Event
events_at is_meant entries = map (λ entry. entry.event) (filter (λ entry. is_meant entry.step) entries)

-- a set of interrupt lines, with the lines that some events latch
abbrev pub lines_after : ℕ → List Event → ℕ
lines_after lines [] = lines
lines_after lines (Latch more ∷ events) = lines_after (bit_or lines more.0) events
lines_after lines (Bio level ∷ events) = lines_after lines events

-- the BIO level after some events: that of the last one, or else the level before them
abbrev pub level_after : Bool → List Event → Bool
level_after level [] = level
level_after level (Latch lines ∷ events) = level_after level events
level_after level (Bio next ∷ events) = level_after next events

-- the signals of a schedule: in step k the interrupt lines that events of step k latch, and the BIO level of
-- the last event up to step k, 1 before the first
abbrev pub signals_of : List ScheduleEntry → Signals
signals_of entries =
    record {
      lines = λ k. record { 0 = lines_after 0 (events_at (λ step. step == k) entries) };
      bio = λ k. level_after true (events_at (λ step. nat_le step k) entries);
    }
