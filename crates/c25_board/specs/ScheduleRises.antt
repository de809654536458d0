-- Schedules whose steps never fall.
use Rattle.std.specs.Prelude.{ℕ, ◌≤◌, List, [], ◌∷◌}
use Rattle.c25_meaning_processor.specs.declared.schedule.ScheduleEntry.{ScheduleEntry}

-- the first entry's step is at least this number, and no entry's step is less than the one before it
abbrev pub RisesFrom : ℕ → List ScheduleEntry → Type 0
RisesFrom step [] = Unit {0}
RisesFrom step (entry ∷ rest) = (step ≤ entry.step) × RisesFrom entry.step rest
