-- Worlds, states and ends of runs with further outputs before their own.
use Rattle.std.specs.Prelude.{ℕ, List, ◌++◌}
use Rattle.c25_meaning_processor.specs.Run.{Ending, Ran, Left}
use Rattle.c25_meaning_processor.specs.State.{State, World}

-- what lies around the processor, with these outputs before those that it has
abbrev pub world_behind : List (ℕ × ℕ) → World → World
world_behind outputs w = record w { outputs = outputs ++ w.outputs }

-- a state, with these outputs before those that it has
abbrev pub behind : List (ℕ × ℕ) → State → State
behind outputs s = record s { world = world_behind outputs s.world }

-- the end of a run, with these outputs before those of its state
abbrev pub end_behind : List (ℕ × ℕ) → Ending → Ending
end_behind outputs (Ran t) = Ran (behind outputs t)
end_behind outputs (Left j stop t) = Left j stop (behind outputs t)
