-- Counts and the steps that they have seen.
use Rattle.std.specs.Prelude.{◌≡◌, ℕ, ◌+◌, ◌<◌, ◌≤◌, Bool, true, false, ◌&&◌, List, Option, None, Err}
use Rattle.c25_board.specs.declared.run_to.Halted.{Halted}
use Rattle.c25_board.specs.declared.run_to.Halted.TheVariants as halted
use Rattle.c25_core.specs.Sink.{HasFailed}
use Rattle.c25_count_laws.specs.Counts.{Counted, acts, one_at, passes}
use Rattle.c25_counts.specs.Counting.{AreEnds, AreFew, CountsOne, count_in, ends_in, is_hidden, owed, passed}
use Rattle.c25_counts.specs.declared.counts.Counts.{Counts}
use Rattle.c25_meaning_processor.specs.Run.{Signals}
use Rattle.c25_meaning_processor.specs.State.{State}
use Rattle.c25_meaning_processor.specs.WordStep.{WordStep}

-- a step is seen in which the instruction at an address acted, or none did: what passed in the step before is counted, and
-- what passed in this step is not counted yet
abbrev pub SeesStep : (before : Counts) → Option ℕ → (after : Counts) → Type 0
SeesStep before acting after =
    CountsOne before.acts.items acting after.acts.items × CountsOne before.passes.items (passed before.ends.items before.last acting) after.passes.items
    × (after.ends.items ≡ before.ends.items) × (after.last ≡ acting)

-- a run is to be looked at after a step that leads to where a branch ends, if the next step may not say so
abbrev pub ends : Counts → State → Bool
ends counts s = ends_in counts.ends.items s.registers.pc && is_hidden s.registers

-- no more is to do after this answer
abbrev pub is_over : Halted → Bool
is_over halted.Met = false
is_over halted.Ran = true
is_over (halted.Left at stop) = true
is_over (halted.SinkFault at) = true

-- the counts before and after what passed in the last step is counted, after which PC is this
abbrev pub IsSettled : (before : Counts) → ℕ → (after : Counts) → Type 0
IsSettled before pc after =
    CountsOne before.passes.items (owed before.ends.items before.last pc) after.passes.items × (after.acts.items ≡ before.acts.items) × (after.ends.items ≡ before.ends.items)
    × (after.last ≡ None)

-- how often branches have passed, with what is not counted yet where PC is this
abbrev pub passes_with : Counts → (pc address : ℕ) → ℕ
passes_with counts pc address = count_in counts.passes.items address + one_at (owed counts.ends.items counts.last pc) address

-- these are the counts of the first k steps, begun in state s, which lead to state t
pub record AreCounts (signals : Signals) (k : ℕ) (s : State) (branches : List ℕ) (counts : Counts) (t : State) : Type 0 where
  pub acts : Counted acts WordStep signals 0 k s (count_in counts.acts.items) t
  pub passes : Counted (passes branches) WordStep signals 0 k s (passes_with counts t.registers.pc) t
  pub few : AreFew counts.acts.items k
  pub few_passes : (address : ℕ) → passes_with counts t.registers.pc address ≤ k
  pub ends : AreEnds branches counts.ends.items

-- the answer to at most so many steps from step k on, which led to step j and state t with these counts
abbrev pub CountsOn : Signals → (k most : ℕ) → State → List ℕ → Halted → (j : ℕ) → State → Counts → (failed fails : ℕ) → Type 0
CountsOn signals k most s branches halted.Ran j t counts failed fails = (j ≡ k + most) × AreCounts signals j s branches counts t
CountsOn signals k most s branches halted.Met j t counts failed fails = (k < j) × (j ≤ k + most) × AreCounts signals j s branches counts t
CountsOn signals k most s branches (halted.Left at stop) j t counts failed fails =
    (j < k + most) × (at ≡ j) × AreCounts signals j s branches counts t × WordStep (signals.lines at) (signals.bio at) t (Err stop)
CountsOn signals k most s branches (halted.SinkFault at) j t counts failed fails = HasFailed failed fails
