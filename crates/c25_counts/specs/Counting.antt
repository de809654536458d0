-- What a run that counts says of the steps over the program words.
use Rattle.std.specs.Prelude.{◌≡◌, ℕ, ◌+◌, ◌<◌, ◌≤◌, ◌^◌, Bool, false, not, ◌||◌, List, Option, None, Some, nat_le, nat_lt, slice_index, slice_index_or, if◌then◌else◌}
use Rattle.c25_count_laws.specs.Counts.{Counted, Event, acts, ends_at, goes_on, one_at, passes}
use Rattle.c25_meaning_processor.specs.Run.{Ending, Left, Ran, Runs, Signals, Stepping}
use Rattle.c25_meaning_processor.specs.State.{State}
use Rattle.c25_meaning_processor.specs.WordStep.{WordStep}
use Rattle.c25_meaning_processor.specs.declared.registers.Registers.{Registers}

-- the counts of a list, by addresses
abbrev pub count_in : List ℕ → ℕ → ℕ
count_in counts address = slice_index counts address

-- this is the count of an event in the steps that are done of n steps from the first on, begun in state s, where they have
-- this end
abbrev pub AreCountsTo : Event → Stepping → Signals → ℕ → State → (ℕ → ℕ) → Ending → Type 0
AreCountsTo event step signals n s count (Ran t) = Counted event step signals 0 n s count t
AreCountsTo event step signals n s count (Left j stop t) = Counted event step signals 0 j s count t

-- these are the counts of what acts, and of what passes of these branches, in the steps that are done of n steps from the
-- first on, begun in state s
pub record CountsSteps (signals : Signals) (n : ℕ) (s : State) (branches acting passing : List ℕ) : Type 0 where
  pub end : Ending
  pub run : Runs WordStep signals 0 n s end
  pub acts : AreCountsTo acts WordStep signals n s (count_in acting) end
  pub passes : AreCountsTo (passes branches) WordStep signals n s (count_in passing) end

-- ---- what the code has

-- whether a branch ends before an address, by a list over all addresses
abbrev pub ends_in : List Bool → ℕ → Bool
ends_in ends pc = slice_index_or ends pc false

-- the list has before which addresses these branches end
abbrev pub AreEnds : List ℕ → List Bool → Type 0
AreEnds branches ends = (pc : ℕ) → ends_in ends pc ≡ ends_at branches pc

-- the branch that passed in the last step, in which an instruction acted at this address, where PC is this after the step; none where
-- that is counted, or nothing acted
abbrev pub owed : List Bool → (last : Option ℕ) → (pc : ℕ) → Option ℕ
owed ends last pc = if ends_in ends pc then goes_on last pc else None

-- the branch of which it is seen that it passed in the last step, from where an instruction acts in this one: at PC after the last
-- step, unless an interrupt is taken, whose vector is 2, 4 or 6
abbrev pub passed : List Bool → (last acting : Option ℕ) → Option ℕ
passed ends last None = None
passed ends last (Some acting) = if nat_lt 6 acting then owed ends last acting else None

-- whether the next step may not say where PC was: an interrupt may be taken in it, the processor sleeps, or PC may be taken for the
-- vector of an interrupt
abbrev pub is_hidden : Registers → Bool
is_hidden r = r.asleep || not r.intm || nat_le r.pc 6

-- no count is larger than this
abbrev pub AreFew : List ℕ → ℕ → Type 0
AreFew counts most = (address : ℕ) → count_in counts address ≤ most

-- the counts before and after something happened at an address, or nothing did, while a count is not larger than it can be
abbrev pub CountsOne : (before : List ℕ) → Option ℕ → (after : List ℕ) → Type 0
CountsOne before happened after =
    (address : ℕ) → count_in before address + one_at happened address < 2 ^ 32 → count_in after address ≡ count_in before address + one_at happened address
