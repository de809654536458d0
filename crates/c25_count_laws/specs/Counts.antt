-- How often something happens at each address in a run: that the instruction there acts, or that a branch there is not
-- taken; and how many steps of a run sleep.
use Rattle.std.specs.Prelude.{◌≡◌, ℕ, zero, suc, ◌+◌, ◌%◌, ◌^◌, ◌<◌, ◌≤◌, ◌==◌, ◌⊎◌, ◌↔◌, Bool, true, List, Option, None, Some, Ok, if◌then◌else◌}
use Rattle.std.specs.List.{list_any}
use Rattle.c25_meaning_image.specs.declared.mark.RunMark.{RunMark}
use Rattle.c25_meaning_image.specs.Marks.{run_at, size_at}
use Rattle.c25_meaning_processor.specs.Run.{Reaches, Signals, Stepping}
use Rattle.c25_meaning_processor.specs.State.{State, World}
use Rattle.c25_meaning_processor.specs.Statements.{Statements, statement_step}
use Rattle.c25_meaning_processor.specs.Step.{begun}

-- the address of the instruction that acts in step k, from this state: PC after the interrupt that the step
-- itself takes, if it takes one; none while IDLE waits
abbrev pub acts_at : Signals → ℕ → State → Option ℕ
acts_at signals k s =
    let r = begun (signals.lines k) s in
    if r.asleep then None else Some r.pc

-- what may happen in step k, which leads from the first state to the second: the address where it does, if it does
abbrev pub Event : Type 0
Event = Signals → ℕ → State → State → Option ℕ

-- an instruction acts
abbrev pub acts : Event
acts signals k s t = acts_at signals k s

-- whether one of the branches at these addresses, each of two words, ends before this address
abbrev pub ends_at : List ℕ → ℕ → Bool
ends_at branches pc = list_any (λ branch. (branch + 2) % 2 ^ 16 == pc) branches

-- the address of the instruction that acted, where PC is the address after its two words
abbrev pub goes_on : Option ℕ → ℕ → Option ℕ
goes_on None pc = None
goes_on (Some acting) pc = if (acting + 2) % 2 ^ 16 == pc then Some acting else None

-- one of these branches acts and passes: the step goes on after its two words. A branch whose target is the address
-- after it always passes
abbrev pub passes : List ℕ → Event
passes branches signals k s t =
    let pc = t.registers.pc in
    if ends_at branches pc then goes_on (acts_at signals k s) pc else None

-- 1 at the address where something happened, 0 at each other address
abbrev pub one_at : Option ℕ → ℕ → ℕ
one_at None address = 0
one_at (Some here) address = if here == address then 1 else 0

-- n steps, the first of them step k, lead from s to t, and an event happens at each address as often in them as
-- the count says: each repetition is a step, and a step that stops leads nowhere and is not counted
abbrev pub Counted : Event → Stepping → Signals → ℕ → ℕ → State → (ℕ → ℕ) → State → Type 0
Counted event step signals k zero s count t = (s ≡ t) × ((address : ℕ) → count address ≡ 0)
Counted event step signals k (suc n) s count t =
    (u : State)
    × (before : ℕ → ℕ)
    × Counted event step signals k n s before u
    × step (signals.lines (k + n)) (signals.bio (k + n)) u (Ok t)
    × ((address : ℕ) → count address ≡ before address + one_at (event signals (k + n) u t) address)

-- the counts of an event in runs by these steps: a run that is counted reaches the state to which it is counted;
-- each run that reaches a state is counted; and two counts of a run give the same number at each address
pub record CountsRuns (event : Event) (step : Stepping) : Type 0 where
  pub reaches : (signals : Signals) (k n : ℕ) (s t : State) (count : ℕ → ℕ) → Counted event step signals k n s count t → Reaches step signals k n s t
  pub counted : (signals : Signals) (k n : ℕ) (s t : State) → Reaches step signals k n s t → (count : ℕ → ℕ) × Counted event step signals k n s count t
  pub once : (signals : Signals) (k n : ℕ) (s t u : State) (count other : ℕ → ℕ) → Counted event step signals k n s count t → Counted event step signals k n s other u → (address : ℕ) → count address ≡ other address

-- a branch passes at most as often as it acts
abbrev pub PassesAreFew : Stepping → Type 0
PassesAreFew step =
    (branches : List ℕ) (signals : Signals) (k n : ℕ) (s t u : State) (count passing : ℕ → ℕ) → Counted acts step signals k n s count t
    → Counted (passes branches) step signals k n s passing u → (address : ℕ) → passing address ≤ count address

-- the steps of a program's statements, as a relation
abbrev pub StatementStep : Statements → Stepping
StatementStep ss lines bio s outcome = outcome ≡ statement_step ss lines bio s

-- ---- where instructions act

-- one of the n steps from step k on, begun in s, is done by the instruction at an address: the step that
-- comes after `done` others, and leads from the old state to the new one
pub record ActsIn (step : Stepping) (signals : Signals) (k n : ℕ) (s : State) (address : ℕ) : Type 0 where
  pub done : ℕ
  pub before : done < n
  pub old : State
  pub new : State
  pub reached : Reaches step signals k done s old
  pub leads : step (signals.lines (k + done)) (signals.bio (k + done)) old (Ok new)
  pub acts : acts_at signals (k + done) old ≡ Some address

-- an instruction begins at an address, under this CNF: a mark is there, or under CNF 1 a run mark
abbrev pub BeginsAt : Bool → World → ℕ → Type 0
BeginsAt cnf w address =
    ((size : ℕ) × (size_at w.marks address ≡ Some size)) ⊎ ((cnf ≡ true) × ((m : RunMark) × (run_at w.run_marks address ≡ Some m)))

-- the count of a run is not 0 at just those addresses whose instruction does a step of it
abbrev pub CountsActs : Stepping → Type 0
CountsActs step =
    (signals : Signals) (k n : ℕ) (s t : State) (count : ℕ → ℕ) → Counted acts step signals k n s count t
    → (address : ℕ) → (0 < count address) ↔ ActsIn step signals k n s address

-- ---- all steps

-- 1 for a step that sleeps, 0 for one in which an instruction acts
abbrev pub one_asleep : Option ℕ → ℕ
one_asleep None = 1
one_asleep (Some acting) = 0

-- n steps, the first of them step k, lead from s to t, and this many of them sleep
abbrev pub Sleeps : Stepping → Signals → ℕ → ℕ → State → ℕ → State → Type 0
Sleeps step signals k zero s asleep t = (s ≡ t) × (asleep ≡ 0)
Sleeps step signals k (suc n) s asleep t =
    (u : State)
    × (before : ℕ)
    × Sleeps step signals k n s before u
    × step (signals.lines (k + n)) (signals.bio (k + n)) u (Ok t)
    × (asleep ≡ before + one_asleep (acts_at signals (k + n) u))

-- the sum of the counts at all addresses below a bound
abbrev pub sum_below : ℕ → (ℕ → ℕ) → ℕ
sum_below zero count = 0
sum_below (suc bound) count = sum_below bound count + count bound

-- no instruction at this address or at a later one was counted
abbrev pub NoneFrom : ℕ → (ℕ → ℕ) → Type 0
NoneFrom bound count = (address : ℕ) → bound ≤ address → count address ≡ 0

-- the counts of a run at all addresses below a bound from which on nothing was counted, and the steps that
-- slept, are all its steps; and there are such a bound and such a number
pub record CountsAll (step : Stepping) : Type 0 where
  pub sum : (signals : Signals) (k n : ℕ) (s t u : State) (count : ℕ → ℕ) (asleep bound : ℕ) → Counted acts step signals k n s count t → Sleeps step signals k n s asleep u → NoneFrom bound count → sum_below bound count + asleep ≡ n
  pub asleep : (signals : Signals) (k n : ℕ) (s t : State) (count : ℕ → ℕ) → Counted acts step signals k n s count t → (asleep : ℕ) × Sleeps step signals k n s asleep t
  pub bounded : (signals : Signals) (k n : ℕ) (s t : State) (count : ℕ → ℕ) → Counted acts step signals k n s count t → (bound : ℕ) × NoneFrom bound count
