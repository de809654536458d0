-- What the prompt finds in the run so far, from its first state on, whatever one step is (this project's own).
use Rattle.std.specs.Prelude.{◌≡◌, ◌≤◌, ℕ, zero, suc, ◌+◌, ◌-◌, Bool, true, false, List, [], ◌∷◌, ◌++◌, codes, Ok}
use Rattle.std.specs.Fmt.{decimal}
use Rattle.c25_meaning_common.specs.Digits.{four_digits}
use Rattle.c25_meaning_processor.specs.Goes.{is_met}
use Rattle.c25_meaning_processor.specs.Run.{Reaches, Signals, Stepping}
use Rattle.c25_meaning_processor.specs.State.{State}
use Rattle.c25_prompt.specs.Runs.{Goes, Passes}
use Rattle.c25_prompt.specs.declared.ended.Ended.{Ended}
use Rattle.c25_prompt.specs.declared.ended.Ended.TheVariants as ended

-- ---- where a run would have stopped

-- step j - 1 of the run from the first state leads to this state, and a run of it alone ends so
pub record EndsThere (step : Stepping) (signals : Signals) (breaks watches : List ℕ) (first : State) (end : Ended) (j : ℕ) (t : State) : Type 0 where
  pub done : ℕ
  pub from : State
  pub at : j ≡ done + 1
  pub reached : Reaches step signals 0 done first from
  pub goes : Goes step signals breaks watches done 1 from end j t

-- after j steps of the run from the first state a breakpoint is met, or a watched word is another, as the end
-- says; or no step is done
abbrev pub IsStop : Stepping → Signals → (breaks watches : List ℕ) → (first : State) → Ended → ℕ → State → Type 0
IsStop step signals breaks watches first ended.Ran j t = j ≡ 0
IsStop step signals breaks watches first ended.Met j t = EndsThere step signals breaks watches first ended.Met j t
IsStop step signals breaks watches first (ended.Left stop) j t = ⊥
IsStop step signals breaks watches first (ended.Changed address old new) j t = EndsThere step signals breaks watches first (ended.Changed address old new) j t
IsStop step signals breaks watches first ended.Full j t = ⊥

-- of the first n steps from the first state on, j lead to this state, where a breakpoint is met or a watched
-- word is another, as the end says, or which is the first; and after none of the steps from there on one is
pub record StopsLast (step : Stepping) (signals : Signals) (breaks watches : List ℕ) (first : State) (n : ℕ) (end : Ended) (j : ℕ) (t : State) : Type 0 where
  pub before : j ≤ n
  pub reached : Reaches step signals 0 j first t
  pub stops : IsStop step signals breaks watches first end j t
  pub last : State
  pub quiet : Passes step signals breaks watches j (n - j) t last

-- ---- how often a breakpoint is met

-- one for what is, none for what is not
abbrev pub one_if : Bool → ℕ
one_if true = 1
one_if false = 0

-- n steps, the first of them step k, lead from s to t, and after so many of them a breakpoint at this address is
-- met
abbrev pub Meets : Stepping → Signals → (address : ℕ) → ℕ → ℕ → State → (count : ℕ) → State → Type 0
Meets step signals address k zero s count t = (s ≡ t) × (count ≡ 0)
Meets step signals address k (suc n) s count t =
    (u : State) × (before : ℕ) × Meets step signals address k n s before u × step (signals.lines (k + n)) (signals.bio (k + n)) u (Ok t)
    × (count ≡ before + one_if (is_met (address ∷ []) t))

-- the line that says how often a breakpoint at an address was met
abbrev pub hits_text : (address count : ℕ) → List ℕ
hits_text address count = codes "hits " ++ four_digits address ++ codes " " ++ decimal count ++ codes "\n"

-- a text says how often a breakpoint at an address was met in n steps from the first state on
abbrev pub IsHits : Stepping → Signals → (first : State) → (address n : ℕ) → List ℕ → Type 0
IsHits step signals first address n text =
    (count : ℕ) × (last : State) × Meets step signals address 0 n first count last × (text ≡ hits_text address count)
