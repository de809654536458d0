-- Faults by number and name, one number after another.
use Rattle.std.specs.Prelude.{◌≡◌, ℕ, ◌<◌, All, AllPairs, Any, List, Option, Some, None}
use Rattle.c25_explain.specs.Explanation.{ExplainsName, IsAlike, IsExplanationOf, name_of, number_of}
use Rattle.c25_explain.specs.declared.fault.AnyFault.{AnyFault}
use Rattle.c25_explain.specs.declared.parts.Explanation.{Explanation}

-- the answer to a number and a name: the explanation of the fault that has both, or nothing
abbrev pub ExplainsAlike : ℕ → List ℕ → Option Explanation → Type 0
ExplainsAlike number name None = (fault : AnyFault) → number_of fault ≡ number → IsAlike (name_of fault) name → ⊥
ExplainsAlike number name (Some explanation) = ExplainsName name (Some explanation)

-- no fault whose number is lower has this name
abbrev pub NoneBelow : ℕ → List ℕ → Type 0
NoneBelow number name = (fault : AnyFault) → number_of fault < number → IsAlike (name_of fault) name → ⊥

-- the explanations of all faults whose numbers are lower, by rising numbers
pub record AreBelow (number : ℕ) (explanations : List Explanation) : Type 0 where
  pub only : All (λ e. (e.number < number) × ((fault : AnyFault) × IsExplanationOf fault e)) explanations
  pub each : (fault : AnyFault) → number_of fault < number → Any (IsExplanationOf fault) explanations
  pub rising : AllPairs (λ e later. e.number < later.number) explanations
