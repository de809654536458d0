-- The first lines of explanations and the lines of faults.
use Rattle.std.specs.Prelude.{◌≡◌, ℕ, List, ◌++◌, codes}
use Rattle.c25_chain.specs.FaultText.{fault_text}
use Rattle.c25_chain.specs.Refusal.{Fault}
use Rattle.c25_explain.specs.Explanation.{heading}
use Rattle.c25_explain.specs.Refusals.{of_fault}

-- the line of a fault ends with its heading, after its place
abbrev pub EndsWithHeading : Fault → Type 0
EndsWithHeading fault = (place : List ℕ) × (fault_text fault ≡ place ++ codes ": " ++ heading (of_fault fault))
