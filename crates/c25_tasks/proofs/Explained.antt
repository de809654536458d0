-- Words that `explain` is given.
use Rattle.std.proofs.Common.{◌≡◌, ◌<◌, ◌^◌, ℕ, List, arith, inl, inr, subst}
use Rattle.std.specs.Str.Parse.{IsNumeral, digits_value, without_leading_plus}
use Rattle.c25_report.specs.declared.ending.Ending.{Ending}
use Rattle.c25_tasks.specs.Explaining.{Explained, ExplainedName, ExplainedWord}
use Rattle.c25_tasks.specs.Tells.{Printed}

-- a text is a number from 0 to 255, with or without a plus in front
abbrev IsSmallNumber : List ℕ → Type 0
IsSmallNumber word = IsNumeral 10 (without_leading_plus word) × (digits_value 10 (without_leading_plus word) < 2 ^ 8)

pub word_of_number : (word : List ℕ) (number : ℕ) (e : Ending) (out : Printed) → IsSmallNumber word × (number ≡ digits_value 10 (without_leading_plus word)) → Explained number e out → ExplainedWord word e out
word_of_number word number e out (read, is) done = inl (number, omega (arith, read.1, is), (read.0, is), done)

pub word_of_name : (word : List ℕ) (e : Ending) (out : Printed) → (IsSmallNumber word → ⊥) → ExplainedName word e out → ExplainedWord word e out
word_of_name word e out none done = inr ((λ number small gives. none (gives.0, subst (λ (n : ℕ). n < 256) gives.1 small)), done)
