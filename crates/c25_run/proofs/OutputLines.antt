-- Lines of outputs, one after another.
use Rattle.std.proofs.Common.{◌≡◌, ◌∙◌, ap, sym, append_assoc, arith, ℕ, ◌+◌, ◌/◌, ◌%◌, ◌<◌, ◌≤◌, List, [], ◌∷◌, ◌++◌, length, drop, get_or}
use Rattle.std.specs.Fmt.{decimal}
use Rattle.std.proofs.lemmas.Fmt.{decimal_digit, decimal_step}
use Rattle.std.proofs.lemmas.List.{at_drop_more, at_drop_all}
use Rattle.c25_meaning_processor.specs.RunText.{output_line, outputs_text}
use Rattle.c25_run.specs.Timed.{at_step, timed_line, timed_text}

pub outputs_more : (outputs : List (ℕ × ℕ)) (i : ℕ) (d : ℕ × ℕ) → i < length outputs → outputs_text (drop i outputs) ≡ output_line (get_or outputs i d) ++ outputs_text (drop (i + 1) outputs)
outputs_more outputs i d h = at_drop_more outputs_text outputs i d h

pub outputs_none : (outputs : List (ℕ × ℕ)) (i : ℕ) → length outputs ≤ i → outputs_text (drop i outputs) ≡ []
outputs_none outputs i h = at_drop_all outputs_text outputs i h

-- a number of two digits
pub two_digits : (n : ℕ) → 10 ≤ n → n < 100 → decimal n ≡ (48 + n / 10) ∷ (48 + n % 10) ∷ []
two_digits n some few = decimal_step n some (omega arith) ∙ ap (λ ds. ds ++ (48 + n % 10) ∷ []) (decimal_digit (n / 10) (omega arith))

pub two_behind : (xs ys zs : List ℕ) (n : ℕ) → 10 ≤ n → n < 100 → ys ≡ xs ++ (48 + n / 10) ∷ [] → zs ≡ ys ++ (48 + n % 10) ∷ [] → zs ≡ xs ++ decimal n
two_behind xs ys zs n some few first second =
    second ∙ ap (λ ds. ds ++ (48 + n % 10) ∷ []) first ∙ append_assoc xs ((48 + n / 10) ∷ []) ((48 + n % 10) ∷ []) ∙ ap (λ ds. xs ++ ds) (sym (two_digits n some few))

-- lines of the outputs of a step
pub timed_more : (step : ℕ) (outputs : List (ℕ × ℕ)) (i : ℕ) (d : ℕ × ℕ) → i < length outputs
    → timed_text (at_step step (drop i outputs)) ≡ timed_line (step, get_or outputs i d) ++ timed_text (at_step step (drop (i + 1) outputs))
timed_more step outputs i d h = at_drop_more (λ os. timed_text (at_step step os)) outputs i d h

pub timed_none : (step : ℕ) (outputs : List (ℕ × ℕ)) (i : ℕ) → length outputs ≤ i → timed_text (at_step step (drop i outputs)) ≡ []
timed_none step outputs i h = at_drop_all (λ os. timed_text (at_step step os)) outputs i h
