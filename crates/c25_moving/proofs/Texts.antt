-- Texts after one another.
use Rattle.std.proofs.Common.{◌≡◌, ◌++◌, ◌∙◌, ℕ, List, [], ap, sym}
use Rattle.std.proofs.lemmas.List.{append_assoc, append-nil}

-- three pieces after a text
pub with_three : (known a b d text new : List ℕ) → text ≡ known → new ≡ text ++ (a ++ (b ++ (d ++ []))) → new ≡ known ++ a ++ b ++ d
with_three known a b d text new is added =
    added ∙ ap (λ (xs : List ℕ). xs ++ (a ++ (b ++ (d ++ [])))) is ∙ ap (λ (xs : List ℕ). known ++ (a ++ (b ++ xs))) (append-nil d)
    ∙ sym (append_assoc known a (b ++ d)) ∙ sym (append_assoc (known ++ a) b d)
