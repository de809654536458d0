-- A text that gets two others.
use Rattle.std.proofs.Common.{◌≡◌, ◌++◌, List, ℕ, Result, subst}
use Rattle.std.specs.Prelude.{OnOk}

-- two pieces after a text, in other words
pub two_pieces : {A E : Type 0} (old new first second a b : List ℕ) (r : Result A E) → OnOk r (new ≡ old ++ (first ++ second)) → first ≡ a → second ≡ b → OnOk r (new ≡ old ++ (a ++ b))
two_pieces old new first second a b r is one two =
    subst (λ (t : List ℕ). OnOk r (new ≡ old ++ (a ++ t))) two (subst (λ (t : List ℕ). OnOk r (new ≡ old ++ (t ++ second))) one is)
