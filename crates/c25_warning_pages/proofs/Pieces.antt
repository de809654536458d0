-- Pieces of a text, one after the other.
use Rattle.std.proofs.Common.{◌≡◌, ℕ, List, ◌++◌, sym, ◌∙◌, append_assoc}

-- four pieces
pub four : (a b c d : List ℕ) → a ++ (b ++ (c ++ d)) ≡ a ++ b ++ c ++ d
four a b c d = sym (append_assoc a b (c ++ d)) ∙ sym (append_assoc (a ++ b) c d)

-- seven pieces
pub seven : (a b c d e f g : List ℕ) → a ++ (b ++ (c ++ (d ++ (e ++ (f ++ g))))) ≡ a ++ b ++ c ++ d ++ e ++ f ++ g
seven a b c d e f g =
    sym (append_assoc a b (c ++ (d ++ (e ++ (f ++ g))))) ∙ sym (append_assoc (a ++ b) c (d ++ (e ++ (f ++ g)))) ∙ sym (append_assoc (a ++ b ++ c) d (e ++ (f ++ g)))
    ∙ four (a ++ b ++ c ++ d) e f g
