-- How a string goes on, byte by byte.
use Rattle.std.proofs.Common.{◌≡◌, ℕ, ◌+◌, ◌<◌, Bool, true, false, not, eqb, List, ◌∷◌, length, get_or, drop, Option, Some, None, refl, ap, eq-eqb, inl, inr, ◌∙◌, arith}
use Rattle.std.specs.Option.{option_map}
use Rattle.std.proofs.lemmas.List.{at_drop_more}
use Rattle.std.proofs.lemmas.Bool.Decides.{eqb_tells}
use Rattle.c25_meaning_language.specs.Lexeme.{quoted_len}

moved : (o : Option ℕ) (i : ℕ) → option_map (λ n. i + n) (option_map (λ n. n + 1) o) ≡ option_map (λ n. i + 1 + n) o
moved None i = refl
moved (Some n) i = ap (λ (k : ℕ). Some k) (omega arith)

at_quote : (inside : Bool) (b : ℕ) (rest : List ℕ) → eqb b 34 ≡ true → quoted_len inside (b ∷ rest) ≡ option_map (λ n. n + 1) (quoted_len (not inside) rest)
at_quote true b rest h = rw h refl
at_quote false b rest h = rw h refl

at_other : (b : ℕ) (rest : List ℕ) → eqb b 34 ≡ false → quoted_len true (b ∷ rest) ≡ option_map (λ n. n + 1) (quoted_len true rest)
at_other b rest h = rw h refl

is_not : (a b : ℕ) → (a ≡ b → ⊥) → eqb a b ≡ false
is_not a b h = elim (eqb_tells a b) [ inl p ↦ absurd (h p.1) | inr q ↦ q.0 ]

-- a quote ends the string, or goes on with it
pub quote_more : (inside : Bool) (bs : List ℕ) (i : ℕ) → i < length bs → get_or bs i 0 ≡ 34 → option_map (λ n. i + n) (quoted_len inside (drop i bs)) ≡ option_map (λ n. i + 1 + n) (quoted_len (not inside) (drop (i + 1) bs))
quote_more inside bs i l h =
    ap (option_map (λ n. i + n)) (at_drop_more (quoted_len inside) bs i 0 l ∙ at_quote inside (get_or bs i 0) (drop (i + 1) bs) (eq-eqb _ _ h)) ∙ moved _ i

-- any other byte goes on with it
pub other_more : (bs : List ℕ) (i : ℕ) → i < length bs → (get_or bs i 0 ≡ 34 → ⊥) → option_map (λ n. i + n) (quoted_len true (drop i bs)) ≡ option_map (λ n. i + 1 + n) (quoted_len true (drop (i + 1) bs))
other_more bs i l h =
    ap (option_map (λ n. i + n)) (at_drop_more (quoted_len true) bs i 0 l ∙ at_other (get_or bs i 0) (drop (i + 1) bs) (is_not _ _ h)) ∙ moved _ i
