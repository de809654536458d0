-- A name without the `./` that begin it.
use Rattle.std.proofs.Common.{◌≡◌, ◌≢◌, ◌⊎◌, ◌==◌, ◌&&◌, ◌++◌, ◌∙◌, ℕ, Bool, true, false, if◌then◌else◌, List, [], ◌∷◌, ap, codes, eqb, inl, inr, refl, subst, sym}
use Rattle.std.proofs.lemmas.Bool.Decides.{eqb_tells}
use Rattle.std.specs.Str.Pattern.{FindsTextPrefix, LacksTextAt, StripsPrefix}
use Rattle.c25_move_files.specs.Names.{plain}

after_dot : (name inner : List ℕ) → name ≡ codes "./" ++ inner → plain name ≡ plain inner
unfolding plain
after_dot name inner is = subst (λ (t : List ℕ). plain t ≡ plain inner) (sym is) refl

-- what follows `./` in the rest of a name has the plain name of the whole
pub stripped : (name rest inner : List ℕ) → StripsPrefix (FindsTextPrefix (codes "./")) rest inner → plain rest ≡ plain name → plain inner ≡ plain name
stripped name rest inner found so_far = sym (after_dot rest inner (found.1.1 ∙ ap (λ r. codes "./" ++ r) (sym found.2))) ∙ so_far

two : (c d : ℕ) (cs : List ℕ) → ((rest : List ℕ) → c ∷ (d ∷ cs) ≢ 46 ∷ (47 ∷ rest)) → ((eqb c 46 ≡ true) × (c ≡ 46)) ⊎ ((eqb c 46 ≡ false) × (c ≢ 46)) → ((eqb d 47 ≡ true) × (d ≡ 47)) ⊎ ((eqb d 47 ≡ false) × (d ≢ 47))
    → plain (c ∷ (d ∷ cs)) ≡ c ∷ (d ∷ cs)
unfolding plain
two c d cs lacks (inl (dot, is_dot)) (inl (slash, is_slash)) = absurd (lacks cs (ap (λ x. x ∷ (d ∷ cs)) is_dot ∙ ap (λ y. 46 ∷ (y ∷ cs)) is_slash))
two c d cs lacks (inl (dot, is_dot)) (inr (slash, no_slash)) =
    subst (λ (a : Bool). (if (a && d == 47) then plain cs else c ∷ (d ∷ cs)) ≡ c ∷ (d ∷ cs)) (sym dot)
    (subst (λ (b : Bool). (if b then plain cs else c ∷ (d ∷ cs)) ≡ c ∷ (d ∷ cs)) (sym slash) refl)
two c d cs lacks (inr (dot, no_dot)) either = subst (λ (a : Bool). (if (a && d == 47) then plain cs else c ∷ (d ∷ cs)) ≡ c ∷ (d ∷ cs)) (sym dot) refl

already : (name : List ℕ) → ((rest : List ℕ) → name ≢ 46 ∷ (47 ∷ rest)) → name ≡ plain name
unfolding plain
already [] lacks = refl
already (c ∷ []) lacks = refl
already (c ∷ (d ∷ cs)) lacks = sym (two c d cs lacks (eqb_tells c 46) (eqb_tells d 47))

-- the rest of a name, which does not begin with `./`, is the plain name
pub all_stripped : (name rest : List ℕ) → LacksTextAt (codes "./") rest 0 → plain rest ≡ plain name → rest ≡ plain name
all_stripped name rest lacks so_far = already rest lacks ∙ so_far
