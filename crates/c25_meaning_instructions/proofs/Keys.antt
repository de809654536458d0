-- Values with a key that computes: where a list of all values finds each by its key, each key belongs to one
-- value.
use Rattle.std.proofs.Common.{◌≡◌, ℕ, suc, Bool, true, false, Option, Some, None, List, [], ◌∷◌, cond, eqb, sym, ap, ◌∙◌, arith}
use Rattle.std.specs.List.{Contains}

-- the first of a list that has a key
abbrev pub found_by : {A : Type 0} → (A → ℕ) → ℕ → List A → Option A
found_by key k [] = None
found_by key k (x ∷ xs) = cond (eqb (key x) k) (Some x) (found_by key k xs)

-- `Some` keeps values apart
some_is : {A : Type 0} (a b : A) → Some a ≡ Some b → a ≡ b
some_is a b e = cc

-- where each is what a list finds for its key, one key is one's
pub one_by : {A : Type 0} (key : A → ℕ) (all : List A) → ((x : A) → found_by key (key x) all ≡ Some x) → (x y : A) → key x ≡ key y → x ≡ y
one_by key all found x y same = some_is x y (sym (found x) ∙ ap (λ k. found_by key k all) same ∙ found y)

-- what is found is in the list
pub found_in : {A : Type 0} (key : A → ℕ) (k : ℕ) (all : List A) (x : A) → found_by key k all ≡ Some x → Contains all x
found_in key k [] x e = absurd (cc)
found_in key k (y ∷ ys) x e = here_or (eqb (key y) k) e (found_in key k ys x)
  where
    here_or : (b : Bool) → cond b (Some y) (found_by key k ys) ≡ Some x → (found_by key k ys ≡ Some x → Contains ys x) → Contains (y ∷ ys) x
    here_or true is rest = (0, omega arith, some_is y x is)
    here_or false is rest = let at = rest is in (suc at.0, omega arith, at.2)
