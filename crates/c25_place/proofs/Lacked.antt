-- The first item of what a list stands for that passes a test, in a list that is gone over.
use Rattle.std.proofs.Common.{◌≡◌, ℕ, zero, suc, ◌+◌, ◌<◌, ◌≤◌, Bool, true, false, cond, List, [], ◌∷◌, length, get_or, take, map, find, Option, Some, None, refl, sym, ap, ◌∙◌, arith, add-one}
use Rattle.std.proofs.lemmas.List.{take_all}

module _ {A B : Type 0} (test : B → Bool) (f : A → B) where
  passed_over : (t : Bool) (y : B) (o : Option B) → cond t (Some y) o ≡ None → (t ≡ false) × (o ≡ None)
  passed_over true y o e = absurd cc
  passed_over false y o e = (refl, e)

  pub found_at : (xs : List A) (i : ℕ) (d : A) → i < length xs → find test (map f (take i xs)) ≡ None → test (f (get_or xs i d)) ≡ true → Some (f (get_or xs i d)) ≡ find test (map f xs)
  found_at [] i d lt before pass = absurd (omega arith)
  found_at (x ∷ xs) zero d lt before pass = ap (λ b. cond b (Some (f x)) (find test (map f xs))) (sym pass)
  found_at (x ∷ xs) (suc i) d lt before pass =
      let over = passed_over (test (f x)) (f x) (find test (map f (take i xs))) before in
      found_at xs i d (omega arith) over.1 pass ∙ ap (λ b. cond b (Some (f x)) (find test (map f xs))) (sym over.0)

  none_after : (xs : List A) (i : ℕ) (d : A) → i < length xs → find test (map f (take i xs)) ≡ None → test (f (get_or xs i d)) ≡ false → find test (map f (take (suc i) xs)) ≡ None
  none_after [] i d lt before fail = absurd (omega arith)
  none_after (x ∷ xs) zero d lt before fail = ap (λ b. cond b (Some (f x)) (find test (map f (take 0 xs)))) fail
  none_after (x ∷ xs) (suc i) d lt before fail =
      let over = passed_over (test (f x)) (f x) (find test (map f (take i xs))) before in
      ap (λ b. cond b (Some (f x)) (find test (map f (take (suc i) xs)))) over.0 ∙ none_after xs i d (omega arith) over.1 fail

  pub none_more : (xs : List A) (i : ℕ) (d : A) → i < length xs → find test (map f (take i xs)) ≡ None → test (f (get_or xs i d)) ≡ false → find test (map f (take (i + 1) xs)) ≡ None
  none_more xs i d lt before fail = ap (λ n. find test (map f (take n xs))) (add-one i) ∙ none_after xs i d lt before fail

  pub none_at_all : (xs : List A) (i : ℕ) → length xs ≤ i → find test (map f (take i xs)) ≡ None → None ≡ find test (map f xs)
  none_at_all xs i le none = sym none ∙ ap (λ zs. find test (map f zs)) (take_all i xs le)
