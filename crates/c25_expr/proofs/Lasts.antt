-- The last element of a list is the first of the list in reverse.
use Rattle.std.proofs.Common.{◌≡◌, ℕ, ◌-◌, ◌<◌, List, [], ◌∷◌, ◌++◌, length, get_or, reverse, map, Option, Some, option_to_list, slice_get, ap, sym, ◌∙◌, arith}
use Rattle.std.proofs.lemmas.List.{reverse-append, map-append}
use Rattle.std.proofs.lemmas.Option.{get_or_from_slice_get, slice_get_within}

-- where the last element is taken off
pub reverse_popped : {A : Type 0} (xs ys : List A) (n : ℕ) (o : Option A) (x : A) → length xs ≡ n → slice_get xs (length xs - 1) ≡ Some x → ((d : A) → 0 < n → o ≡ Some (get_or xs (n - 1) d)) → xs ≡ ys ++ option_to_list o → reverse xs ≡ x ∷ reverse ys
reverse_popped xs ys n o x len last taken items =
    let some : 0 < n = omega (arith, len, slice_get_within xs (length xs - 1) x last) in
    let there : slice_get xs (n - 1) ≡ Some x = ap (λ (k : ℕ). slice_get xs (k - 1)) (sym len) ∙ last in
    let same : o ≡ Some x = taken x some ∙ ap (λ y. Some y) (get_or_from_slice_get xs (n - 1) x x there) in
    ap reverse (items ∙ ap (λ p. ys ++ option_to_list p) same) ∙ reverse-append ys (x ∷ [])

-- where an element comes last
pub reverse_pushed : {A B : Type 0} (f : A → B) (xs ys : List A) (x : A) → ys ≡ xs ++ x ∷ [] → reverse (map f ys) ≡ f x ∷ reverse (map f xs)
reverse_pushed f xs ys x h = ap (λ zs. reverse (map f zs)) h ∙ ap reverse (map-append f xs (x ∷ [])) ∙ reverse-append (map f xs) (f x ∷ [])
