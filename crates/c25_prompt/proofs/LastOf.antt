-- The last of a list that grows.
use Rattle.std.proofs.Common.{◌≡◌, ℕ, suc, ◌-◌, ◌≤◌, List, [], ◌∷◌, ◌++◌, length, drop, take, refl, sym, ap, ◌∙◌, arith, ⊎_elim, append_assoc, length-append}
use Rattle.std.proofs.lemmas.Bool.{cases_lt}
use Rattle.std.proofs.lemmas.List.{append-nil, length-drop, take-append-drop}
use Rattle.c25_prompt.specs.Lasts.{last_of}

module _ {A : Type 0} where
  -- what stands before as many as are asked for does not count
  last_after : (n : ℕ) (front more : List A) → n ≤ length more → last_of n (front ++ more) ≡ last_of n more
  last_after n [] more enough = refl
  last_after n (x ∷ front) more enough =
      let long = length-append front more in
      let one : suc (length (front ++ more)) - n ≡ suc (length (front ++ more) - n) = omega (arith, enough, long) in
      ap (λ (k : ℕ). drop k (x ∷ (front ++ more))) one ∙ last_after n front more enough

  -- all are among the last where there are no more
  last_all : (n : ℕ) (items : List A) → length items ≤ n → last_of n items ≡ items
  last_all n items few =
      let none : length items - n ≡ 0 = omega arith in
      ap (λ (k : ℕ). drop k items) none

  -- the last of items and more are those of the last of the items and more
  last_and : (n : ℕ) (items more : List A) → last_of n (last_of n items ++ more) ≡ last_of n (items ++ more)
  last_and n items more =
      ⊎_elim
      (λ few. ap (λ (x : List A). last_of n (x ++ more)) (last_all n items (omega arith)))
      (λ many.
      let kept = length-drop (length items - n) items in
      let long = length-append (last_of n items) more in
      let enough : n ≤ length (last_of n items ++ more) = omega (arith, many, kept, long) in
      sym (last_after n (take (length items - n) items) (last_of n items ++ more) enough) ∙ ap (last_of n) (sym (append_assoc (take (length items - n) items) (last_of n items) more))
      ∙ ap (λ (x : List A). last_of n (x ++ more)) (take-append-drop (length items - n) items))
      (cases_lt (length items) n)

  last_last : (n : ℕ) (items : List A) → last_of n (last_of n items) ≡ last_of n items
  last_last n items = ap (last_of n) (sym (append-nil (last_of n items))) ∙ last_and n items [] ∙ ap (last_of n) (append-nil items)

  -- the last of what is kept are the last of all, and more
  pub kept_and : (n : ℕ) (items kept now more : List A) → kept ≡ last_of n items → now ≡ last_of n (kept ++ more) → now ≡ last_of n (items ++ more)
  kept_and n items kept now more same is = is ∙ ap (λ (x : List A). last_of n (x ++ more)) same ∙ last_and n items more

  pub kept_again : (n : ℕ) (items kept now : List A) → kept ≡ last_of n items → now ≡ last_of n kept → now ≡ last_of n items
  kept_again n items kept now same is = is ∙ ap (last_of n) same ∙ last_last n items

  -- there are never more than are asked for
  pub kept_few : (n : ℕ) (items kept : List A) → kept ≡ last_of n items → length kept ≤ n
  kept_few n items kept same =
      let long = ap length same ∙ length-drop (length items - n) items in
      omega (arith, long)

  -- what is no more than is asked for are the last of it
  pub all_kept : (n : ℕ) (kept : List A) → length kept ≤ n → kept ≡ last_of n kept
  all_kept n kept few = sym (last_all n kept few)

  pub none_kept : (n : ℕ) (kept : List A) → kept ≡ [] → kept ≡ last_of n []
  none_kept n kept none = none ∙ sym (last_all n [] (omega arith))
