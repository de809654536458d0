-- The addresses at which two programs differ, one after another.
use Rattle.std.proofs.Common.{◌≡◌, ◌⊎◌, ◌++◌, ◌+◌, ◌<◌, ℕ, List, [], ◌∷◌, arith, inl, inr, length, length-append, slice_index, subst, sym}
use Rattle.std.proofs.lemmas.List.Elements.{All-nil, All-push, All-weaker, Contains-append_left, Contains-push}
use Rattle.std.proofs.lemmas.Bool.{cases_lt}
use Rattle.std.proofs.lemmas.List.{get_or_append_left, get_or_push}
use Rattle.std.specs.List.{All, Contains}
use Rattle.std.specs.List.Sorted.{IsStrictlyIncreasing}
use Rattle.c25_move_files.specs.Task.{Words}
use Rattle.c25_moving.specs.Differing.{AreDifferences, IsSame, IsSameAt}

-- no address is below the first
pub none_below : (old new : Words) → AreDifferences old new 0 []
none_below old new = record {
  ascend = λ k h. absurd (omega arith);
  below = All-nil (λ a. a < 0);
  differ = All-nil (λ a. ¬ IsSameAt old new a);
  others = λ a h. absurd (omega arith);
}

-- an address below the next one is below this one, or it is this one
last_or_below : (a n : ℕ) → a < n + 1 → (a < n) ⊎ (a ≡ n)
last_or_below a n h = elim (cases_lt a n) [ inl before ↦ inl before | inr other ↦ inr (omega arith) ]

-- the programs have the same at one more address
pub same_there : (old new : Words) (n : ℕ) (addresses : List ℕ) → AreDifferences old new n addresses → IsSameAt old new n → AreDifferences old new (n + 1) addresses
same_there old new n addresses known same = record {
  ascend = known.ascend;
  below = All-weaker (λ a. a < n) (λ a. a < n + 1) (λ a h. omega arith) addresses known.below;
  differ = known.differ;
  others = λ a h. elim (last_or_below a n h) [
    | inl before ↦ known.others a before
    | inr is ↦ inl (subst (IsSameAt old new) (sym is) same)
  ];
}

-- numbers that rise, with a greater one after them
rises : (n : ℕ) (xs : List ℕ) → IsStrictlyIncreasing xs → All (λ a. a < n) xs → IsStrictlyIncreasing (xs ++ n ∷ [])
rises n xs ascend below k h =
    let within : k + 1 < length xs + 1 = subst (λ (m : ℕ). k + 1 < m) (length-append xs (n ∷ [])) h in
    let now : slice_index (xs ++ n ∷ []) k ≡ slice_index xs k = get_or_append_left xs (n ∷ []) 0 k (omega arith) in
    elim (cases_lt (k + 1) (length xs)) [
      | inl further ↦
          let next : slice_index (xs ++ n ∷ []) (k + 1) ≡ slice_index xs (k + 1) = get_or_append_left xs (n ∷ []) 0 (k + 1) further in
          let here : slice_index xs k < slice_index xs (k + 1) = ascend k further in
          omega arith
      | inr last ↦
          let next : slice_index (xs ++ n ∷ []) (k + 1) ≡ n = get_or_push xs n 0 (k + 1) (omega arith) in
          let here : slice_index xs k < n = below k 0 (omega arith) in
          omega arith
    ]

-- the programs differ at one more address
pub one_more : (old new : Words) (n : ℕ) (addresses more : List ℕ) → AreDifferences old new n addresses → ¬ IsSameAt old new n → more ≡ addresses ++ n ∷ [] → AreDifferences old new (n + 1) more
one_more old new n addresses more known differ is = subst (AreDifferences old new (n + 1)) (sym is) (record {
  ascend = rises n addresses known.ascend known.below;
  below = All-push (λ a. a < n + 1) addresses n (All-weaker (λ a. a < n) (λ a. a < n + 1) (λ a h. omega arith) addresses known.below) (omega arith);
  differ = All-push (λ a. ¬ IsSameAt old new a) addresses n known.differ differ;
  others = λ a h. elim (last_or_below a n h) [
    | inl before ↦ elim (known.others a before) [
      | inl same ↦ inl same
      | inr among ↦ inr (Contains-append_left addresses (n ∷ []) a among)
    ]
    | inr same ↦ inr (subst (Contains (addresses ++ n ∷ [])) (sym same) (Contains-push addresses n))
  ];
})

-- programs that differ at no address are the same
pub none_differ : (old new : Words) → AreDifferences old new 65536 [] → IsSame old new
none_differ old new known a h = elim (known.others a h) [
  | inl same ↦ same
  | inr (k, within, is) ↦ absurd (omega arith)
]
