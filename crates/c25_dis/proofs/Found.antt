-- What an index finds: the items of its list that stand at a place.
use Rattle.std.proofs.Common.{◌≡◌, ◌<◌, ℕ, suc, ◌+◌, ◌==◌, Bool, true, false, cond, List, [], ◌∷◌, ◌++◌, length, filter, find, drop, get_or, map, Option, Some, None, refl, sym, ap, ◌∙◌, append_assoc, arith}
use Rattle.std.specs.List.{slice_get}
use Rattle.std.specs.Option.{option_map}
use Rattle.std.proofs.lemmas.List.{append-nil, drop_more}
use Rattle.std.proofs.lemmas.Option.{none-some, same_Some, slice_get-map}
use Rattle.c25_dis.specs.Index.{IsIndexOf, is_at, is_there, numbered, placed_before}
use Rattle.c25_dis.specs.declared.index.IndexEntry.{IndexEntry}
use mathlib.Core.Path.{fun_ext}

-- ---- an index, item by item

module _ {A : Type 0} (f : A → Option ℕ) (items : List A) where
  -- an item more
  pub counted : (i : ℕ) (x : A) (o : Option ℕ) (before after : List IndexEntry) → i < length items → x ≡ get_or items i x → f x ≡ o → after ≡ before ++ placed_before o i []
      → before ++ numbered f i (drop i items) ≡ numbered f 0 items → after ++ numbered f (i + 1) (drop (i + 1) items) ≡ numbered f 0 items
  counted i x o before after lt is place e told =
      ap (λ (t : List IndexEntry). t ++ more) e ∙ append_assoc before (placed_before o i []) more ∙ ap (λ (t : List IndexEntry). before ++ t) (put o ∙ sym step) ∙ told
    where
      more : List IndexEntry
      more = numbered f (i + 1) (drop (i + 1) items)

      step : numbered f i (drop i items) ≡ placed_before o i more
      step = ap (λ (xs : List A). numbered f i xs) (drop_more items i x lt) ∙ ap (λ (y : A). placed_before (f y) i more) (sym is) ∙ ap (λ (p : Option ℕ). placed_before p i more) place

      put : (o : Option ℕ) → placed_before o i [] ++ more ≡ placed_before o i more
      put None = refl
      put (Some place) = refl

  -- all of them
  pub all_counted : (i : ℕ) (index : List IndexEntry) → drop i items ≡ [] → index ++ numbered f i (drop i items) ≡ numbered f 0 items → index ≡ numbered f 0 items
  all_counted i index none told = sym (append-nil index) ∙ ap (λ (xs : List A). index ++ numbered f i xs) (sym none) ∙ told

  -- ---- the items of the numbers

  -- the item of a number
  abbrev pub item_of : IndexEntry → Option A
  item_of e = slice_get items e.number

  -- whether an item stands at a place
  abbrev pub stands : ℕ → A → Bool
  stands place x = is_there place (f x)

  items_from : (place n : ℕ) (xs : List A) → ((k : ℕ) → slice_get items (n + k) ≡ slice_get xs k) → map item_of (filter (is_at place) (numbered f n xs)) ≡ map Some (filter (stands place) xs)
  items_from place n [] at = refl
  items_from place n (x ∷ xs) at =
      by_place (items_from place (n + 1) xs (λ k. let e : (n + 1) + k ≡ n + suc k = omega arith in ap (λ (j : ℕ). slice_get items j) e ∙ at (suc k))) (f x)
    where
      more : List IndexEntry
      more = numbered f (n + 1) xs

      here : slice_get items n ≡ Some x
      here = let e : n ≡ n + 0 = omega arith in ap (λ (j : ℕ). slice_get items j) e ∙ at 0

      by_test : map item_of (filter (is_at place) more) ≡ map Some (filter (stands place) xs)
          → (q : ℕ) (b : Bool) → map item_of (cond b (record { place = q; number = n } ∷ filter (is_at place) more) (filter (is_at place) more)) ≡ map Some (cond b (x ∷ filter (stands place) xs) (filter (stands place) xs))
      by_test rest q true = λ i. here i ∷ rest i
      by_test rest q false = rest

      by_place : map item_of (filter (is_at place) more) ≡ map Some (filter (stands place) xs)
          → (o : Option ℕ) → map item_of (filter (is_at place) (placed_before o n more)) ≡ map Some (cond (is_there place o) (x ∷ filter (stands place) xs) (filter (stands place) xs))
      by_place rest None = rest
      by_place rest (Some q) = by_test rest q (q == place)

  -- the items that an index finds at a place are those of the list that stand there
  pub items_found : (index : List IndexEntry) → IsIndexOf f items index → (place : ℕ) → map item_of (filter (is_at place) index) ≡ map Some (filter (stands place) items)
  items_found index indexed place = ap (λ (es : List IndexEntry). map item_of es) (indexed.stable place) ∙ items_from place 0 items (λ k. let e : 0 + k ≡ k = omega arith in ap (λ (j : ℕ). slice_get items j) e)

  -- ---- the first of them

  find_first : (p : A → Bool) (xs : List A) → find p xs ≡ slice_get (filter p xs) 0
  find_first p [] = refl
  find_first p (x ∷ xs) = by_test (find_first p xs) (p x) where
    by_test : find p xs ≡ slice_get (filter p xs) 0 → (b : Bool) → cond b (Some x) (find p xs) ≡ slice_get (cond b (x ∷ filter p xs) (filter p xs)) 0
    by_test rest true = refl
    by_test rest false = rest

  joined : (a b : Option A) → Some a ≡ option_map Some b → a ≡ b
  joined a None h = absurd (none-some a (sym h))
  joined a (Some x) h = same_Some a (Some x) h

  nothing : (b : Option A) → None ≡ option_map Some b → None ≡ b
  nothing None h = refl
  nothing (Some x) h = absurd (none-some (Some x) h)

  both_first : (index found : List IndexEntry) → IsIndexOf f items index → (place : ℕ) → found ≡ filter (is_at place) index → option_map item_of (slice_get found 0) ≡ option_map Some (find (stands place) items)
  both_first index found indexed place is =
      ap (λ (es : List IndexEntry). option_map item_of (slice_get es 0)) is ∙ sym (slice_get-map item_of (filter (is_at place) index) 0)
      ∙ ap (λ (os : List (Option A)). slice_get os 0) (items_found index indexed place) ∙ slice_get-map Some (filter (stands place) items) 0
      ∙ ap (option_map Some) (sym (find_first (stands place) items))

  -- none is found where none stands
  pub none_found : (index found : List IndexEntry) → IsIndexOf f items index → (place : ℕ) → found ≡ filter (is_at place) index → slice_get found 0 ≡ None → None ≡ find (stands place) items
  none_found index found indexed place is first = nothing (find (stands place) items) (sym (ap (option_map item_of) first) ∙ both_first index found indexed place is)

  -- the first that is found is the first that stands there
  pub first_found : (index found : List IndexEntry) → IsIndexOf f items index → (place : ℕ) → found ≡ filter (is_at place) index → (e : IndexEntry) → slice_get found 0 ≡ Some e → slice_get items e.number ≡ find (stands place) items
  first_found index found indexed place is e first = joined (slice_get items e.number) (find (stands place) items) (sym (ap (option_map item_of) first) ∙ both_first index found indexed place is)

-- a search by the same test under another name
pub find_alike : {A : Type 0} (p q : A → Bool) → ((x : A) → p x ≡ q x) → (xs : List A) → find p xs ≡ find q xs
find_alike p q same xs = ap (λ t. find t xs) (fun_ext same)
