-- The items of the lines, a line at a time.
use Rattle.std.proofs.Common.{◌≡◌, ℕ, zero, suc, map, arith, ◌+◌, ◌<◌, ◌≤◌, List, [], ◌∷◌, length, get_or, drop, Option, Some, None, Ok, Err, refl, ap, sym, ◌∙◌}
use Rattle.std.specs.Option.{ok_or}
use Rattle.std.proofs.lemmas.List.{at_drop_more, drop_all}
use Rattle.c25_meaning_common.specs.Items.{items, with_line, line_words}
use Rattle.c25_meaning_common.specs.Results.{◌>>=◌}

map_len : {X Y : Type 0} (f : X → Y) (xs : List X) → length (map f xs) ≡ length xs
map_len f [] = refl
map_len f (x ∷ xs) = ap suc (map_len f xs)

-- the element at an index, seen by a view
at_index : {X : Type 0} (f : X → List ℕ) (xs : List X) (i : ℕ) (d : X) → i < length xs → get_or (map f xs) i [] ≡ f (get_or xs i d)
at_index f [] i d l = absurd (omega arith)
at_index f (x ∷ xs) zero d l = refl
at_index f (x ∷ xs) (suc i) d l = at_index f xs i d (omega arith)

module _ {A : Type 0} (item : List A → List (List ℕ) → Option A) where
  more : (before now : List A) (number : ℕ) (line : List ℕ) (rest : List (List ℕ)) → with_line item before (line_words line) ≡ Some now
      → items item before number (line ∷ rest) ≡ items item now (number + 1) rest
  unfolding items
  more before now number line rest h = ap (λ (o : Option (List A)). ok_or o number >>= λ found. items item found (number + 1) rest) h

  faulty : (before : List A) (number : ℕ) (line : List ℕ) (rest : List (List ℕ)) → with_line item before (line_words line) ≡ None
      → items item before number (line ∷ rest) ≡ Err number
  unfolding items
  faulty before number line rest h = ap (λ (o : Option (List A)). ok_or o number >>= λ found. items item found (number + 1) rest) h

  -- the lines from an index on, where these are seen by a view and the first is this line
  module _ {X : Type 0} (view : X → List ℕ) (xs : List X) (index : ℕ) (d : X) (line : List ℕ) (here : index < length xs) (is : line ≡ view (get_or xs index d)) (before : List A) (number : ℕ) where
    first : items item before number (drop index (map view xs)) ≡ items item before number (line ∷ drop (index + 1) (map view xs))
    first =
        at_drop_more (items item before number) (map view xs) index [] (omega (arith, map_len view xs, here))
        ∙ ap (λ (l : List ℕ). items item before number (l ∷ drop (index + 1) (map view xs))) (at_index view xs index d here ∙ sym is)

    -- the line is read
    pub items_more : (now : List A) → with_line item before (line_words line) ≡ Some now → items item before number (drop index (map view xs)) ≡ items item now (number + 1) (drop (index + 1) (map view xs))
    items_more now h = first ∙ more before now number line (drop (index + 1) (map view xs)) h

    -- the line is faulty
    pub items_fault : with_line item before (line_words line) ≡ None → items item before number (drop index (map view xs)) ≡ Err number
    items_fault h = first ∙ faulty before number line (drop (index + 1) (map view xs)) h

  -- no line is left
  pub items_end : {X : Type 0} (view : X → List ℕ) (xs : List X) (before : List A) (number index : ℕ) → length xs ≤ index → items item before number (drop index (map view xs)) ≡ Ok before
  unfolding items
  items_end view xs before number index l = ap (items item before number) (drop_all index (map view xs) (omega (arith, map_len view xs, l)))

-- a view of a view
pub map_map : {X Y Z : Type 0} (f : Y → Z) (g : X → Y) (xs : List X) → map f (map g xs) ≡ map (λ x. f (g x)) xs
map_map f g [] = refl
map_map f g (x ∷ xs) = ap (λ (zs : List _). f (g x) ∷ zs) (map_map f g xs)
