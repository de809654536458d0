-- Items of a list by the places where they stand.
use Rattle.std.specs.Prelude.{◌≡◌, ℕ, ◌+◌, ◌==◌, Bool, false, List, [], ◌∷◌, filter, Option, Some, None}
use Rattle.std.specs.List.Sorted.{IsNonDecreasingBy}
use Rattle.c25_dis.specs.declared.index.IndexEntry.{IndexEntry}

-- whether an item of an index stands at a place
abbrev pub is_at : ℕ → IndexEntry → Bool
is_at place x = x.place == place

-- whether what stands at a place, or nowhere, stands at this one
abbrev pub is_there : ℕ → Option ℕ → Bool
is_there place None = false
is_there place (Some other) = other == place

-- an item with its number, if it has a place, before others
abbrev pub placed_before : Option ℕ → ℕ → List IndexEntry → List IndexEntry
placed_before None number rest = rest
placed_before (Some place) number rest = record { place = place; number = number } ∷ rest

-- the items of a list that have a place, counted from a number
abbrev pub numbered : {A : Type 0} → (A → Option ℕ) → ℕ → List A → List IndexEntry
numbered place_of number [] = []
numbered place_of number (x ∷ xs) = placed_before (place_of x) number (numbered place_of (number + 1) xs)

-- an index is in the order of places, and items of one place are in the order of their list
pub record IsIndexOf {A : Type 0} (place_of : A → Option ℕ) (items : List A) (index : List IndexEntry) : Type 0 where
  pub sorted : IsNonDecreasingBy (λ x. x.place) index
  pub stable : (place : ℕ) → filter (is_at place) index ≡ filter (is_at place) (numbered place_of 0 items)
