-- Warnings that are kept.
use Rattle.std.proofs.Common.{◌≡◌, ap, cond, refl, Bool, true, false, List, [], ◌∷◌, map}
use Rattle.std.specs.List.{filter}

-- the values of what is kept are what is kept of the values
pub map_filter : {X Y : Type 0} (f : X → Y) (p : Y → Bool) (xs : List X) → map f (filter (λ x. p (f x)) xs) ≡ filter p (map f xs)
map_filter f p [] = refl
map_filter f p (x ∷ xs) =
    elim (p (f x)) as (λ b. map f (cond b (x ∷ filter (λ y. p (f y)) xs) (filter (λ y. p (f y)) xs)) ≡ cond b (f x ∷ filter p (map f xs)) (filter p (map f xs))) [
      | true ↦ ap (λ ys. f x ∷ ys) (map_filter f p xs)
      | false ↦ map_filter f p xs
    ]
