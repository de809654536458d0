-- Tests and searches over lists that are made of other lists.
use Rattle.std.proofs.Common.{◌≡◌, Bool, true, false, cond, List, [], ◌∷◌, ◌||◌, map, Option, Some, refl, ap, ◌∙◌}
use Rattle.std.specs.List.{find, flat_map, list_any}
use Rattle.std.specs.Option.{option_map}
use Rattle.std.proofs.lemmas.List.Folds.{list_any-append}

-- a test of the items of a list that is made item by item
pub any_mapped : {A B : Type 0} (p : B → Bool) (f : A → B) (xs : List A) → list_any p (map f xs) ≡ list_any (λ x. p (f x)) xs
any_mapped p f [] = refl
any_mapped p f (x ∷ xs) = ap (λ b. p (f x) || b) (any_mapped p f xs)

-- a test of the items of lists one after the other
pub any_in_all : {A B : Type 0} (p : B → Bool) (f : A → List B) (xs : List A) → list_any p (flat_map f xs) ≡ list_any (λ x. list_any p (f x)) xs
any_in_all p f [] = refl
any_in_all p f (x ∷ xs) = list_any-append p (f x) (flat_map f xs) ∙ ap (λ b. list_any p (f x) || b) (any_in_all p f xs)

either : {A B : Type 0} (f : A → B) (x : A) (b : Bool) (o : Option B) (q : Option A) → o ≡ option_map f q → cond b (Some (f x)) o ≡ option_map f (cond b (Some x) q)
either f x true o q same = refl
either f x false o q same = same

-- the first item of a list that is made item by item
pub found_mapped : {A B : Type 0} (p : B → Bool) (f : A → B) (xs : List A) → find p (map f xs) ≡ option_map f (find (λ x. p (f x)) xs)
found_mapped p f [] = refl
found_mapped p f (x ∷ xs) = either f x (p (f x)) (find p (map f xs)) (find (λ y. p (f y)) xs) (found_mapped p f xs)
