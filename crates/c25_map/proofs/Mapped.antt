-- What holds of each item of a mapped list.
use Rattle.std.proofs.Common.{List, [], ◌∷◌, map, All}
use Rattle.std.proofs.lemmas.List.Elements.{All-nil, All-cons, All-head, All-tail}

pub unmapped : {A B : Type 0} (P : B → Type 0) (f : A → B) (xs : List A) → All P (map f xs) → All (λ x. P (f x)) xs
unmapped P f [] h = All-nil (λ x. P (f x))
unmapped P f (x ∷ xs) h = All-cons (λ y. P (f y)) x xs (All-head P (f x) (map f xs) h) (unmapped P f xs (All-tail P (f x) (map f xs) h))
