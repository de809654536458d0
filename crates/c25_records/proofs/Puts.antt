-- What a loop has put after a list, with its next item.
use Rattle.std.proofs.Common.{◌≡◌, ℕ, ◌+◌, ◌<◌, List, [], ◌∷◌, ◌++◌, length, take, get_or, sym, ap, ◌∙◌, append_assoc}
use Rattle.std.specs.Prelude.{map}
use Rattle.std.specs.List.{flat_map}
use Rattle.std.proofs.lemmas.List.{map_push, take_more}
use Rattle.c25_module.proofs.Fitting.{one_more}

-- what is put after what was put
behind : (start before new out all put : List ℕ) → out ≡ start ++ before → all ≡ out ++ put → new ≡ before ++ put → all ≡ start ++ new
behind start before new out all put was is grown = is ∙ ap (λ (t : List ℕ). t ++ put) was ∙ append_assoc start before put ∙ ap (λ (t : List ℕ). start ++ t) (sym grown)

pub next_put : {A : Type 0} (f : A → List ℕ) (xs : List A) (i : ℕ) (d : A) (start out all : List ℕ) → i < length xs
    → out ≡ start ++ flat_map f (take i xs) → all ≡ out ++ f (get_or xs i d) → all ≡ start ++ flat_map f (take (i + 1) xs)
next_put {A} f xs i d start out all lt was is =
    behind start (flat_map f (take i xs)) (flat_map f (take (i + 1) xs)) out all (f (get_or xs i d)) was is
    (ap (λ (ys : List A). flat_map f ys) (take_more xs i d lt) ∙ one_more f (take i xs) (get_or xs i d))

-- what is put after what was put, of items that are seen through a view
pub next_seen : {A B : Type 0} (view : A → B) (f : B → List ℕ) (xs : List A) (i : ℕ) (x : A) (start out all : List ℕ) → i < length xs → x ≡ get_or xs i x
    → out ≡ start ++ flat_map f (map view (take i xs)) → all ≡ out ++ f (view x) → all ≡ start ++ flat_map f (map view (take (i + 1) xs))
next_seen {A} {B} view f xs i x start out all lt here was is =
    behind start (flat_map f (map view (take i xs))) (flat_map f (map view (take (i + 1) xs))) out all (f (view x)) was is
    (ap (λ (ys : List A). flat_map f (map view ys)) (take_more xs i x lt ∙ ap (λ (y : A). take i xs ++ y ∷ []) (sym here))
    ∙ ap (λ (ys : List B). flat_map f ys) (map_push view (take i xs) x) ∙ one_more f (map view (take i xs)) (view x))
