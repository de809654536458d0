-- The first item that passes a test, in a list that a loop goes over.
use Rattle.std.proofs.Common.{◌≡◌, ◌∙◌, ℕ, ◌+◌, ◌<◌, Bool, true, false, cond, List, [], ◌∷◌, ◌++◌, length, get_or, take, drop, map, Some, None, find, ap, sym, subst, add-one}
use Rattle.std.specs.Option.{option_map, option_or}
use Rattle.std.proofs.Math.Seq.{drop-cons}
use Rattle.std.proofs.lemmas.List.{take_more, map-append, take-append-drop}
use Rattle.std.proofs.lemmas.List.Folds.{find-append}

one_more : {A B : Type 0} (h : A → B) (xs : List A) (i : ℕ) (d : A) → i < length xs → map h (take (i + 1) xs) ≡ map h (take i xs) ++ h (get_or xs i d) ∷ []
one_more h xs i d lt = ap (map h) (take_more xs i d lt) ∙ map-append h (take i xs) (get_or xs i d ∷ [])

found_here : {A B C : Type 0} (test : B → Bool) (f : B → C) (h : A → B) (xs : List A) (i : ℕ) (d : A) (y : C) → i < length xs → find test (map h (take i xs)) ≡ None
    → test (h (get_or xs i d)) ≡ true → y ≡ f (h (get_or xs i d)) → Some y ≡ option_map f (find test (map h xs))
found_here test f h xs i d y lt before pass is =
    let x = get_or xs i d in
    let rest : drop i xs ≡ x ∷ drop (i + 1) xs = drop-cons xs i d lt ∙ ap (λ n. x ∷ drop n xs) (sym (add-one i)) in
    let split : map h xs ≡ map h (take i xs) ++ h x ∷ map h (drop (i + 1) xs) =
    ap (map h) (sym (take-append-drop i xs)) ∙ map-append h (take i xs) (drop i xs) ∙ ap (λ zs. map h (take i xs) ++ map h zs) rest in
    let found : find test (h x ∷ map h (drop (i + 1) xs)) ≡ Some (h x) = ap (λ b. cond b (Some (h x)) (find test (map h (drop (i + 1) xs)))) pass in
    ap Some is ∙ ap (option_map f) (sym found)
    ∙ ap (λ o. option_map f (option_or o (find test (h x ∷ map h (drop (i + 1) xs))))) (sym before)
    ∙ ap (option_map f) (sym (find-append test (map h (take i xs)) (h x ∷ map h (drop (i + 1) xs))))
    ∙ ap (λ zs. option_map f (find test zs)) (sym split)

none_here : {A B : Type 0} (test : B → Bool) (h : A → B) (xs : List A) (i : ℕ) (d : A) → i < length xs → find test (map h (take i xs)) ≡ None → test (h (get_or xs i d)) ≡ false → find test (map h (take (i + 1) xs)) ≡ None
none_here test h xs i d lt before fail =
    ap (find test) (one_more h xs i d lt) ∙ find-append test (map h (take i xs)) (h (get_or xs i d) ∷ [])
    ∙ ap (λ o. option_or o (find test (h (get_or xs i d) ∷ []))) before ∙ ap (λ b. cond b (Some (h (get_or xs i d))) None) fail

-- the item at which the loop stands, in the list that it goes over
pub found_by : {A B C : Type 0} (test : B → Bool) (f : B → C) (h : A → B) (xs ys : List A) (i : ℕ) (x : A) (passes : Bool) (y : C) → ys ≡ xs → i < length ys → find test (map h (take i xs)) ≡ None
    → x ≡ get_or ys i x → passes ≡ test (h x) → passes ≡ true → y ≡ f (h x) → Some y ≡ option_map f (find test (map h xs))
found_by {A = A} test f h xs ys i x passes y same lt before at tested pass is =
    let here : x ≡ get_or xs i x = at ∙ ap (λ zs. get_or zs i x) same in
    let below = subst (λ (zs : List A). i < length zs) same lt in
    let passed : test (h (get_or xs i x)) ≡ true = ap (λ z. test (h z)) (sym here) ∙ sym tested ∙ pass in
    found_here test f h xs i x y below before passed (is ∙ ap (λ z. f (h z)) here)

pub none_by : {A B : Type 0} (test : B → Bool) (h : A → B) (xs ys : List A) (i : ℕ) (x : A) (passes : Bool) → ys ≡ xs → i < length ys → find test (map h (take i xs)) ≡ None
    → x ≡ get_or ys i x → passes ≡ test (h x) → passes ≡ false → find test (map h (take (i + 1) xs)) ≡ None
none_by {A = A} test h xs ys i x passes same lt before at tested fail =
    let here : x ≡ get_or xs i x = at ∙ ap (λ zs. get_or zs i x) same in
    let below = subst (λ (zs : List A). i < length zs) same lt in
    none_here test h xs i x below before (ap (λ z. test (h z)) (sym here) ∙ sym tested ∙ fail)
