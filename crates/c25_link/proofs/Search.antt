-- The first item that passes a test, in lists that grow in a loop and in what modules give one after the other.
use Rattle.std.proofs.Common.{◌≡◌, ℕ, suc, ◌+◌, ◌<◌, ◌≤◌, Bool, true, false, cond, List, [], ◌∷◌, ◌++◌, length, get_or, take, drop, map, Option, Some, None, find, All, refl, sym, ap, subst, ◌∙◌, arith, add-one}
use Rattle.std.specs.List.{slice_get}
use Rattle.std.specs.Option.{option_map, option_or}
use Rattle.std.proofs.Math.Seq.{drop-cons}
use Rattle.std.proofs.lemmas.List.{take_more, take_all, map-append, take-append-drop}
use Rattle.std.proofs.lemmas.List.Elements.{All-nil, All-append}
use Rattle.std.proofs.lemmas.List.Folds.{find-append}
use Rattle.c25_meaning_objects.specs.Module.{Contents}
use Rattle.c25_meaning_linking.specs.Place.{by_modules}
use Rattle.c25_meaning_linking.proofs.ByModules.{by_modules-append, by_modules_all, by_modules_more}

-- ---- what modules give

-- what holds of all that each module gives
pub all_by_modules : {A : Type 0} (P : A → Type 0) (g : ℕ → Contents → List A) (number : ℕ) (modules : List Contents) → ((k : ℕ) (m : Contents) → slice_get modules k ≡ Some m → All P (g (number + k) m)) → All P (by_modules g number modules)
all_by_modules P g number [] h = All-nil P
all_by_modules P g number (m ∷ modules) h =
    let same : number + 0 ≡ number = omega arith in
    All-append P (g number m) (by_modules g (number + 1) modules) (subst (λ n. All P (g n m)) same (h 0 m refl))
    (all_by_modules P g (number + 1) modules (λ k o is. let z : number + suc k ≡ (number + 1) + k = omega arith in subst (λ n. All P (g n o)) z (h (suc k) o is)))

-- and all that follow
pub by_modules_split : {A : Type 0} (g : ℕ → Contents → List A) (modules : List Contents) (i : ℕ) (m : Contents) → i < length modules → m ≡ get_or modules i m
    → by_modules g 0 modules ≡ (by_modules g 0 (take i modules) ++ g i m) ++ by_modules g (0 + length (take (i + 1) modules)) (drop (i + 1) modules)
by_modules_split g modules i m lt is =
    ap (by_modules g 0) (sym (take-append-drop (i + 1) modules)) ∙ by_modules-append g 0 (take (i + 1) modules) (drop (i + 1) modules)
    ∙ ap (λ zs. zs ++ by_modules g (0 + length (take (i + 1) modules)) (drop (i + 1) modules)) (by_modules_more g modules i m lt is)

-- ---- a search over modules

or_some : {A B : Type 0} (f : A → B) (o p : Option A) (y : B) → Some y ≡ option_map f o → Some y ≡ option_map f (option_or o p)
or_some f None p y e = absurd cc
or_some f (Some x) p y e = e

is_none : {A B : Type 0} (f : A → B) (o : Option A) → None ≡ option_map f o → o ≡ None
is_none f None e = refl
is_none f (Some x) e = absurd cc

pub found_at : {A B : Type 0} (test : A → Bool) (f : A → B) (g : ℕ → Contents → List A) (modules : List Contents) (i : ℕ) (m : Contents) (y : B) → i < length modules → m ≡ get_or modules i m
    → find test (by_modules g 0 (take i modules)) ≡ None → Some y ≡ option_map f (find test (g i m)) → Some y ≡ option_map f (find test (by_modules g 0 modules))
found_at test f g modules i m y lt is before here =
    let rest = by_modules g (0 + length (take (i + 1) modules)) (drop (i + 1) modules) in
    let found : find test (by_modules g 0 (take i modules) ++ g i m) ≡ find test (g i m) = find-append test (by_modules g 0 (take i modules)) (g i m) ∙ ap (λ o. option_or o (find test (g i m))) before in
    or_some f (find test (g i m)) (find test rest) y here
    ∙ ap (λ o. option_map f (option_or o (find test rest))) (sym found)
    ∙ ap (option_map f) (sym (find-append test (by_modules g 0 (take i modules) ++ g i m) rest))
    ∙ ap (λ zs. option_map f (find test zs)) (sym (by_modules_split g modules i m lt is))

pub none_more : {A B : Type 0} (test : A → Bool) (f : A → B) (g : ℕ → Contents → List A) (modules : List Contents) (i : ℕ) (m : Contents) → i < length modules → m ≡ get_or modules i m
    → find test (by_modules g 0 (take i modules)) ≡ None → None ≡ option_map f (find test (g i m)) → find test (by_modules g 0 (take (i + 1) modules)) ≡ None
none_more test f g modules i m lt is before here =
    ap (find test) (by_modules_more g modules i m lt is) ∙ find-append test (by_modules g 0 (take i modules)) (g i m)
    ∙ ap (λ o. option_or o (find test (g i m))) before ∙ is_none f (find test (g i m)) here

pub none_at_all : {A B : Type 0} (test : A → Bool) (f : A → B) (g : ℕ → Contents → List A) (modules : List Contents) (i : ℕ) → length modules ≤ i
    → find test (by_modules g 0 (take i modules)) ≡ None → None ≡ option_map f (find test (by_modules g 0 modules))
none_at_all test f g modules i le none = ap (option_map f) (sym none ∙ ap (find test) (by_modules_all g modules i le))

-- ---- a search over one list

one_more : {A B : Type 0} (h : A → B) (xs : List A) (i : ℕ) (d : A) → i < length xs → map h (take (i + 1) xs) ≡ map h (take i xs) ++ h (get_or xs i d) ∷ []
one_more h xs i d lt = ap (map h) (take_more xs i d lt) ∙ map-append h (take i xs) (get_or xs i d ∷ [])

pub mapped_more : {A B : Type 0} (h : A → B) (xs : List A) (i : ℕ) (x : A) → i < length xs → x ≡ get_or xs i x → map h (take (i + 1) xs) ≡ map h (take i xs) ++ h x ∷ []
mapped_more h xs i x lt is = one_more h xs i x lt ∙ ap (λ y. map h (take i xs) ++ h y ∷ []) (sym is)

pub found_here : {A B C : Type 0} (test : B → Bool) (f : B → C) (h : A → B) (xs : List A) (i : ℕ) (d : A) (y : C) → i < length xs → find test (map h (take i xs)) ≡ None
    → test (h (get_or xs i d)) ≡ true → y ≡ f (h (get_or xs i d)) → Some y ≡ option_map f (find test (map h xs))
found_here test f h xs i d y lt before pass is =
    let x = get_or xs i d in
    let rest : drop i xs ≡ x ∷ drop (i + 1) xs = drop-cons xs i d lt ∙ ap (λ n. x ∷ drop n xs) (sym (add-one i)) in
    let split : map h xs ≡ map h (take i xs) ++ h x ∷ map h (drop (i + 1) xs) =
    ap (map h) (sym (take-append-drop i xs)) ∙ map-append h (take i xs) (drop i xs) ∙ ap (λ zs. map h (take i xs) ++ map h zs) rest in
    let found : find test (h x ∷ map h (drop (i + 1) xs)) ≡ Some (h x) = ap (λ b. cond b (Some (h x)) (find test (map h (drop (i + 1) xs)))) pass in
    ap Some is ∙ ap (option_map f) (sym found)
    ∙ ap (λ o. option_map f (option_or o (find test (h x ∷ map h (drop (i + 1) xs))))) (sym before)
    ∙ ap (option_map f) (sym (find-append test (map h (take i xs)) (h x ∷ map h (drop (i + 1) xs))))
    ∙ ap (λ zs. option_map f (find test zs)) (sym split)

pub none_here : {A B : Type 0} (test : B → Bool) (h : A → B) (xs : List A) (i : ℕ) (d : A) → i < length xs → find test (map h (take i xs)) ≡ None → test (h (get_or xs i d)) ≡ false → find test (map h (take (i + 1) xs)) ≡ None
none_here test h xs i d lt before fail =
    ap (find test) (one_more h xs i d lt) ∙ find-append test (map h (take i xs)) (h (get_or xs i d) ∷ [])
    ∙ ap (λ o. option_or o (find test (h (get_or xs i d) ∷ []))) before ∙ ap (λ b. cond b (Some (h (get_or xs i d))) None) fail

pub none_whole : {A B C : Type 0} (test : B → Bool) (f : B → C) (h : A → B) (xs : List A) (i : ℕ) → length xs ≤ i → find test (map h (take i xs)) ≡ None → None ≡ option_map f (find test (map h xs))
none_whole test f h xs i le none = ap (option_map f) (sym none ∙ ap (λ zs. find test (map h zs)) (take_all i xs le))

-- ---- the same over a slice that a list was read as

pub found_in_slice : {A B C : Type 0} (test : B → Bool) (f : B → C) (h : A → B) (xs items : List A) (i : ℕ) (d : A) (y : C) → xs ≡ items → i < length xs → find test (map h (take i items)) ≡ None
    → test (h (get_or xs i d)) ≡ true → y ≡ f (h (get_or xs i d)) → Some y ≡ option_map f (find test (map h items))
found_in_slice test f h xs items i d y same lt before pass is =
    found_here test f h xs i d y lt (ap (λ zs. find test (map h (take i zs))) same ∙ before) pass is ∙ ap (λ zs. option_map f (find test (map h zs))) same

pub none_in_slice : {A B : Type 0} (test : B → Bool) (h : A → B) (xs items : List A) (i : ℕ) (d : A) → xs ≡ items → i < length xs → find test (map h (take i items)) ≡ None
    → test (h (get_or xs i d)) ≡ false → find test (map h (take (i + 1) items)) ≡ None
none_in_slice test h xs items i d same lt before fail =
    sym (ap (λ zs. find test (map h (take (i + 1) zs))) same) ∙ none_here test h xs i d lt (ap (λ zs. find test (map h (take i zs))) same ∙ before) fail
