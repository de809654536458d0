-- What modules give one after the other, in lists of modules that grow.
use Rattle.std.proofs.Common.{◌≡◌, ℕ, ◌+◌, ◌<◌, ◌≤◌, List, [], ◌∷◌, ◌++◌, length, get_or, take, sym, ap, ◌∙◌, arith, append_assoc, add-zero}
use Rattle.std.proofs.lemmas.List.{take_more, take_all, append-nil, length-take-le}
use Rattle.c25_meaning_objects.specs.Module.{Contents}
use Rattle.c25_meaning_linking.specs.Place.{by_modules}

pub by_modules-append : {A : Type 0} (g : ℕ → Contents → List A) (number : ℕ) (xs ys : List Contents) → by_modules g number (xs ++ ys) ≡ by_modules g number xs ++ by_modules g (number + length xs) ys
by_modules-append g number [] ys = ap (λ n. by_modules g n ys) (sym (add-zero number))
by_modules-append g number (x ∷ xs) ys =
    let same : (number + 1) + length xs ≡ number + length (x ∷ xs) = omega arith in
    ap (λ zs. g number x ++ zs) (by_modules-append g (number + 1) xs ys)
    ∙ sym (append_assoc (g number x) (by_modules g (number + 1) xs) (by_modules g ((number + 1) + length xs) ys))
    ∙ ap (λ n. by_modules g number (x ∷ xs) ++ by_modules g n ys) same

-- one module more
pub by_modules_more : {A : Type 0} (g : ℕ → Contents → List A) (modules : List Contents) (i : ℕ) (m : Contents) → i < length modules → m ≡ get_or modules i m → by_modules g 0 (take (i + 1) modules) ≡ by_modules g 0 (take i modules) ++ g i m
by_modules_more g modules i m lt is =
    let taken : take (i + 1) modules ≡ take i modules ++ m ∷ [] = take_more modules i m lt ∙ ap (λ y. take i modules ++ y ∷ []) (sym is) in
    let many : 0 + length (take i modules) ≡ i = omega (arith, length-take-le i modules (omega arith)) in
    ap (by_modules g 0) taken ∙ by_modules-append g 0 (take i modules) (m ∷ [])
    ∙ ap (λ n. by_modules g 0 (take i modules) ++ (g n m ++ [])) many ∙ ap (λ zs. by_modules g 0 (take i modules) ++ zs) (append-nil (g i m))

-- all modules
pub by_modules_all : {A : Type 0} (g : ℕ → Contents → List A) (modules : List Contents) (i : ℕ) → length modules ≤ i → by_modules g 0 (take i modules) ≡ by_modules g 0 modules
by_modules_all g modules i le = ap (by_modules g 0) (take_all i modules le)
