-- Texts of items, one after the other.
use Rattle.std.proofs.Common.{◌≡◌, ℕ, suc, ◌+◌, ◌<◌, ◌≤◌, List, [], ◌∷◌, ◌++◌, drop, get_or, length, map, refl, sym, ap, subst, ◌∙◌, append_assoc, add-one}
use Rattle.std.proofs.Math.Seq.{drop-cons}
use Rattle.std.proofs.lemmas.List.{append-nil, drop_all}
use Rattle.c25_warning_pages.specs.Explained.{AreJoined}

-- with the texts of the items that are left, a text has those of all
abbrev pub JoinedWith : {A B : Type 0} → (A → B) → (B → List ℕ → Type 0) → (all left : List A) → List ℕ → Type 0
JoinedWith f Is all left text = (rest : List ℕ) → AreJoined Is (map f left) rest → AreJoined Is (map f all) (text ++ rest)

-- before the first item
pub joined_none : {A B : Type 0} (f : A → B) (Is : B → List ℕ → Type 0) (all : List A) (text : List ℕ) → text ≡ [] → JoinedWith f Is all all text
joined_none f Is all text none = λ rest left. subst (λ (t : List ℕ). AreJoined Is (map f all) (t ++ rest)) (sym none) left

-- one item more
pub joined_next : {A B : Type 0} (f : A → B) (Is : B → List ℕ → Type 0) (all : List A) (i : ℕ) (x d : A) (text shown new : List ℕ) → i < length all → x ≡ get_or all i d → Is (f x) shown → new ≡ text ++ shown
    → JoinedWith f Is all (drop i all) text → JoinedWith f Is all (drop (i + 1) all) new
joined_next f Is all i x d text shown new lt at shows grown so_far = λ rest left.
    let split : drop i all ≡ x ∷ drop (i + 1) all = drop-cons all i d lt ∙ ap (λ y. y ∷ drop (suc i) all) (sym at) ∙ ap (λ (n : ℕ). x ∷ drop n all) (sym (add-one i)) in
    let whole : AreJoined Is (map f all) (text ++ (shown ++ rest)) = so_far (shown ++ rest) (subst (λ ys. AreJoined Is (map f ys) (shown ++ rest)) (sym split) (shown, rest, shows, left, refl)) in
    subst (AreJoined Is (map f all)) (sym (append_assoc text shown rest) ∙ ap (λ (t : List ℕ). t ++ rest) (sym grown)) whole

-- all items
pub joined_all : {A B : Type 0} (f : A → B) (Is : B → List ℕ → Type 0) (all : List A) (i : ℕ) (text : List ℕ) → length all ≤ i → JoinedWith f Is all (drop i all) text → AreJoined Is (map f all) text
joined_all f Is all i text le so_far =
    subst (AreJoined Is (map f all)) (append-nil text) (so_far [] (subst (λ ys. AreJoined Is (map f ys) []) (sym (drop_all i all le)) refl))
