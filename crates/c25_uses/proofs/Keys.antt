-- A set of names, and the list of names that it is made of.
use denote.Ref.{Bor}
use Rattle.std.proofs.Common.{◌≡◌, ℕ, Bool, true, false, cond, ◌||◌, List, [], ◌∷◌, ◌++◌, refl, ap, sym, ◌∙◌}
use Rattle.std.specs.List.{list_any}
use Rattle.std.specs.Str.{bytes_eq}
use Rattle.std.proofs.lemmas.List.Folds.{list_any-append}
use Rattle.std.proofs.lemmas.Slice.Eq.{bytes_eq-Decides}
use Rattle.indexmap.specs.IndexSet.{insert_key}
use Rattle.c25_meaning_assembly.specs.Sections.{is_in}
use Rattle.c25_uses.specs.UsedNames.{bytes_of}

-- whether two borrowed names are the same
abbrev pub same_bytes : Bor (List ℕ) → Bor (List ℕ) → Bool
same_bytes a b = bytes_eq a.now b.now

-- a name is found by its bytes
pub any_bytes : (ks : List (Bor (List ℕ))) (name : List ℕ) → list_any (λ k. bytes_eq name k.now) ks ≡ is_in (bytes_of ks) name
any_bytes [] name = refl
any_bytes (k ∷ ks) name = ap (λ b. bytes_eq name k.now || b) (any_bytes ks name)

bytes-push : (ks : List (Bor (List ℕ))) (k : Bor (List ℕ)) → bytes_of (ks ++ k ∷ []) ≡ bytes_of ks ++ k.now ∷ []
bytes-push [] k = refl
bytes-push (x ∷ xs) k = ap (λ ns. x.now ∷ ns) (bytes-push xs k)

there : (a e r : Bool) → (e ≡ true → a ≡ true) → (a || r) ≡ (a || (e || r))
there true e r h = refl
there false true r h = let e : false ≡ true = h refl in cc
there false false r h = refl

apart : (a e r : Bool) → ((a || (e || false)) || r) ≡ (a || (e || r))
apart true e r = refl
apart false true r = refl
apart false false r = refl

-- a name more
one_more : (ks : List (Bor (List ℕ))) (k : Bor (List ℕ)) (rest : List (List ℕ)) (name : List ℕ) (b : Bool) → list_any (same_bytes k) ks ≡ b
    → (is_in (bytes_of (cond b ks (ks ++ k ∷ []))) name || is_in rest name) ≡ (is_in (bytes_of ks) name || is_in (k.now ∷ rest) name)
one_more ks k rest name true h =
    there (is_in (bytes_of ks) name) (bytes_eq name k.now) (is_in rest name) (λ e.
    ap (is_in (bytes_of ks)) ((bytes_eq-Decides name k.now).0 e) ∙ sym (any_bytes ks k.now) ∙ h)
one_more ks k rest name false h =
    ap (λ ns. is_in ns name || is_in rest name) (bytes-push ks k)
    ∙ ap (λ b. b || is_in rest name) (list_any-append (bytes_eq name) (bytes_of ks) (k.now ∷ []))
    ∙ apart (is_in (bytes_of ks) name) (bytes_eq name k.now) (is_in rest name)

-- a set with a name more
pub inserted : (ks new : List (Bor (List ℕ))) (k : Bor (List ℕ)) (rest : List (List ℕ)) (name : List ℕ) → new ≡ insert_key same_bytes ks k
    → (is_in (bytes_of new) name || is_in rest name) ≡ (is_in (bytes_of ks) name || is_in (k.now ∷ rest) name)
inserted ks new k rest name is =
    ap (λ ns. is_in (bytes_of ns) name || is_in rest name) is ∙ one_more ks k rest name (list_any (same_bytes k) ks) refl
