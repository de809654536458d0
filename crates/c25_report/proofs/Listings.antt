-- The names of listings, one after another.
use Rattle.std.proofs.Common.{◌≡◌, ◌∙◌, ap, ap₂, sym, refl, subst, ℕ, suc, ◌+◌, ◌<◌, ◌≤◌, List, [], ◌∷◌, ◌++◌, append_assoc, append-nil, length, map, drop, get_or, string_bytes, arith}
use Rattle.std.proofs.lemmas.List.{map-append, drop_more, drop_all}
use Rattle.std.specs.Prelude.{String, zip}
use Rattle.std.specs.declared.alloc.Global.{Global}
use Rattle.c25_meaning_expansion.specs.Files.{Files}
use Rattle.c25_report.specs.ProgramFiles.{listing_name, listing_names}

next : (base : List ℕ) (i : ℕ) → listing_names base (i + 1) ≡ listing_names base i ++ listing_name base (i + 1) ∷ []
next base i =
    let later : i + 1 ≡ suc i = omega arith in
    subst (λ n. listing_names base n ≡ listing_names base i ++ listing_name base n ∷ []) (sym later) refl

pub names_more : (base : List ℕ) (i : ℕ) (names : List (String Global)) (name : String Global) → map string_bytes names ≡ listing_names base i → string_bytes name ≡ listing_name base (i + 1) → map string_bytes (names ++ name ∷ []) ≡ listing_names base (i + 1)
names_more base i names name so_far named =
    map-append string_bytes names (name ∷ []) ∙ ap₂ (λ xs x. xs ++ x ∷ []) so_far named ∙ sym (next base i)

-- ---- listings under their names

abbrev pub files : List (String Global) → List (String Global) → Files
files names texts = zip (map string_bytes names) (map string_bytes texts)

no_texts : (names : List (List ℕ)) → zip {X = List ℕ} names [] ≡ []
no_texts [] = refl
no_texts (name ∷ names) = refl

pub listings_more : (all now next : Files) (names : List (String Global)) (i : ℕ) (d : String Global) (texts rest : List (String Global)) (text : String Global) → i < length names → texts ≡ text ∷ rest → next ≡ now ++ (string_bytes (get_or names i d), string_bytes text) ∷ [] → now ++ files (drop i names) texts ≡ all → next ++ files (drop (i + 1) names) rest ≡ all
listings_more all now next names i d texts rest text low split grown so_far =
    let one : Files = (string_bytes (get_or names i d), string_bytes text) ∷ [] in
    let here : files (drop i names) texts ≡ one ++ files (drop (i + 1) names) rest = ap₂ files (drop_more names i d low) split in
    ap (λ f. f ++ files (drop (i + 1) names) rest) grown ∙ append_assoc now one (files (drop (i + 1) names) rest) ∙ ap (λ f. now ++ f) (sym here) ∙ so_far

pub listings_done : (all now : Files) (names : List (String Global)) (i : ℕ) (texts : List (String Global)) → length names ≤ i → now ++ files (drop i names) texts ≡ all → now ≡ all
listings_done all now names i texts high so_far = sym (append-nil now) ∙ ap (λ xs. now ++ files xs texts) (sym (drop_all i names high)) ∙ so_far

pub listings_out : (all now : Files) (names : List (String Global)) (i : ℕ) (texts : List (String Global)) → texts ≡ [] → now ++ files (drop i names) texts ≡ all → now ≡ all
listings_out all now names i texts out so_far =
    sym (append-nil now) ∙ ap (λ f. now ++ f) (sym (ap (λ ts. files (drop i names) ts) out ∙ no_texts (map string_bytes (drop i names)))) ∙ so_far
