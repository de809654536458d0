-- The names of a set, found by their bytes.
use Rattle.std.proofs.Common.{◌≡◌, ℕ, zero, suc, Bool, true, false, cond, ◌||◌, List, [], ◌∷◌, ◌++◌, Some, String, refl, ap, ◌∙◌}
use Rattle.std.specs.declared.alloc.Global.{Global}
use Rattle.std.specs.List.{list_any, slice_get}
use Rattle.std.specs.Str.{bytes_eq}
use Rattle.std.specs.String.{string_bytes, string_eq}
use Rattle.indexmap.specs.IndexSet.{insert_key}
use Rattle.c25_meaning_assembly.specs.Sections.{is_in}
use Rattle.c25_phases.specs.Names.{bytes_of_names}

-- a name is found by its bytes
pub any_bytes : (ks : List (String Global)) (name : List ℕ) → list_any (λ k. bytes_eq name (string_bytes k)) ks ≡ is_in (bytes_of_names ks) name
any_bytes [] name = refl
any_bytes (k ∷ ks) name = ap (λ b. bytes_eq name (string_bytes k) || b) (any_bytes ks name)

bytes-push : (ks : List (String Global)) (k : String Global) → bytes_of_names (ks ++ k ∷ []) ≡ bytes_of_names ks ++ string_bytes k ∷ []
bytes-push [] k = refl
bytes-push (x ∷ xs) k = ap (λ ns. string_bytes x ∷ ns) (bytes-push xs k)

-- a name that is not there comes last
pub added : (ks new : List (String Global)) (k : String Global) (name : List ℕ) → string_bytes k ≡ name → is_in (bytes_of_names ks) name ≡ false → new ≡ insert_key string_eq ks k
    → bytes_of_names new ≡ bytes_of_names ks ++ name ∷ []
added ks new k name same away is =
    let none : list_any (string_eq k) ks ≡ false = any_bytes ks (string_bytes k) ∙ ap (is_in (bytes_of_names ks)) same ∙ away in
    ap bytes_of_names (is ∙ ap (λ b. cond b ks (ks ++ k ∷ [])) none) ∙ bytes-push ks k ∙ ap (λ n. bytes_of_names ks ++ n ∷ []) same

-- a name at some place is among the names
pub among_at : (names : List (List ℕ)) (i : ℕ) (n name : List ℕ) → slice_get names i ≡ Some n → bytes_eq name n ≡ true → is_in names name ≡ true
among_at [] i n name at same = absurd (cc)
among_at (x ∷ xs) zero n name at same = let here : x ≡ n = cc in ap (λ y. bytes_eq name y || is_in xs name) here ∙ ap (λ b. b || is_in xs name) same
among_at (x ∷ xs) (suc i) n name at same = ap (λ b. bytes_eq name x || b) (among_at xs i n name at same) ∙ or_true (bytes_eq name x)
  where
    or_true : (b : Bool) → (b || true) ≡ true
    or_true true = refl
    or_true false = refl
