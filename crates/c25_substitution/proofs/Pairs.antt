-- Names and texts by their bytes have the same entries.
use Rattle.std.proofs.Common.{rules, ◌≡◌, ℕ, zero, suc, ◌<◌, Bool, true, false, cond, List, [], ◌∷◌, length, take, get_or, set, Option, Some, None, IsSome, is_some, String, refl, ap, sym, subst, ◌∙◌, arith}
use Rattle.std.proofs.lemmas.Bool.{false≢true}
use Rattle.std.specs.declared.alloc.Global.{Global}
use Rattle.std.specs.Map.{lookup}
use Rattle.std.specs.Option.{option_map}
use Rattle.std.specs.Str.{bytes_eq}
use Rattle.std.specs.String.{string_bytes, string_eq}
use Rattle.indexmap.specs.IndexMap.{insert_entry}
use Rattle.c25_meaning_language.specs.Texts.{with_name}
use Rattle.c25_substitution.specs.Pairs.{pairs}

by_test : (b : Bool) (text : String Global) (o : Option (String Global)) (p : Option (List ℕ)) → option_map string_bytes o ≡ p → option_map string_bytes (cond b (Some text) o) ≡ cond b (Some (string_bytes text)) p
by_test true text o p h = refl
by_test false text o p h = h

pub lookup-pairs : (es : List (String Global × String Global)) (name : List ℕ) → option_map string_bytes (lookup (λ k. bytes_eq name (string_bytes k)) es) ≡ lookup (bytes_eq name) (pairs es)
lookup-pairs [] name = refl
lookup-pairs (e ∷ es) name = by_test (bytes_eq name (string_bytes e.0)) e.1 (lookup (λ k. bytes_eq name (string_bytes k)) es) (lookup (bytes_eq name) (pairs es)) (lookup-pairs es name)

by_insert : (b : Bool) (e : String Global × String Global) (es fs : List (String Global × String Global)) (text : String Global) (gs : List (List ℕ × List ℕ)) → pairs fs ≡ gs → pairs (cond b ((e.0, text) ∷ es) (e ∷ fs)) ≡ cond b ((string_bytes e.0, string_bytes text) ∷ pairs es) ((string_bytes e.0, string_bytes e.1) ∷ gs)
by_insert true e es fs text gs h = refl
by_insert false e es fs text gs h = ap (λ xs. (string_bytes e.0, string_bytes e.1) ∷ xs) h

pub pairs-insert : (es : List (String Global × String Global)) (name text : String Global) → pairs (insert_entry string_eq es name text) ≡ with_name (pairs es) (string_bytes name) (string_bytes text)
pairs-insert [] name text = refl
pairs-insert (e ∷ es) name text = by_insert (bytes_eq (string_bytes name) (string_bytes e.0)) e es (insert_entry string_eq es name text) text (with_name (pairs es) (string_bytes name) (string_bytes text)) (pairs-insert es name text)

-- ---- the first entry of a name, by its place
none_by : (b : Bool) (text : String Global) (o : Option (List ℕ)) → cond b (Some (string_bytes text)) o ≡ None → (b ≡ false) × (o ≡ None)
none_by true text o h = absurd (false≢true (sym (ap is_some h)))
none_by false text o h = (refl, h)

pub none_more : (name : List ℕ) (es : List (String Global × String Global)) (i : ℕ) (e : String Global × String Global) → i < length es → lookup (bytes_eq name) (pairs (take i es)) ≡ None → bytes_eq name (string_bytes (get_or es i e).0) ≡ false → lookup (bytes_eq name) (pairs (take (suc i) es)) ≡ None
none_more name [] i e h none other = absurd (omega arith)
none_more name (x ∷ xs) zero e h none other = ap (λ b. cond b (Some (string_bytes x.1)) None) other
none_more name (x ∷ xs) (suc i) e h none other =
    let both = none_by (bytes_eq name (string_bytes x.0)) x.1 (lookup (bytes_eq name) (pairs (take i xs))) none in
    ap (λ b. cond b (Some (string_bytes x.1)) (lookup (bytes_eq name) (pairs (take (suc i) xs)))) both.0 ∙ none_more name xs i e (omega (arith, h)) both.1 other

pub text_set : (name : List ℕ) (es : List (String Global × String Global)) (i : ℕ) (e : String Global × String Global) (text : String Global) → i < length es → lookup (bytes_eq name) (pairs (take i es)) ≡ None → bytes_eq name (string_bytes (get_or es i e).0) ≡ true →
    pairs (set es i ((get_or es i e).0, text)) ≡ with_name (pairs es) name (string_bytes text)
text_set name [] i e text h none here = absurd (omega arith)
text_set name (x ∷ xs) zero e text h none here = ap (λ b. cond b ((string_bytes x.0, string_bytes text) ∷ pairs xs) ((string_bytes x.0, string_bytes x.1) ∷ with_name (pairs xs) name (string_bytes text))) (sym here)
text_set name (x ∷ xs) (suc i) e text h none here =
    let both = none_by (bytes_eq name (string_bytes x.0)) x.1 (lookup (bytes_eq name) (pairs (take i xs))) none in
    ap (λ ys. (string_bytes x.0, string_bytes x.1) ∷ ys) (text_set name xs i e text (omega (arith, h)) both.1 here)
    ∙ ap (λ b. cond b ((string_bytes x.0, string_bytes text) ∷ pairs xs) ((string_bytes x.0, string_bytes x.1) ∷ with_name (pairs xs) name (string_bytes text))) (sym both.0)

some_by : (b : Bool) (text : String Global) (o : Option (List ℕ)) → IsSome o → IsSome (cond b (Some (string_bytes text)) o)
some_by true text o h = search rules
some_by false text o h = h

pub is_known : (name : List ℕ) (es : List (String Global × String Global)) (i : ℕ) (e : String Global × String Global) → i < length es → bytes_eq name (string_bytes (get_or es i e).0) ≡ true → IsSome (lookup (bytes_eq name) (pairs es))
is_known name [] i e h here = absurd (omega arith)
is_known name (x ∷ xs) zero e h here = subst (λ b. IsSome (cond b (Some (string_bytes x.1)) (lookup (bytes_eq name) (pairs xs)))) (sym here) (search rules)
is_known name (x ∷ xs) (suc i) e h here = some_by (bytes_eq name (string_bytes x.0)) x.1 (lookup (bytes_eq name) (pairs xs)) (is_known name xs i e (omega (arith, h)) here)
