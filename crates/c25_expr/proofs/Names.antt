-- A name's entry, found by its bytes.
use Rattle.std.proofs.Common.{◌≡◌, ℕ, Bool, true, false, cond, List, [], ◌∷◌, ◌++◌, Option, Some, None, is_some, String, refl, sym, ap, ◌∙◌}
use Rattle.std.specs.declared.alloc.Global.{Global}
use Rattle.std.specs.String.{string_bytes, string_eq}
use Rattle.indexmap.specs.IndexMap.{insert_entry}
use Rattle.std.proofs.lemmas.Bool.{false≢true}
use Rattle.std.specs.Str.{bytes_eq}
use Rattle.std.specs.Map.{lookup}
use Rattle.c25_meaning_language.specs.declared.value.Value.{Value}
use Rattle.c25_meaning_language.specs.Value.{Table, predefined, defined, value_named, named_by}
use Rattle.c25_expr.specs.Symbols.{texts}

-- the names by their bytes have the same entries
pub defined-texts : (es : List (String Global × Value)) (name : List ℕ) → lookup (λ k. bytes_eq name (string_bytes k)) es ≡ defined (texts es) name
defined-texts [] name = refl
defined-texts (e ∷ es) name = ap (cond (bytes_eq name (string_bytes e.0)) (Some e.1)) (defined-texts es name)

pub value_named-texts : (es : List (String Global × Value)) (here : Value) (t : Table) (name : List ℕ) (o : Option Value) → record { entries = texts es; here = here } ≡ t → predefined name ≡ None → o ≡ lookup (λ k. bytes_eq name (string_bytes k)) es → o ≡ value_named t name
value_named-texts es here t name o same none e =
    e ∙ defined-texts es name ∙ sym (ap (λ p. named_by p (defined (texts es) name)) none) ∙ ap (λ (u : Table). value_named u name) same

no_entry : (p : Option ℕ) (o : Option Value) → is_some (named_by p o) ≡ false → o ≡ None
no_entry (Some n) o h = absurd (false≢true (sym h))
no_entry None None h = refl
no_entry None (Some v) h = absurd (false≢true (sym h))

abbrev IsNew : List (String Global × Value) → String Global → Value → Type 0
IsNew es k v = texts (insert_entry string_eq es k v) ≡ texts es ++ (string_bytes k, v) ∷ []

by_test : (b : Bool) (e : String Global × Value) (es : List (String Global × Value)) (k : String Global) (v : Value) → (defined (texts es) (string_bytes k) ≡ None → IsNew es k v) → cond b (Some e.1) (defined (texts es) (string_bytes k)) ≡ None → texts (cond b ((e.0, v) ∷ es) (e ∷ insert_entry string_eq es k v)) ≡ (string_bytes e.0, e.1) ∷ (texts es ++ (string_bytes k, v) ∷ [])
by_test true e es k v more h = cc
by_test false e es k v more h = ap (λ xs. (string_bytes e.0, e.1) ∷ xs) (more h)

-- a new name comes last
pub texts-insert : (es : List (String Global × Value)) (k : String Global) (v : Value) → defined (texts es) (string_bytes k) ≡ None → IsNew es k v
texts-insert [] k v h = refl
texts-insert (e ∷ es) k v h = by_test (bytes_eq (string_bytes k) (string_bytes e.0)) e es k v (texts-insert es k v) h

pub table-insert : (es fs : List (String Global × Value)) (here : Value) (t : Table) (k : String Global) (v : Value) (name : List ℕ) → record { entries = texts es; here = here } ≡ t → string_bytes k ≡ name → is_some (value_named t name) ≡ false → fs ≡ insert_entry string_eq es k v → (let after : Table = record { entries = texts fs; here = here } in after) ≡ record { entries = t.entries ++ (name, v) ∷ []; here = t.here }
table-insert es fs here t k v name same bytes none e =
    let old : Table = record { entries = texts es; here = here } in
    let absent : defined (texts es) (string_bytes k) ≡ None =
    ap (defined (texts es)) bytes ∙ ap (λ (u : Table). defined u.entries name) same ∙ no_entry (predefined name) (defined t.entries name) none in
    ap (λ xs. record { entries = texts xs; here = here }) e
    ∙ ap (λ xs. record { entries = xs; here = here }) (texts-insert es k v absent ∙ ap (λ n. texts es ++ (n, v) ∷ []) bytes)
    ∙ ap (λ (u : Table). record { entries = u.entries ++ (name, v) ∷ []; here = u.here }) same
