-- The names of symbols, gathered one by one.
use Rattle.std.proofs.Common.{◌≡◌, ℕ, ◌+◌, List, [], ◌∷◌, ◌++◌, drop, map, Bor, Some, ap, sym, ◌∙◌}
use Rattle.std.specs.Prelude.{slice_get}
use Rattle.std.proofs.lemmas.List.{append_assoc, drop_more, map-append}
use Rattle.std.proofs.lemmas.Option.{slice_get_within, get_or_from_slice_get}
use Rattle.c25_meaning_language.specs.declared.value.Value.{Value}

-- one name more comes after the names before it
pub one_named : (names after : List (Bor (List ℕ))) (entries : List (List ℕ × Value)) (i : ℕ) (n : Bor (List ℕ)) (v : Value) (all : List (List ℕ))
    → after ≡ names ++ n ∷ [] → slice_get entries i ≡ Some (n.now, v)
    → map (λ m. m.now) names ++ map (λ e. e.0) (drop i entries) ≡ all → map (λ m. m.now) after ++ map (λ e. e.0) (drop (i + 1) entries) ≡ all
one_named names after entries i n v all is found told =
    let texts : List (Bor (List ℕ)) → List (List ℕ) = λ ms. map (λ m. m.now) ms in
    let keys : List (List ℕ × Value) → List (List ℕ) = λ es. map (λ e. e.0) es in
    let d : List ℕ × Value = (n.now, v) in
    let here : drop i entries ≡ d ∷ drop (i + 1) entries =
    drop_more entries i d (slice_get_within entries i d found) ∙ ap (λ (e : List ℕ × Value). e ∷ drop (i + 1) entries) (get_or_from_slice_get entries i d d found) in
    ap (λ (ms : List (Bor (List ℕ))). texts ms ++ keys (drop (i + 1) entries)) is
    ∙ ap (λ (ns : List (List ℕ)). ns ++ keys (drop (i + 1) entries)) (map-append (λ (m : Bor (List ℕ)). m.now) names (n ∷ []))
    ∙ append_assoc (texts names) (n.now ∷ []) (keys (drop (i + 1) entries))
    ∙ ap (λ (es : List (List ℕ × Value)). texts names ++ keys es) (sym here)
    ∙ told
