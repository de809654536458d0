-- All symbols of a module: the names that are defined, and after them those of other modules, each once.
use Rattle.std.proofs.Common.{◌≡◌, ℕ, suc, ◌+◌, ◌≤◌, ◌<◌, Bool, true, false, cond, not, ◌||◌, ◌&&◌, ltb, List, [], ◌∷◌, ◌++◌, length, map, Option, Some, None, pos, refl, sym, ap, ◌∙◌, subst, arith}
use Rattle.std.specs.Int.{w32}
use Rattle.std.specs.Int.RustNames.{FitsSigned}
use Rattle.std.specs.List.{AllByRecursion, list_any, slice_get}
use Rattle.std.specs.Ordering.{int_eq}
use Rattle.std.specs.Str.{bytes_eq}
use Rattle.std.proofs.lemmas.Bool.{and_from, lt-ltb, not_from_false}
use Rattle.std.proofs.lemmas.List.{map-append, append_assoc, length-append}
use Rattle.c25_meaning_assembly.specs.Emission.{kind_of, names_with, numbered, scope_of, symbol_of}
use Rattle.c25_meaning_objects.specs.Module.{SectionData, SymbolData, each_fits, has_symbol, is_external, is_global, is_symbol_name, place_fits, symbol_fits, symbol_stands}
use Rattle.c25_meaning_assembly.specs.Sections.{Definitions, are_distinct, imports, is_in, stands}
use Rattle.c25_meaning_language.specs.Value.{named_by, predefined, defined}
use Rattle.c25_meaning_objects.specs.declared.object.Version.TheVariants.{Two}
use Rattle.c25_meaning_language.specs.declared.value.Base.{Base}
use Rattle.c25_meaning_language.specs.declared.value.Base.TheVariants.{Absolute, Section, Loaded, External}
use Rattle.c25_meaning_language.specs.declared.value.Value.{Value}
use Rattle.c25_meaning_assembly.proofs.Distinct.{both, neither, turned}
use Rattle.c25_module_laws.proofs.Kept.{IsInside, first_names}
use Rattle.c25_module_laws.proofs.KeptActs.{IsSmall, not_named, predefined_small}
use Rattle.c25_module_laws.proofs.Spoken.{IsSymbol}
use Rattle.c25_module_laws.proofs.Valued.{IsGoodValue, natural_fits}

-- ---- each name once

absent_both : (olds bs : List (List ℕ)) (n : List ℕ) → is_in olds n ≡ false → is_in bs n ≡ false → is_in (olds ++ bs) n ≡ false
absent_both [] bs n g h = h
absent_both (a ∷ olds) bs n g h =
    let p = neither (bytes_eq n a) (is_in olds n) g in
    ap (λ b. b || is_in (olds ++ bs) n) p.0 ∙ absent_both olds bs n p.1 h

absent_head : (a : List ℕ) (olds bs : List (List ℕ)) → AllByRecursion (λ b. is_in (a ∷ olds) b ≡ false) bs → is_in bs a ≡ false
absent_head a olds [] h = refl
absent_head a olds (b ∷ bs) h =
    let p = neither (bytes_eq b a) (is_in olds b) h.0 in
    ap (λ c. c || is_in bs a) (turned a b ∙ p.0) ∙ absent_head a olds bs h.1

absent_tail : (a : List ℕ) (olds bs : List (List ℕ)) → AllByRecursion (λ b. is_in (a ∷ olds) b ≡ false) bs → AllByRecursion (λ b. is_in olds b ≡ false) bs
absent_tail a olds [] h = tt
absent_tail a olds (b ∷ bs) h = ((neither (bytes_eq b a) (is_in olds b) h.0).1, absent_tail a olds bs h.1)

distinct_both : (olds bs : List (List ℕ)) → are_distinct olds ≡ true → are_distinct bs ≡ true → AllByRecursion (λ b. is_in olds b ≡ false) bs → are_distinct (olds ++ bs) ≡ true
distinct_both [] bs g h apart = h
distinct_both (a ∷ olds) bs g h apart =
    let p = both (is_in olds a) (are_distinct olds) g in
    let away = absent_both olds bs a p.0 (absent_head a olds bs apart) in
    ap (λ b. not b && are_distinct (olds ++ bs)) away ∙ distinct_both olds bs p.1 h (absent_tail a olds bs apart)

absent_import : (names : Definitions) (ds : List (List ℕ)) (n : List ℕ) → is_in ds n ≡ false → is_in (imports names ds) n ≡ false
absent_import names [] n h = refl
absent_import names (d ∷ ds) n h =
    let p = neither (bytes_eq n d) (is_in ds n) h in
    on (stands names d) p.0 (absent_import names ds n p.1)
  where
    on : (b : Bool) → bytes_eq n d ≡ false → is_in (imports names ds) n ≡ false → is_in (cond (not b) (d ∷ imports names ds) (imports names ds)) n ≡ false
    on true e rest = rest
    on false e rest = ap (λ b. b || is_in (imports names ds) n) e ∙ rest

imports_distinct : (names : Definitions) (ds : List (List ℕ)) → are_distinct ds ≡ true → are_distinct (imports names ds) ≡ true
imports_distinct names [] h = refl
imports_distinct names (d ∷ ds) h =
    let p = both (is_in ds d) (are_distinct ds) h in
    on (stands names d) p.0 (imports_distinct names ds p.1)
  where
    on : (b : Bool) → is_in ds d ≡ false → are_distinct (imports names ds) ≡ true → are_distinct (cond (not b) (d ∷ imports names ds) (imports names ds)) ≡ true
    on true e rest = rest
    on false e rest = ap (λ b. not b && are_distinct (imports names ds)) (absent_import names ds d e) ∙ rest

imports_apart : (names : Definitions) (ds : List (List ℕ)) → AllByRecursion (λ b. is_in (first_names names) b ≡ false) (imports names ds)
imports_apart names [] = tt
imports_apart names (d ∷ ds) = on (stands names d) refl (imports_apart names ds)
  where
    on : (b : Bool) → stands names d ≡ b → AllByRecursion (λ b. is_in (first_names names) b ≡ false) (imports names ds)
        → AllByRecursion (λ b. is_in (first_names names) b ≡ false) (cond (not b) (d ∷ imports names ds) (imports names ds))
    on true is rest = rest
    on false is rest = (not_named names d is, rest)

imports_hold : (P : List ℕ → Type 0) (names : Definitions) (ds : List (List ℕ)) → AllByRecursion P ds → AllByRecursion P (imports names ds)
imports_hold P names [] h = tt
imports_hold P names (d ∷ ds) h = on (stands names d) (imports_hold P names ds h.1)
  where
    on : (b : Bool) → AllByRecursion P (imports names ds) → AllByRecursion P (cond (not b) (d ∷ imports names ds) (imports names ds))
    on true rest = rest
    on false rest = (h.0, rest)

first_numbered : (n : ℕ) (ds : List (List ℕ)) → first_names (numbered n ds) ≡ ds
first_numbered n [] = refl
first_numbered n (d ∷ ds) = ap (λ ns. d ∷ ns) (first_numbered (n + 1) ds)

length_numbered : (n : ℕ) (ds : List (List ℕ)) → length (numbered n ds) ≡ length ds
length_numbered n [] = refl
length_numbered n (d ∷ ds) = ap suc (length_numbered (n + 1) ds)

pub all_distinct : (names : Definitions) (declared : List (List ℕ)) → are_distinct (first_names names) ≡ true → are_distinct declared ≡ true → are_distinct (first_names (names_with names declared)) ≡ true
all_distinct names declared g h =
    let same : first_names (names_with names declared) ≡ first_names names ++ imports names declared =
    map-append (λ (e : List ℕ × Value). e.0) names (numbered (length names) (imports names declared)) ∙ ap (λ ns. first_names names ++ ns) (first_numbered (length names) (imports names declared)) in
    subst (λ (ns : List (List ℕ)). are_distinct ns ≡ true) (sym same) (distinct_both (first_names names) (imports names declared) g (imports_distinct names declared h) (imports_apart names declared))

pub all_count : (names : Definitions) (declared : List (List ℕ)) → length (names_with names declared) ≡ length names + length (imports names declared)
all_count names declared = length-append names (numbered (length names) (imports names declared)) ∙ ap (λ n. length names + n) (length_numbered (length names) (imports names declared))

-- ---- each name is a symbol's, and stands for a place or a number

pub record IsGoodSymbol (sections : List SectionData) (exported : List (List ℕ)) (e : List ℕ × Value) : Type 0 where
  pub stands : symbol_stands Two sections (symbol_of exported e) ≡ true
  pub fits : FitsSigned w32 e.1.offset

defined_good : (sections : List SectionData) (exported : List (List ℕ)) (e : List ℕ × Value) → IsSymbol e.0 → IsGoodValue (IsInside (length sections)) e.1 → IsGoodSymbol sections exported e
defined_good sections exported e symbol good = record {
  stands = and_from (is_symbol_name e.0 && true) (place_fits sections (symbol_of exported e) (kind_of e.1.base)) (and_from (is_symbol_name e.0) true symbol refl) (by e.1.base good.0);
  fits = good.1;
}
  where
    by : (b : Base) → IsInside (length sections) b → place_fits sections (symbol_of exported e) (kind_of b) ≡ true
    by Absolute h = refl
    by (Section k) h = lt-ltb k (length sections) h
    by (Loaded k) h = lt-ltb k (length sections) h
    by (External k) h = absurd h

imported_good : (sections : List SectionData) (exported : List (List ℕ)) (n : ℕ) (ds : List (List ℕ)) → AllByRecursion IsSymbol ds → AllByRecursion (λ d. is_in exported d ≡ true) ds
    → AllByRecursion (IsGoodSymbol sections exported) (numbered n ds)
imported_good sections exported n [] g h = tt
imported_good sections exported n (d ∷ ds) g h = (
  record {
    stands = and_from (is_symbol_name d && true) (is_global (scope_of (is_in exported d)) && int_eq (pos 0) (pos 0)) (and_from (is_symbol_name d) true g.0 refl) (ap (λ b. is_global (scope_of b) && int_eq (pos 0) (pos 0)) h.0);
    fits = natural_fits 0 (omega arith);
  },
  imported_good sections exported (n + 1) ds g.1 h.1,
)

pub both_hold : {X : Type 0} (P : X → Type 0) (xs ys : List X) → AllByRecursion P xs → AllByRecursion P ys → AllByRecursion P (xs ++ ys)
both_hold P [] ys g h = h
both_hold P (x ∷ xs) ys g h = (g.0, both_hold P xs ys g.1 h)

pub all_good : (sections : List SectionData) (n : ℕ) (names : Definitions) (declared exported : List (List ℕ)) → n ≡ length sections
    → AllByRecursion (λ e. IsSymbol e.0 × IsGoodValue (IsInside n) e.1) names → AllByRecursion IsSymbol declared → AllByRecursion (λ d. is_in exported d ≡ true) declared
    → AllByRecursion (IsGoodSymbol sections exported) (names_with names declared)
all_good sections n names declared exported is g h seen =
    both_hold (IsGoodSymbol sections exported) names (numbered (length names) (imports names declared)) (defined_all names g)
    (imported_good sections exported (length names) (imports names declared) (imports_hold IsSymbol names declared h) (imports_hold (λ d. is_in exported d ≡ true) names declared seen))
  where
    defined_all : (es : Definitions) → AllByRecursion (λ e. IsSymbol e.0 × IsGoodValue (IsInside n) e.1) es → AllByRecursion (IsGoodSymbol sections exported) es
    defined_all [] h = tt
    defined_all (e ∷ es) h = (defined_good sections exported e h.0.0 (subst (λ (m : ℕ). IsGoodValue (IsInside m) e.1) is h.0.1), defined_all es h.1)

-- ---- the symbols are those of a module

absent_push : (test : SymbolData → Bool) (before : List SymbolData) (y : SymbolData) → list_any test before ≡ false → test y ≡ false → list_any test (before ++ y ∷ []) ≡ false
absent_push test [] y g h = ap (λ b. b || false) h
absent_push test (x ∷ xs) y g h =
    let p = neither (test x) (list_any test xs) g in
    ap (λ b. b || list_any test (xs ++ y ∷ [])) p.0 ∙ absent_push test xs y p.1 h

pub symbols_fit : (sections : List SectionData) (exported : List (List ℕ)) (before : List SymbolData) (xs : Definitions) → AllByRecursion (IsGoodSymbol sections exported) xs
    → are_distinct (first_names xs) ≡ true → AllByRecursion (λ x. has_symbol before x.0 ≡ false) xs → length before + length xs ≤ 65535
    → each_fits (symbol_fits Two sections) before (map (symbol_of exported) xs) ≡ true
symbols_fit sections exported before [] good distinct new few = refl
symbols_fit sections exported before (x ∷ xs) good distinct new few =
    let y = symbol_of exported x in
    let p = both (is_in (first_names xs) x.0) (are_distinct (first_names xs)) distinct in
    let one = length-append before (y ∷ []) in
    and_from (symbol_fits Two sections before y) (each_fits (symbol_fits Two sections) (before ++ y ∷ []) (map (symbol_of exported) xs))
    (and_from (symbol_stands Two sections y && not (has_symbol before x.0)) (ltb (length before) 65535)
    (and_from (symbol_stands Two sections y) (not (has_symbol before x.0)) (good.0).stands (not_from_false (has_symbol before x.0) new.0)) (lt-ltb (length before) 65535 (omega (arith, few))))
    (symbols_fit sections exported (before ++ y ∷ []) xs good.1 p.1 (still y xs p.0 new.1) (omega (arith, few, one)))
  where
    still : (y : SymbolData) (zs : Definitions) → is_in (first_names zs) y.name ≡ false → AllByRecursion (λ z. has_symbol before z.0 ≡ false) zs → AllByRecursion (λ z. has_symbol (before ++ y ∷ []) z.0 ≡ false) zs
    still y [] away new = tt
    still y (z ∷ zs) away new =
        let p = neither (bytes_eq y.name z.0) (is_in (first_names zs) y.name) away in
        (absent_push (λ w. bytes_eq w.name z.0) before y new.0 p.0, still y zs p.1 new.1)

-- ---- what names stand for, as bases of relocations

abbrev pub IsBase : ℕ → List SymbolData → Base → Type 0
IsBase n symbols Absolute = Unit {0}
IsBase n symbols (Section k) = k < n
IsBase n symbols (Loaded k) = k < n
IsBase n symbols (External k) = is_external (slice_get symbols k) ≡ true

inside_base : (n : ℕ) (symbols : List SymbolData) (b : Base) → IsInside n b → IsBase n symbols b
inside_base n symbols Absolute h = tt
inside_base n symbols (Section k) h = h
inside_base n symbols (Loaded k) h = h
inside_base n symbols (External k) h = absurd h

get_behind : {X Y : Type 0} (f : X → Y) (pre : List X) (x : X) (rest : List X) → slice_get (map f (pre ++ x ∷ rest)) (length pre) ≡ Some (f x)
get_behind f [] x rest = refl
get_behind f (p ∷ ps) x rest = get_behind f ps x rest

numbered_bases : (n : ℕ) (exported : List (List ℕ)) (all pre : Definitions) (m : ℕ) (ds : List (List ℕ)) → m ≡ length pre → all ≡ pre ++ numbered m ds
    → AllByRecursion (λ e. IsGoodValue (IsBase n (map (symbol_of exported) all)) e.1) (numbered m ds)
numbered_bases n exported all pre m [] at is = tt
numbered_bases n exported all pre m (d ∷ ds) at is =
    let e : List ℕ × Value = (d, record { base = External m; offset = pos 0 }) in
    let there : slice_get (map (symbol_of exported) all) m ≡ Some (symbol_of exported e) =
    ap (λ xs. slice_get (map (symbol_of exported) xs) m) is ∙ ap (slice_get (map (symbol_of exported) (pre ++ e ∷ numbered (m + 1) ds))) at ∙ get_behind (symbol_of exported) pre e (numbered (m + 1) ds) in
    let one = length-append pre (e ∷ []) in (
      (ap is_external there, natural_fits 0 (omega arith)),
      numbered_bases n exported all (pre ++ e ∷ []) (m + 1) ds (omega (arith, at, one)) (is ∙ sym (append_assoc pre (e ∷ []) (numbered (m + 1) ds))),
    )

all_bases : (n : ℕ) (names : Definitions) (declared exported : List (List ℕ)) → AllByRecursion (λ e. IsSymbol e.0 × IsGoodValue (IsInside n) e.1) names
    → AllByRecursion (λ e. IsGoodValue (IsBase n (map (symbol_of exported) (names_with names declared))) e.1) (names_with names declared)
all_bases n names declared exported g =
    both_hold (λ e. IsGoodValue (IsBase n (map (symbol_of exported) (names_with names declared))) e.1) names (numbered (length names) (imports names declared)) (inside names g)
    (numbered_bases n exported (names_with names declared) names (length names) (imports names declared) refl refl)
  where
    inside : (es : Definitions) → AllByRecursion (λ e. IsSymbol e.0 × IsGoodValue (IsInside n) e.1) es → AllByRecursion (λ e. IsGoodValue (IsBase n (map (symbol_of exported) (names_with names declared))) e.1) es
    inside [] h = tt
    inside (e ∷ es) h = ((inside_base n (map (symbol_of exported) (names_with names declared)) e.1.base h.0.1.0, h.0.1.1), inside es h.1)

found : (B : Base → Type 0) (es : Definitions) (d : List ℕ) (w : Value) → AllByRecursion (λ e. IsGoodValue B e.1) es → defined es d ≡ Some w → IsGoodValue B w
found B [] d w h e = absurd (cc)
found B (x ∷ xs) d w h e = on (bytes_eq d x.0) (found B xs d w h.1) e
  where
    on : (b : Bool) → (defined xs d ≡ Some w → IsGoodValue B w) → cond b (Some x.1) (defined xs d) ≡ Some w → IsGoodValue B w
    on true rest e = let q : x.1 ≡ w = cc in subst (λ (v : Value). IsGoodValue B v) q h.0
    on false rest e = rest e

-- what a name stands for among all
pub all_known : (n : ℕ) (names : Definitions) (declared exported : List (List ℕ)) → AllByRecursion (λ e. IsSymbol e.0 × IsGoodValue (IsInside n) e.1) names
    → (d : List ℕ) (w : Value) → named_by (predefined d) (defined (names_with names declared) d) ≡ Some w → IsGoodValue (IsBase n (map (symbol_of exported) (names_with names declared))) w
all_known n names declared exported g d w e = on (predefined d) (predefined_small d) e
  where
    on : (p : Option ℕ) → IsSmall p → named_by p (defined (names_with names declared) d) ≡ Some w → IsGoodValue (IsBase n (map (symbol_of exported) (names_with names declared))) w
    on (Some k) small e =
        let plain : Value = record { base = Absolute; offset = pos k } in
        let q : plain ≡ w = cc in
        subst (λ (v : Value). IsGoodValue (IsBase n (map (symbol_of exported) (names_with names declared))) v) q (tt, natural_fits k small)
    on None small e = found (IsBase n (map (symbol_of exported) (names_with names declared))) (names_with names declared) d w (all_bases n names declared exported g) e
