-- All symbols of a module: each stands by itself, there are few enough, and their names differ.
use Rattle.std.proofs.Common.{◌≡◌, ℕ, zero, suc, ◌+◌, ◌<◌, ◌≤◌, Bool, true, false, not, ◌&&◌, ◌||◌, ltb, List, [], ◌∷◌, ◌++◌, length, refl, sym, ap, subst, ◌∙◌, append_assoc, arith, inl, inr, IsTrue, ◌↔◌, lit≤, rules}
use Rattle.std.specs.List.{list_all}
use Rattle.std.specs.Str.{bytes_eq}
use Rattle.std.proofs.lemmas.Bool.{cases_lt, lt-ltb, ltb-true}
use Rattle.std.proofs.lemmas.List.{append-nil, length-append}
use Rattle.std.proofs.lemmas.Slice.Eq.{bytes_eq-Decides}
use Rattle.c25_meaning_objects.specs.declared.object.Version.{Version}
use Rattle.c25_meaning_objects.specs.Module.{SectionData, SymbolData, symbol_stands, symbol_fits, has_symbol, each_fits}
use Rattle.c25_module.specs.Differing.{name_at, NamesDiffer}
use Rattle.c25_module.proofs.Texts.{both}
use Rattle.c25_module.proofs.Fitting.{and_true}

-- ---- names by number

name_at-front : (xs zs : List SymbolData) (i : ℕ) → i < length xs → name_at (xs ++ zs) i ≡ name_at xs i
name_at-front [] zs i lt = absurd (omega arith)
name_at-front (x ∷ xs) zs zero lt = refl
name_at-front (x ∷ xs) zs (suc i) lt = name_at-front xs zs i (omega arith)

name_at-here : (xs : List SymbolData) (y : SymbolData) (zs : List SymbolData) → name_at (xs ++ y ∷ zs) (length xs) ≡ y.name
name_at-here [] y zs = refl
name_at-here (x ∷ xs) y zs = name_at-here xs y zs

has_symbol-from_name : (xs : List SymbolData) (name : List ℕ) (i : ℕ) → i < length xs → name_at xs i ≡ name → has_symbol xs name ≡ true
has_symbol-from_name [] name i lt e = absurd (omega arith)
has_symbol-from_name (x ∷ xs) name zero lt e = rw ((bytes_eq-Decides x.name name).1 e) refl
has_symbol-from_name (x ∷ xs) name (suc i) lt e = or_right (bytes_eq x.name name) (has_symbol xs name) (has_symbol-from_name xs name i (omega arith) e) where
  or_right : (a b : Bool) → b ≡ true → (a || b) ≡ true
  or_right true b h = refl
  or_right false b h = h

name-from_has_symbol : (xs : List SymbolData) (name : List ℕ) → has_symbol xs name ≡ true → (i : ℕ) × (i < length xs) × (name_at xs i ≡ name)
name-from_has_symbol [] name e = absurd cc
name-from_has_symbol (x ∷ xs) name e = by_test (bytes_eq x.name name) refl e (name-from_has_symbol xs name) where
  by_test : (b : Bool) → b ≡ bytes_eq x.name name → (b || has_symbol xs name) ≡ true
      → (has_symbol xs name ≡ true → (i : ℕ) × (i < length xs) × (name_at xs i ≡ name)) → (i : ℕ) × (i < length (x ∷ xs)) × (name_at (x ∷ xs) i ≡ name)
  by_test true h g later = (zero, omega arith, (bytes_eq-Decides x.name name).0 (sym h))
  by_test false h g later =
      let there = later g in
      let below : there.0 < length xs = there.1 in
      (suc there.0, omega arith, there.2)

-- ---- one more name

not_true : (b : Bool) → (b ≡ true → ⊥) → b ≡ false
not_true true h = absurd (h refl)
not_true false h = refl

-- the name of y is not among those before it
clash : (xs : List SymbolData) (y : SymbolData) (i : ℕ) → has_symbol xs y.name ≡ false → i < length xs → name_at (xs ++ y ∷ []) i ≡ y.name → ⊥
clash xs y i none lt e =
    let has = has_symbol-from_name xs y.name i lt (sym (name_at-front xs (y ∷ []) i lt) ∙ e) in
    cc

name_at-last : (xs : List SymbolData) (y : SymbolData) (i : ℕ) → i ≡ length xs → name_at (xs ++ y ∷ []) i ≡ y.name
name_at-last xs y i e = ap (name_at (xs ++ y ∷ [])) e ∙ name_at-here xs y []

NamesDiffer-push : (xs : List SymbolData) (y : SymbolData) → NamesDiffer xs → has_symbol xs y.name ≡ false → NamesDiffer (xs ++ y ∷ [])
NamesDiffer-push xs y h none i j p q e =
    let n : length (xs ++ y ∷ []) ≡ length xs + 1 = length-append xs (y ∷ []) in
    elim (cases_lt i (length xs)) [
      | inl a ↦ elim (cases_lt j (length xs)) [
        | inl b ↦ h i j a b (sym (name_at-front xs (y ∷ []) i a) ∙ e ∙ name_at-front xs (y ∷ []) j b)
        | inr b ↦ absurd (clash xs y i none a (e ∙ name_at-last xs y j (omega arith)))
      ]
      | inr a ↦ elim (cases_lt j (length xs)) [
        | inl b ↦ absurd (clash xs y j none b (sym e ∙ name_at-last xs y i (omega arith)))
        | inr b ↦ omega arith
      ]
    ]

NamesDiffer-none : (xs : List SymbolData) (y : SymbolData) (zs : List SymbolData) → NamesDiffer (xs ++ y ∷ zs) → has_symbol xs y.name ≡ false
NamesDiffer-none xs y zs h = not_true (has_symbol xs y.name) (λ e.
    let there = name-from_has_symbol xs y.name e in
    let n = length-append xs (y ∷ zs) in
    let lt : there.0 < length xs = there.1 in
    let same : there.0 ≡ length xs = h there.0 (length xs) (omega arith) (omega arith) (name_at-front xs (y ∷ zs) there.0 there.1 ∙ there.2 ∙ sym (name_at-here xs y zs)) in
    absurd (omega arith))

-- ---- a list of symbols

pub record AllFit (version : Version) (sections : List SectionData) (before ys : List SymbolData) : Type 0 where
  pub few : length before + length ys ≤ 65535
  pub stand : list_all (symbol_stands version sections) ys ≡ true
  pub differ : NamesDiffer (before ++ ys)

pub symbols_fit-from_all : (version : Version) (sections : List SectionData) (before ys : List SymbolData) → AllFit version sections before ys → each_fits (symbol_fits version sections) before ys ≡ true
symbols_fit-from_all version sections before [] h = refl
symbols_fit-from_all version sections before (y ∷ ys) h =
    let few : length before + length (y ∷ ys) ≤ 65535 = h.few in
    let stand = both (symbol_stands version sections y) (list_all (symbol_stands version sections) ys) h.stand in
    let none = NamesDiffer-none before y ys h.differ in
    let n : length (before ++ y ∷ []) ≡ length before + 1 = length-append before (y ∷ []) in
    let here : symbol_fits version sections before y ≡ true =
    and_true (symbol_stands version sections y && not (has_symbol before y.name)) (ltb (length before) 65535)
    (and_true (symbol_stands version sections y) (not (has_symbol before y.name)) stand.0 (ap not none)) (lt-ltb (length before) 65535 (omega arith)) in
    let rest : AllFit version sections (before ++ y ∷ []) ys = record {
      few = omega arith;
      stand = stand.1;
      differ = subst NamesDiffer (sym (append_assoc before (y ∷ []) ys)) h.differ;
    } in
    and_true (symbol_fits version sections before y) (each_fits (symbol_fits version sections) (before ++ y ∷ []) ys) here (symbols_fit-from_all version sections (before ++ y ∷ []) ys rest)

pub all-from_symbols_fit : (version : Version) (sections : List SectionData) (before ys : List SymbolData) → each_fits (symbol_fits version sections) before ys ≡ true → length before ≤ 65535 → NamesDiffer before → AllFit version sections before ys
all-from_symbols_fit version sections before [] e few differ = record {
  few = omega arith;
  stand = refl;
  differ = subst NamesDiffer (sym (append-nil before)) differ;
}
all-from_symbols_fit version sections before (y ∷ ys) e few differ =
    let parts = both (symbol_fits version sections before y) (each_fits (symbol_fits version sections) (before ++ y ∷ []) ys) e in
    let last = both (symbol_stands version sections y && not (has_symbol before y.name)) (ltb (length before) 65535) parts.0 in
    let first = both (symbol_stands version sections y) (not (has_symbol before y.name)) last.0 in
    let n : length (before ++ y ∷ []) ≡ length before + 1 = length-append before (y ∷ []) in
    let room : length before < 65535 = ltb-true (length before) 65535 last.1 in
    let rest = all-from_symbols_fit version sections (before ++ y ∷ []) ys parts.1 (omega arith) (NamesDiffer-push before y differ (not_is (has_symbol before y.name) first.1)) in
    let less : length (before ++ y ∷ []) + length ys ≤ 65535 = rest.few in
    record {
      few = omega arith;
      stand = and_true (symbol_stands version sections y) (list_all (symbol_stands version sections) ys) first.0 rest.stand;
      differ = subst NamesDiffer (append_assoc before (y ∷ []) ys) rest.differ;
    }
  where
    not_is : (b : Bool) → not b ≡ true → b ≡ false
    not_is true h = absurd cc
    not_is false h = refl

-- ---- what the code finds

abbrev fits : Version → List SectionData → List SymbolData → Bool
fits version sections ys = each_fits (symbol_fits version sections) [] ys

NamesDiffer-nil : NamesDiffer []
NamesDiffer-nil i j p q e = absurd (omega arith)

pub too_many : (version : Version) (sections : List SectionData) (ys : List SymbolData) → 65535 < length ys → fits version sections ys ≡ false
too_many version sections ys more = not_true (fits version sections ys) (λ e.
    let few : 0 + length ys ≤ 65535 = (all-from_symbols_fit version sections [] ys e (lit≤ tt) NamesDiffer-nil).few in
    absurd (omega arith))

pub some_stands_not : (version : Version) (sections : List SectionData) (ys : List SymbolData) → list_all (symbol_stands version sections) ys ≡ false → fits version sections ys ≡ false
some_stands_not version sections ys not_all = not_true (fits version sections ys) (λ e.
    let stand = (all-from_symbols_fit version sections [] ys e (lit≤ tt) NamesDiffer-nil).stand in
    absurd cc)

pub fits_if_names_differ : (version : Version) (sections : List SectionData) (ys : List SymbolData) (r : Bool) → length ys ≤ 65535 → list_all (symbol_stands version sections) ys ≡ true
    → (IsTrue r ↔ NamesDiffer ys) → r ≡ fits version sections ys
fits_if_names_differ version sections ys true few stand h =
    sym (symbols_fit-from_all version sections [] ys (record { few = omega arith; stand = stand; differ = h.0 (search rules) }))
fits_if_names_differ version sections ys false few stand h =
    sym (not_true (fits version sections ys) (λ e. false_is (h.1 (all-from_symbols_fit version sections [] ys e (lit≤ tt) NamesDiffer-nil).differ)))
  where
    false_is : IsTrue false → ⊥
    false_is h = search rules
