-- The labels, the mark and the relocation that indexes find are those of the module.
use Rattle.std.proofs.Common.{◌≡◌, ℕ, ℤ, pos, negsuc, ◌==◌, ◌&&◌, Bool, true, false, cond, if◌then◌else◌, List, [], ◌∷◌, ◌++◌, filter, find, Option, Some, None, refl, sym, ap, ◌∙◌, string_bytes, nat_lt, arith}
use Rattle.std.specs.List.{flat_map}
use Rattle.std.specs.Ordering.{int_eq, is_eq}
use Rattle.std.specs.declared.cmp.Ordering.TheVariants.{Less, Equal, Greater}
use Rattle.std.proofs.lemmas.Bool.Decides.{nat_tests}
use Rattle.std.proofs.lemmas.List.Folds.{flat_map-map}
use Rattle.c25_meaning_objects.specs.Module.{SymbolData}
use Rattle.c25_meaning_objects.specs.declared.object.ModuleMark.{ModuleMark}
use Rattle.c25_meaning_objects.specs.declared.object.Relocation.{Relocation}
use Rattle.c25_module.specs.View.{symbol_data, symbols_data}
use Rattle.c25_module.specs.declared.parts.Symbol.{Symbol}
use Rattle.c25_dis.specs.Index.{IsIndexOf, is_at, is_there}
use Rattle.c25_dis.specs.Sections.{counts_from, label_line, stands_at}
use Rattle.c25_dis.specs.View.{label_by, label_in, mark_place, offset_place, relocation_place, symbol_place}
use Rattle.c25_dis.specs.declared.index.IndexEntry.{IndexEntry}
use Rattle.c25_dis.proofs.Found.{item_of, items_found, find_alike}
use Rattle.c25_dis.proofs.Ordered.{filter_alike}

offset_test : (place : ℕ) (z : ℤ) → is_there place (offset_place z) ≡ int_eq z (pos place)
offset_test place (pos n) = by_tests (nat_lt n place) (nat_lt place n) refl refl where
  by_tests : (t u : Bool) → nat_lt n place ≡ t → nat_lt place n ≡ u → (n == place) ≡ is_eq (cond t Less (cond u Greater Equal))
  by_tests true u p q = grind (arith, nat_tests)
  by_tests false true p q = grind (arith, nat_tests)
  by_tests false false p q = grind (arith, nat_tests)
offset_test place (negsuc n) = refl

symbol_test : (place section : ℕ) (y : Symbol) → is_there place (symbol_place y section) ≡ stands_at section place (symbol_data y)
symbol_test place section y = by_test (counts_from section y.kind) where
  by_test : (b : Bool) → is_there place (if b then offset_place y.value else None) ≡ (b && int_eq y.value (pos place))
  by_test true = offset_test place y.value
  by_test false = refl

in_section : (place offset : ℕ) (b : Bool) → is_there place (if b then Some offset else None) ≡ (b && offset == place)
in_section place offset true = refl
in_section place offset false = refl

-- the mark that is found is that of the module
pub mark_test : (place section : ℕ) (marks : List ModuleMark) → find (λ x. is_there place (mark_place x section)) marks ≡ find (λ x. x.section == section && x.offset == place) marks
mark_test place section marks =
    find_alike (λ (x : ModuleMark). is_there place (mark_place x section)) (λ (x : ModuleMark). x.section == section && x.offset == place) (λ x. in_section place x.offset (x.section == section)) marks

-- the relocation that is found is that of the module
pub relocation_test : (place section : ℕ) (relocations : List Relocation) → find (λ r. is_there place (relocation_place r section)) relocations ≡ find (λ r. r.section == section && r.offset == place) relocations
relocation_test place section relocations =
    find_alike (λ (r : Relocation). is_there place (relocation_place r section)) (λ (r : Relocation). r.section == section && r.offset == place) (λ r. in_section place r.offset (r.section == section)) relocations

-- the lines of symbols of the code and of the module
lines_same : (place section : ℕ) (xs : List Symbol) → flat_map (λ (y : Symbol). label_line place (string_bytes y.name)) (filter (λ (y : Symbol). stands_at section place (symbol_data y)) xs)
    ≡ flat_map (λ (y : SymbolData). label_line place y.name) (filter (stands_at section place) (symbols_data xs))
lines_same place section [] = refl
lines_same place section (x ∷ xs) = by_test (lines_same place section xs) (stands_at section place (symbol_data x)) where
  own : List Symbol
  own = filter (λ (y : Symbol). stands_at section place (symbol_data y)) xs

  theirs : List SymbolData
  theirs = filter (stands_at section place) (symbols_data xs)

  by_test : flat_map (λ (y : Symbol). label_line place (string_bytes y.name)) own ≡ flat_map (λ (y : SymbolData). label_line place y.name) theirs
      → (b : Bool) → flat_map (λ (y : Symbol). label_line place (string_bytes y.name)) (cond b (x ∷ own) own) ≡ flat_map (λ (y : SymbolData). label_line place y.name) (cond b (symbol_data x ∷ theirs) theirs)
  by_test rest true = ap (λ (t : List ℕ). label_line place (string_bytes x.name) ++ t) rest
  by_test rest false = rest

-- the lines of the symbols that are found are the labels of the module
pub labels_same : (symbols : List Symbol) (index : List IndexEntry) (place section : ℕ) → IsIndexOf (λ y. symbol_place y section) symbols index
    → flat_map (label_by symbols place) (filter (is_at place) index) ≡ flat_map (λ y. label_line place y.name) (filter (stands_at section place) (symbols_data symbols))
labels_same symbols index place section indexed =
    let place_of : Symbol → Option ℕ = λ (y : Symbol). symbol_place y section in
    let found : List IndexEntry = filter (is_at place) index in
    let own : Symbol → Bool = λ (y : Symbol). is_there place (symbol_place y section) in
    let test : Symbol → Bool = λ (y : Symbol). stands_at section place (symbol_data y) in
    sym (flat_map-map (label_in place) (item_of place_of symbols) found)
    ∙ ap (λ (os : List (Option Symbol)). flat_map (label_in place) os) (items_found place_of symbols index indexed place)
    ∙ flat_map-map (label_in place) Some (filter own symbols)
    ∙ ap (λ (ys : List Symbol). flat_map (λ (y : Symbol). label_line place (string_bytes y.name)) ys) (filter_alike own test (λ y. symbol_test place section y) symbols)
    ∙ lines_same place section symbols
