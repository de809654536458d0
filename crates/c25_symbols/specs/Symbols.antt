-- The symbols that modules define, local ones too, by their names (this project's own).
use Rattle.std.specs.Prelude.{ℕ, Bool, List, [], ◌∷◌, map, filter, unwrap_or, codes, if◌then◌else◌}
use Rattle.std.specs.Cmp.Lexicographic.{slice_cmp}
use Rattle.std.specs.List.{slice_get}
use Rattle.std.specs.Ordering.{is_lt, nat_cmp}
use Rattle.c25_bits.specs.Cut.{cut}
use Rattle.c25_meaning_linking.specs.Words.{is_defined, kind_value, section_name}
use Rattle.c25_meaning_objects.specs.Module.{Contents, SymbolData}
use Rattle.c25_meaning_objects.specs.declared.object.SymbolKind.{SymbolKind}
use Rattle.c25_meaning_objects.specs.declared.object.SymbolKind.TheVariants.{Absolute, InSection, Loaded, External}
use Rattle.c25_meaning_linking.specs.Place.{Place, by_modules}

-- a symbol of a program: the low 32 bits of its value, its kind, the name of its section, the name of its
-- module's source, and its own name
pub record Listed : Type 0 where
  pub value : ℕ
  pub kind : SymbolKind
  pub section : List ℕ
  pub source : List ℕ
  pub name : List ℕ

-- the name of the section that a symbol of a module counts from, `-` where it counts from none
abbrev pub section_of : Contents → SymbolKind → List ℕ
section_of m Absolute = codes "-"
section_of m (InSection index) = section_name m index
section_of m (Loaded index) = section_name m index
section_of m External = codes "-"

-- the name of the source of the module of a number, empty where none is given
abbrev pub source_of : List (List ℕ) → ℕ → List ℕ
source_of sources number = unwrap_or (slice_get sources number) []

-- a symbol of the module of a number
abbrev pub listed : List Contents → List (List ℕ) → List Place → ℕ → Contents → SymbolData → Listed
listed modules sources places number m y = record {
  value = cut (kind_value modules places number m y.kind y.value) 32;
  kind = y.kind;
  section = section_of m y.kind;
  source = source_of sources number;
  name = y.name;
}

-- the symbols that the module of a number defines
abbrev pub module_symbols : List Contents → List (List ℕ) → List Place → ℕ → Contents → List Listed
module_symbols modules sources places number m = map (listed modules sources places number m) (filter (λ y. is_defined y.kind) m.symbols)

-- the symbols that all modules define, by modules and symbols
abbrev pub all_symbols : List Contents → List (List ℕ) → List Place → List Listed
all_symbols modules sources places = by_modules (module_symbols modules sources places) 0 modules

-- ---- the order of symbols

-- an item put into a list, after the items that have to be before it
abbrev pub inserted : {A : Type 0} → (A → A → Bool) → A → List A → List A
inserted before x [] = x ∷ []
inserted before x (y ∷ ys) = if before y x then y ∷ inserted before x ys else x ∷ (y ∷ ys)

-- items in an order; those of which neither has to be before the other stay as they stood
abbrev pub in_order : {A : Type 0} → (A → A → Bool) → List A → List A
in_order before [] = []
in_order before (x ∷ xs) = inserted before x (in_order before xs)

-- the name of one symbol is less than that of another, byte by byte
abbrev pub is_before : Listed → Listed → Bool
is_before y z = is_lt (slice_cmp nat_cmp y.name z.name)

-- the symbols that modules define by their names, those of one name by modules and symbols
abbrev pub symbols_by_name : List Contents → List (List ℕ) → List Place → List Listed
symbols_by_name modules sources places = in_order is_before (all_symbols modules sources places)
