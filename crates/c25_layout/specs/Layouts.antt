-- When parts are a layout.
use Rattle.std.specs.Prelude.{◌≡◌, ℕ, ◌+◌, ◌<◌, List, [], ◌∷◌, ◌++◌, length, Option, None, Some, IfSome, String, string_bytes, unwrap_or}
use Rattle.std.specs.List.{All, flat_map}
use Rattle.std.specs.Map.{lookup}
use Rattle.std.specs.Str.{bytes_eq}
use Rattle.std.specs.declared.alloc.Global.{Global}
use Rattle.c25_layout.specs.Layout.{Follow, item_words}
use Rattle.c25_layout.specs.Names.{IsLabelName, IsRowItem}
use Rattle.c25_layout.specs.declared.layout.Part.{Part}
use Rattle.c25_layout.specs.declared.layout.Row.{Row}

-- ---- names

-- a name with the address that it stands for, if there is a name
abbrev pub named : Option (String Global) → ℕ → List (List ℕ × ℕ)
named None address = []
named (Some name) address = (string_bytes name, address) ∷ []

-- the names of rows that are loaded from one address on and run from another on: the name of where a row is loaded stands for the first,
-- its label for the second
abbrev pub names_from : (load run : ℕ) → List Row → List (List ℕ × ℕ)
names_from load run [] = []
names_from load run (r ∷ rows) =
    named r.load_label load ++ (named r.label run ++ names_from (load + length (item_words r.item)) (run + length (item_words r.item)) rows)

-- where a part runs
abbrev pub run_address : Part → ℕ
run_address p = unwrap_or p.run p.address

-- the names of parts, in the order of their rows
abbrev pub names_of : List Part → List (List ℕ × ℕ)
names_of parts = flat_map (λ p. names_from p.address (run_address p) p.rows.items) parts

-- the address that a name stands for: the first one of this name counts
abbrev pub address_of : List Part → List ℕ → Option ℕ
address_of parts name = lookup (bytes_eq name) (names_of parts)

-- ---- layouts

-- a label, if there is one, is a name
abbrev pub IsLabel : Option (String Global) → Type 0
IsLabel None = Unit {0}
IsLabel (Some name) = IsLabelName (string_bytes name)

-- a row has words, and what its line says can be said; `value` has the addresses that names stand for
pub record IsRow (value : List ℕ → Option ℕ) (r : Row) : Type 0 where
  pub item : IsRowItem value r.item
  pub some : 0 < length (item_words r.item)
  pub label : IsLabel r.label
  pub load_label : IsLabel r.load_label

-- parts are a layout: they follow one another, addresses where they run have 16 bits, and their rows can be said
pub record IsLayout (parts : List Part) : Type 0 where
  pub follow : Follow 0 parts
  pub runs : All (λ p. IfSome p.run (λ run. run < 65536)) parts
  pub rows : All (λ p. All (IsRow (address_of parts)) p.rows.items) parts
