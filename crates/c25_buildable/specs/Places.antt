-- The names of parts with the addresses that they stand for, as the code has them.
use Rattle.std.specs.Prelude.{◌≡◌, ℕ, ◌+◌, ◌-◌, ◌<◌, ◌≤◌, true, List, length, ◌++◌, Option, None, Some, map, string_bytes}
use Rattle.std.specs.Borrow.{Bor}
use Rattle.std.specs.HashMap.{HashMap, get_by}
use Rattle.std.specs.List.{All, AllByRecursion, flat_map}
use Rattle.std.specs.Map.{lookup}
use Rattle.std.specs.Str.{bytes_eq}
use Rattle.c25_buildable.specs.declared.names.NamedPlace.{NamedPlace}
use Rattle.c25_layout.specs.Buildable.{RunsFit}
use Rattle.c25_layout.specs.Flow.{long_word}
use Rattle.c25_layout.specs.Layout.{rows_words}
use Rattle.c25_layout.specs.Layouts.{named, run_address}
use Rattle.c25_layout.specs.Names.{IsLabelName}
use Rattle.c25_layout.specs.declared.layout.Item.{Item}
use Rattle.c25_layout.specs.declared.layout.Item.TheVariants as item
use Rattle.c25_layout.specs.declared.layout.Part.{Part}
use Rattle.c25_layout.specs.declared.layout.Row.{Row}
use Rattle.c25_layout.specs.declared.layout.Target.{Target}
use Rattle.c25_meaning_assembly.specs.Sections.{are_distinct}
use Rattle.c25_meaning_language.specs.Value.{predefined}

-- a name with its address
abbrev pub place_view : NamedPlace → List ℕ × ℕ
place_view p = (string_bytes p.name, p.address)

-- names with their addresses
abbrev pub places_view : List NamedPlace → List (List ℕ × ℕ)
places_view ps = map place_view ps

-- the names of a row of a part: of where it is loaded, and of where it runs
abbrev pub row_names : Part → Row → List (List ℕ × ℕ)
row_names p r = named r.load_label r.address ++ named r.label (run_address p + (r.address - p.address))

-- the names of a part
abbrev pub part_names : Part → List (List ℕ × ℕ)
part_names p = flat_map (row_names p) p.rows.items

-- the names of parts
abbrev pub all_names : List Part → List (List ℕ × ℕ)
all_names parts = flat_map part_names parts

-- what a map from names has for a name
abbrev pub found_in : {V S : Type 0} → HashMap (Bor (List ℕ)) V S → List ℕ → Option V
found_in m name = get_by (λ k. bytes_eq name k.now) m

-- a name may be a label, and is not a register's or a port's
abbrev pub IsOwn : List ℕ × ℕ → Type 0
IsOwn n = IsLabelName n.0 × (predefined n.0 ≡ None)

-- a map has the addresses of names, each of which may be a label, and none of which stands twice
pub record IsTable {S : Type 0} (m : HashMap (Bor (List ℕ)) ℕ S) (ns : List (List ℕ × ℕ)) : Type 0 where
  pub found : (name : List ℕ) → found_in m name ≡ lookup (bytes_eq name) ns
  pub own : AllByRecursion IsOwn ns
  pub apart : are_distinct (map (λ n. n.0) ns) ≡ true

-- the name of a number stands for it, or for so many words before it
pub record Stands (ns : List (List ℕ × ℕ)) (number : ℕ) (t : Target) : Type 0 where
  pub at : ℕ
  pub found : lookup (bytes_eq (string_bytes t.name)) ns ≡ Some at
  pub small : t.after < 65536
  pub number_is : number ≡ at + t.after

-- the name in a row, if there is one, stands for its number
abbrev pub HasTarget : List (List ℕ × ℕ) → Item → Type 0
HasTarget ns (item.Plain i) = Unit {0}
HasTarget ns (item.Named i t) = (number : ℕ) × (long_word i ≡ Some number) × Stands ns number t
HasTarget ns (item.Words ws) = Unit {0}
HasTarget ns (item.Address number t) = Stands ns number t

-- the names in the rows of parts stand for their numbers
abbrev pub HaveTargets : List (List ℕ × ℕ) → List Part → Type 0
HaveTargets ns parts = All (λ p. All (λ r. HasTarget ns r.item) p.rows.items) parts

-- names may be labels, none of them stands twice, and the names in rows stand for their numbers
pub record AreNames (ns : List (List ℕ × ℕ)) (parts : List Part) : Type 0 where
  pub own : AllByRecursion IsOwn ns
  pub apart : are_distinct (map (λ n. n.0) ns) ≡ true
  pub targets : HaveTargets ns parts
  pub runs : RunsFit parts

-- no part has more words than program memory
abbrev pub AreShort : List Part → Type 0
AreShort parts = AllByRecursion (λ p. length (rows_words p.rows.items) ≤ 65536) parts

-- there are no more parts than a module may have sections, and no more names than it may have
abbrev pub AreFew : List Part → Type 0
AreFew parts = (length parts ≤ 254) × (length (all_names parts) ≤ 65535)
