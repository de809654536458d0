-- What it means that a text is not read as a map.
use Rattle.std.specs.Prelude.{ℕ, List}
use Rattle.c25_meaning_linking.specs.MapText.{MapData, IsMapOf}
use Rattle.c25_meaning_common.specs.declared.failure.Failure.{Failure}
use Rattle.c25_meaning_common.specs.declared.failure.Failure.TheVariants.{NoMemory, Fault}
use Rattle.c25_map.specs.declared.map_fault.MapFault.{MapFault}

-- the text is not that of a map
abbrev pub IsNoMap : List ℕ → Type 0
IsNoMap text = (m : MapData) → ¬ (IsMapOf text m)

-- the text is not that of a map, unless memory ran out
abbrev pub IsRefused : List ℕ → Failure MapFault → Type 0
IsRefused text (NoMemory n) = Unit {0}
IsRefused text (Fault f) = IsNoMap text
