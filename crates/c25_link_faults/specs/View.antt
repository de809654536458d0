-- How this crate's types stand for the definitions' data.
use Rattle.std.specs.Prelude.{◌≡◌, ℕ, ◌&&◌, Bool, List, ◌++◌, filter, map}
use Rattle.std.specs.Borrow.{Bor}
use Rattle.c25_meaning_common.specs.declared.placed.Placed.{Placed}
use Rattle.c25_meaning_linking.specs.Command.{PlacingData, RangeData}
use Rattle.c25_meaning_linking.specs.GoodMap.{listed_request, new_names, unlisted_request}
use Rattle.c25_meaning_linking.specs.Words as words
use Rattle.c25_meaning_linking.specs.declared.link_fault.LinkFault.{LinkFault}
use Rattle.c25_meaning_objects.specs.Module.{Contents, SectionData, has_words}
use Rattle.c25_module.specs.View.{contents, symbol_data}
use Rattle.c25_place.specs.Requests.{HasNames, is_due}
use Rattle.c25_link_faults.specs.Faults.{lacks_range}
use Rattle.c25_link_faults.specs.declared.all.NameFault.{NameFault}
use Rattle.c25_link_faults.specs.declared.definitions.Definition.{Definition}
use Rattle.c25_link_faults.specs.declared.names.FirstNames.{FirstNames}
use Rattle.c25_link_faults.specs.declared.ranges.Range.{Range}

-- borrowed names
abbrev pub names_view : List (Bor (List ℕ)) → List (List ℕ)
names_view names = map (λ name. name.now) names

-- a definition
abbrev pub definition_view : Definition → words.Definition
definition_view d = record { number = d.number; owner = contents d.owner.now; symbol = symbol_data d.symbol.now }

-- definitions
abbrev pub definitions_view : List Definition → List words.Definition
definitions_view ds = map definition_view ds

-- the names of definitions
abbrev pub names_of : List words.Definition → List (List ℕ)
names_of ds = map (λ d. d.symbol.name) ds

-- a range, as the definitions have it
abbrev pub range_view : Range → RangeData
range_view r = record { page = r.page; name = r.name.now; origin = r.origin; size = r.size }

-- ranges, as the definitions have them
abbrev pub ranges_view : List Range → List RangeData
ranges_view ranges = map range_view ranges

-- the names of sections
abbrev pub section_names : List SectionData → List (List ℕ)
section_names sections = map (λ s. s.name) sections

-- the names of the initialised ones of sections
abbrev pub loaded_names : List SectionData → List (List ℕ)
loaded_names sections = section_names (filter (λ s. has_words s.body) sections)

-- the names of the sections that a command lists
abbrev pub placing_names : List PlacingData → List (List ℕ)
placing_names placings = map (λ p. p.name) placings

-- the sections among those listed that have no range: those with an address, or those without
abbrev pub lacking_listed : Bool → List Contents → List RangeData → List PlacingData → List (List ℕ)
lacking_listed with_address modules ranges placings =
    placing_names (filter (λ p. is_due with_address modules p && lacks_range ranges (listed_request modules p)) placings)

-- the sections among those not listed that have no range
abbrev pub lacking_unlisted : List Contents → List RangeData → List (List ℕ) → List (List ℕ)
lacking_unlisted modules ranges names = filter (λ name. lacks_range ranges (unlisted_request modules name)) names

-- after the names `before`, which are not listed, these names were added: the list has each that is new once
pub record HasFirst (names : FirstNames) (before added : List (List ℕ)) : Type 0 where
  pub seen : HasNames (names_view names.seen.keys) (before ++ added)
  pub list : names_view names.list.items ≡ new_names before added

-- a fault at a name
abbrev pub fault_view : NameFault → Placed (List ℕ) LinkFault
fault_view f = record { place = f.name.now; fault = f.fault }

-- faults at names
abbrev pub faults_view : List NameFault → List (Placed (List ℕ) LinkFault)
faults_view faults = map fault_view faults
