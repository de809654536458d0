-- Sections placed one after the other, as the code places them.
use Rattle.std.specs.Prelude.{◌≡◌, ℕ, ◌+◌, ◌<◌, ◌≤◌, List, [], ◌∷◌, ◌++◌, IfSome, Option, Some, None, Result, Ok, Err, String}
use Rattle.std.specs.Option.{option_map}
use Rattle.std.specs.declared.alloc.Global.{Global}
use Rattle.std.specs.declared.vec.Vec.{Vec}
use Rattle.c25_meaning_linking.specs.Command.{RangeData}
use Rattle.c25_meaning_linking.specs.GoodMap.{Request, Stands, ArePlaced, IsUnplaced, IsBaseOf, IsUnfit, Runs}
use Rattle.c25_meaning_linking.specs.Place as place
use Rattle.c25_meaning_common.specs.declared.failure.Failure.{Failure}
use Rattle.c25_meaning_common.specs.declared.failure.Failure.TheVariants.{NoMemory, Fault}
use Rattle.c25_meaning_common.specs.declared.placed.Placed.{Placed}
use Rattle.c25_meaning_linking.specs.declared.link_fault.LinkFault.{LinkFault}
use Rattle.c25_place.specs.View.{refusal_of, places_view}
use Rattle.c25_place.specs.declared.placement.Place.{Place}
use Rattle.c25_place.specs.declared.placement.Placement.{Placement}

-- a place begins and ends within its page, which is 0 or 1
pub record IsWithin (p : Place) : Type 0 where
  pub page : p.page ≤ 1
  pub base : p.base < 65536
  pub end : p.base + p.size ≤ 65536
  pub run : IfSome p.run (λ run. run < 65536)

-- so many words from an address on are within a page
pub record AreWords (size base : ℕ) : Type 0 where
  pub first : base < 65536
  pub last : base + size ≤ 65536

-- where a section stands, and it may run where the command says; or why it cannot be placed
abbrev pub IsFitOrNot : List RangeData → List place.Place → Request → Result ℕ LinkFault → Type 0
IsFitOrNot ranges before r (Ok base) = IsBaseOf ranges before r (Ok base) × Runs ranges before r
IsFitOrNot ranges before r (Err fault) = IsUnfit ranges before r fault

-- one place more, after those before it
pub record IsPlacedNext (ranges : List RangeData) (before after : List place.Place) (r : Request) : Type 0 where
  pub place : place.Place
  pub stands : Stands ranges before r place
  pub after_is : after ≡ before ++ place ∷ []

-- why a section cannot be placed
pub record IsRefused (ranges : List RangeData) (before : List place.Place) (r : Request) (refusal : Placed (List ℕ) LinkFault) : Type 0 where
  pub fault_is : IsUnfit ranges before r refusal.fault
  pub name_is : refusal.place ≡ r.name

-- a section is placed after those before it, or refused
abbrev pub IsPlacedOrRefused : List RangeData → List place.Place → List place.Place → Request → Result (Unit {0}) (Failure (Placed (String Global) LinkFault)) → Type 0
IsPlacedOrRefused ranges before after r (Ok done) = IsPlacedNext ranges before after r
IsPlacedOrRefused ranges before after r (Err (NoMemory n)) = Unit {0}
IsPlacedOrRefused ranges before after r (Err (Fault f)) = IsRefused ranges before r (refusal_of f)

-- the first section that cannot be placed comes after those at these places, and why it cannot be placed
pub record IsRefusedAfter (ranges : List RangeData) (requests : List Request) (places : List place.Place) (refusal : Placed (List ℕ) LinkFault) : Type 0 where
  pub before : List Request
  pub refused : Request
  pub after : List Request
  pub requests_are : requests ≡ before ++ refused ∷ after
  pub placed : ArePlaced ranges before places
  pub is_refused : IsRefused ranges places refused refusal

-- these are the places of all sections, or of those before the first that cannot be placed
abbrev pub ArePlacedUpTo : List RangeData → List Request → List place.Place → Option (Placed (List ℕ) LinkFault) → Type 0
ArePlacedUpTo ranges requests places None = ArePlaced ranges requests places
ArePlacedUpTo ranges requests places (Some refusal) = IsRefusedAfter ranges requests places refusal

-- sections are placed up to the first that cannot be, with the fault of that one
abbrev pub IsPlacement : List RangeData → List Request → Placement → Type 0
IsPlacement ranges requests p = ArePlacedUpTo ranges requests (places_view p.places.items) (option_map refusal_of p.refusal)

-- all sections are placed, or the fault is that of the first that cannot be
abbrev pub ArePlacedOrRefused : List RangeData → List Request → Result (Vec Place Global) (Failure (Placed (String Global) LinkFault)) → Type 0
ArePlacedOrRefused ranges requests (Ok places) = ArePlaced ranges requests (places_view places.items)
ArePlacedOrRefused ranges requests (Err (NoMemory n)) = Unit {0}
ArePlacedOrRefused ranges requests (Err (Fault f)) = IsUnplaced ranges requests (refusal_of f)
