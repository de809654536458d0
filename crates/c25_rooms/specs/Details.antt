-- What to know of a section that does not fit.
use Rattle.std.specs.Prelude.{◌≡◌, ℕ, List, Option, Some, map}
use Rattle.std.specs.Option.{option_map}
use Rattle.c25_link_faults.specs.Unfits.{UnfitData, unfit_data, unfit_of}
use Rattle.c25_meaning_linking.specs.Command.{CommandData}
use Rattle.c25_meaning_linking.specs.GoodMap.{placings_for, ranges_for, requests}
use Rattle.c25_meaning_linking.specs.Place.{Place}
use Rattle.c25_meaning_linking.specs.declared.link_fault.LinkFault.TheVariants.{DoesNotFit}
use Rattle.c25_meaning_objects.specs.Module.{Contents}
use Rattle.c25_place.specs.Placement.{ArePlacedUpTo}
use Rattle.c25_rooms.specs.Crossings.{CrossingData, IsCrossingOf, crossing_data}
use Rattle.c25_rooms.specs.Holes.{AreRooms, RoomData, room_data}
use Rattle.c25_rooms.specs.declared.details.Details.{Details}

-- a section that does not fit, with its words and the ranges that it may be placed in; what is free in each of these;
-- and the first of its blocks that crosses a page wherever the section may stand, if one does
pub record DetailsData : Type 0 where
  pub unfit : UnfitData
  pub rooms : List RoomData
  pub crossing : Option CrossingData

-- so it is of the section of a name of modules under a command, among sections at these places
pub record AreDetailsAt (modules : List Contents) (command : CommandData) (places : List Place) (name : List ℕ) (d : DetailsData) : Type 0 where
  pub unfit_is : d.unfit ≡ unfit_of modules command name
  pub rooms_are : AreRooms places d.unfit.ranges d.rooms
  pub crossing_is : IsCrossingOf modules places name d.unfit d.crossing

-- these are the places of the sections before one of this name, which is the first that cannot be placed, since it does
-- not fit
abbrev pub ArePlacedBefore : List Contents → CommandData → List Place → (name : List ℕ) → Type 0
ArePlacedBefore modules command places name =
    ArePlacedUpTo (ranges_for command) (requests modules (placings_for command)) places (Some (record { place = name; fault = DoesNotFit }))

-- so it is of the section of a name, which is the first that cannot be placed, since it does not fit
abbrev pub AreDetails : List Contents → CommandData → (name : List ℕ) → DetailsData → Type 0
AreDetails modules command name d = (places : List Place) × ArePlacedBefore modules command places name × AreDetailsAt modules command places name d

-- ---- how the code has it

-- what to know of a section, as clauses see it
abbrev pub details_data : Details → DetailsData
details_data d = record { unfit = unfit_data d.unfit; rooms = map room_data d.rooms.items; crossing = option_map crossing_data d.crossing }
