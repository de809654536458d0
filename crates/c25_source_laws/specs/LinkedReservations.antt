-- The words that the sources of a program reserve, where linking placed them (SPRU018, `.bss`, `.usect`, and
-- linker description, the SECTIONS directive).
use Rattle.std.specs.Prelude.{◌≡◌, ℕ, ◌+◌, List, Some, take}
use Rattle.std.specs.List.{slice_get}
use Rattle.c25_meaning_expansion.specs.Files.{Files}
use Rattle.c25_meaning_linking.specs.Place.{Covers, Place, page_of, part_base}
use Rattle.c25_meaning_objects.specs.Module.{Contents}
use Rattle.c25_source_laws.specs.Reservations.{Reservation, reservations_in, reserved_words}

-- the reservation at this position of the source of this number; both are counted from 0
pub record HasReservation (files : Files) (names : List (List ℕ)) (source position : ℕ) : Type 0 where
  pub name : List ℕ
  pub one : Reservation
  pub name_is : slice_get names source ≡ Some name
  pub one_is : slice_get (reservations_in files name) position ≡ Some one

-- the address of the first word of a reservation: its section's part of the source's module, after the words
-- of the reservations before it in that section
abbrev pub first_address : (files : Files) (names : List (List ℕ)) → List Contents → List Place → (source position : ℕ) → HasReservation files names source position → ℕ
first_address files names modules places source position r =
    part_base modules places source r.one.section + reserved_words r.one.section (take position (reservations_in files r.name))

-- an address of a page is one of the words of a reservation
pub record IsReservedAt (files : Files) (names : List (List ℕ)) (modules : List Contents) (places : List Place) (source position : ℕ) (r : HasReservation files names source position) (page address : ℕ) : Type 0 where
  pub page_is : page ≡ page_of r.one.section places
  pub covers : Covers (first_address files names modules places source position r) r.one.count address
