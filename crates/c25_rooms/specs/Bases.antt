-- The places in a page of 128 words where a section may begin, as the code has them.
use Rattle.std.specs.Prelude.{◌≡◌, ◌<◌, ◌≤◌, ◌⊎◌, ℕ, ◌+◌, ◌%◌, Bool, true, false, if◌then◌else◌, List, [], ◌∷◌, filter, slice_index_or, Option, MatchOption}
use Rattle.std.specs.List.{list_any, range_with_len}
use Rattle.c25_link_faults.specs.Overlaps.{SpanData}
use Rattle.c25_meaning_linking.specs.GoodMap.{IsFree, is_paged}
use Rattle.c25_meaning_linking.specs.Place.{BlockData, Place}
use Rattle.c25_rooms.specs.Crossings.{HasRoom, lies_in, moved}

-- a section of so many words stands on free words from `start` up to `word`, and begins at this place in a page
pub record IsOpenAt (page : ℕ) (places : List Place) (start word size place : ℕ) : Type 0 where
  pub base : ℕ
  pub from : start ≤ base
  pub upto : base + size ≤ word
  pub free : IsFree page base size places
  pub place_is : base % 128 ≡ place

-- the places that are marked are those that were before, and those where a section of so many words may stand from
-- `start` up to `word`
pub record AreOpened (page : ℕ) (places : List Place) (start word size : ℕ) (before marks : List Bool) : Type 0 where
  pub kept : (place : ℕ) → slice_index_or before place false ≡ true → slice_index_or marks place false ≡ true
  pub opened : (place : ℕ) → IsOpenAt page places start word size place → slice_index_or marks place false ≡ true
  pub only : (place : ℕ) → slice_index_or marks place false ≡ true → (slice_index_or before place false ≡ true) ⊎ IsOpenAt page places start word size place

-- a section of so many words has room in one of these ranges, and begins at this place in a page
pub record HasRoomAt (places : List Place) (ranges : List SpanData) (size place : ℕ) : Type 0 where
  pub base : ℕ
  pub room : HasRoom places ranges size base
  pub place_is : base % 128 ≡ place

-- the places that are marked are those where a section of so many words has room
pub record AreRoomy (places : List Place) (ranges : List SpanData) (size : ℕ) (marks : List Bool) : Type 0 where
  pub roomy : (place : ℕ) → HasRoomAt places ranges size place → slice_index_or marks place false ≡ true
  pub only : (place : ℕ) → slice_index_or marks place false ≡ true → HasRoomAt places ranges size place

-- the places that are marked
unfoldable pub marked_places : List Bool → List ℕ
marked_places marks = filter (λ place. slice_index_or marks place false) (range_with_len 0 128)

-- an address where a section may begin, at the same place in a page as another address
pub record MayBeginLike (May : ℕ → Type 0) (place : ℕ) : Type 0 where
  pub base : ℕ
  pub may : May base
  pub alike : base % 128 ≡ place % 128

-- an address that passes a test, and one like it where a section may begin
pub record PassesLike (May : ℕ → Type 0) (test : ℕ → Bool) : Type 0 where
  pub place : ℕ
  pub passes : test place ≡ true
  pub like : MayBeginLike May place

-- these addresses stand for all where a section may begin, by their places in a page
pub record AreTried (May : ℕ → Type 0) (bases : List ℕ) : Type 0 where
  pub found : (test : ℕ → Bool) → list_any test bases ≡ true → PassesLike May test
  pub tried : (test : ℕ → Bool) (base : ℕ) → May base → ((place : ℕ) → place % 128 ≡ base % 128 → test place ≡ true) → list_any test bases ≡ true

-- whether so many words more before a block help at one of some addresses
abbrev pub help_at : List ℕ → BlockData → ℕ → Bool
help_at bases b words = list_any (λ base. is_paged base (moved words b)) bases

-- so many words help, and no fewer
pub record HelpFirst (bases : List ℕ) (b : BlockData) (words : ℕ) : Type 0 where
  pub helps : help_at bases b words ≡ true
  pub none_less : (other : ℕ) → other < words → help_at bases b other ≡ false

-- the fewest words below 128 that help, if some do
abbrev pub IsFewest : List ℕ → BlockData → Option ℕ → Type 0
IsFewest bases b hole = MatchOption hole ((words : ℕ) → words < 128 → help_at bases b words ≡ false) (HelpFirst bases b)

-- the address of a section, if its words lie in one of these ranges
abbrev pub bases_at : SpanData → List SpanData → List ℕ
bases_at s ranges = if list_any (lies_in s) ranges then s.first ∷ [] else []
