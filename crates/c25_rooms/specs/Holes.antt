-- The free words of a range, and the largest hole there: a run of words that no section has.
use Rattle.std.specs.Prelude.{◌≡◌, ◌<◌, ◌≤◌, ℕ, zero, suc, ◌+◌, ◌-◌, List, All, map, if◌then◌else◌}
use Rattle.c25_link_faults.specs.Overlaps.{SpanData, span_data}
use Rattle.c25_meaning_linking.specs.GoodMap.{IsFree, is_taken}
use Rattle.c25_meaning_linking.specs.Place.{Place}
use Rattle.c25_rooms.specs.declared.rooms.Room.{Room}

-- how many of the words of a page from `first` on, `count` of them, no section has
unfoldable pub free_words : (page : ℕ) → List Place → (first count : ℕ) → ℕ
free_words page places first zero = 0
free_words page places first (suc n) = free_words page places first n + (if is_taken page places (first + n) then 0 else 1)

-- so many words of a page, one after the other, are at `first` or after it, before `end`, and free
pub record IsHoleIn (page : ℕ) (places : List Place) (first end size : ℕ) : Type 0 where
  pub begin : ℕ
  pub from : first ≤ begin
  pub upto : begin + size ≤ end
  pub free : IsFree page begin size places

-- a hole of so many words in a range
abbrev pub IsHole : List Place → SpanData → ℕ → Type 0
IsHole places span size = IsHoleIn span.page places span.first (span.last + 1) size

-- the largest hole of a range has so many words; 0 where no word is free
pub record IsLargestHole (places : List Place) (span : SpanData) (size : ℕ) : Type 0 where
  pub is_there : 0 < size → IsHole places span size
  pub largest : (other : ℕ) → IsHole places span other → other ≤ size

-- a range, how many of its words are free, and how many words its largest hole has
pub record RoomData : Type 0 where
  pub span : SpanData
  pub free : ℕ
  pub largest : ℕ

-- so it is among sections at these places
pub record IsRoom (places : List Place) (room : RoomData) : Type 0 where
  pub free_is : room.free ≡ free_words room.span.page places room.span.first (room.span.last + 1 - room.span.first)
  pub largest_is : IsLargestHole places room.span room.largest

-- so it is of each of these ranges, in their order
pub record AreRooms (places : List Place) (spans : List SpanData) (rooms : List RoomData) : Type 0 where
  pub spans_are : map (λ r. r.span) rooms ≡ spans
  pub each : All (IsRoom places) rooms

-- ---- how the code has it

-- a range with its free words, as clauses see it
abbrev pub room_data : Room → RoomData
room_data r = record { span = span_data r.span; free = r.free; largest = r.largest }
