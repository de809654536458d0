-- The words of a part of a page, measured one after the other.
use Rattle.std.specs.Prelude.{◌≡◌, ◌<◌, ◌≤◌, ◌+◌, ◌-◌, ℕ, false, List}
use Rattle.c25_meaning_linking.specs.GoodMap.{IsFree, is_taken}
use Rattle.c25_meaning_linking.specs.Place.{Place}
use Rattle.c25_rooms.specs.Holes.{IsHoleIn, free_words}
use Rattle.c25_rooms.specs.declared.measure.Measure.{Measure}

-- the words of a page from `start` up to `word`: how many are free; the longest run of free words that ends before
-- `word`; the largest hole
pub record IsMeasured (page : ℕ) (places : List Place) (start word : ℕ) (m : Measure) : Type 0 where
  pub free_is : m.free ≡ free_words page places start (word - start)
  pub run_from : start + m.run ≤ word
  pub run_free : (other : ℕ) → word ≤ other + m.run → other < word → is_taken page places other ≡ false
  pub run_longest : (other : ℕ) → start ≤ other → IsFree page other (word - other) places → word ≤ other + m.run
  pub hole : IsHoleIn page places start word m.largest
  pub largest : (size : ℕ) → IsHoleIn page places start word size → size ≤ m.largest
