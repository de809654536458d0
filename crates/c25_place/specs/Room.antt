-- Which words of both pages are taken, as the code has it.
use Rattle.std.specs.Prelude.{◌≡◌, ℕ, ◌+◌, ◌-◌, ◌%◌, ◌<◌, ◌≤◌, Bool, true, false, List, length, slice_index_or}
use Rattle.c25_meaning_linking.specs.GoodMap.{is_taken, is_run_at}
use Rattle.c25_meaning_linking.specs.Place.{Place, Covers}
use Rattle.c25_place.specs.declared.room.Room.{Room}
use Rattle.c25_place.specs.declared.runs.RunWords.{RunWords}

-- the words of a page that are marked are those of these places
pub record KnowsTaken (taken : List Bool) (page : ℕ) (places : List Place) : Type 0 where
  pub sized : length taken ≡ 65536
  pub words : (word : ℕ) → word < 65536 → slice_index_or taken word false ≡ is_taken page places word

-- the words of both pages that are marked are those of these places
pub record KnowsRoom (room : Room) (places : List Place) : Type 0 where
  pub program : KnowsTaken room.program.items 0 places
  pub store : KnowsTaken room.store.items 1 places

-- the words that are marked are those at which sections with a run address at these places run
pub record KnowsRuns (runs : RunWords) (places : List Place) : Type 0 where
  pub sized : length runs.taken.items ≡ 65536
  pub words : (word : ℕ) → word < 65536 → slice_index_or runs.taken.items word false ≡ is_run_at places word

-- from a word on so many words are not marked
abbrev pub AreFree : List Bool → ℕ → ℕ → Type 0
AreFree taken base size = (word : ℕ) → Covers base size word → slice_index_or taken word false ≡ false

-- so many words are free from a word on, and its place in a page of 128 words fits
pub record IsOpen (taken fits : List Bool) (base size : ℕ) : Type 0 where
  pub free : AreFree taken base size
  pub paged : slice_index_or fits (base % 128) false ≡ true

-- the least word from which on so many are free and that fits, among those from a start up to an end
pub record IsFirstFree (taken fits : List Bool) (start end size base : ℕ) : Type 0 where
  pub from : start ≤ base
  pub upto : base + size ≤ end
  pub is_open : IsOpen taken fits base size
  pub least : (other : ℕ) → start ≤ other → IsOpen taken fits other size → base ≤ other

-- the longest run of free words that ends before `word`, from `start` on, has `run` words; no `size` free
-- words that fit lie before `word`
pub record IsRunBefore (taken fits : List Bool) (start size word run : ℕ) : Type 0 where
  pub from : start + run ≤ word
  pub free : (other : ℕ) → word ≤ other + run → other < word → slice_index_or taken other false ≡ false
  pub longest : (other : ℕ) → start ≤ other → AreFree taken other (word - other) → word ≤ other + run
  pub none : (other : ℕ) → start ≤ other → IsOpen taken fits other size → word < other + size
