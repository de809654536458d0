-- The first block of a section that crosses a page of 128 words wherever the section may stand (SPRU018, assembler
-- description, the blocking flag of .bss).
use Rattle.std.specs.Prelude.{◌≡◌, ◌<◌, ◌≤◌, ◌⊎◌, ℕ, ◌+◌, ◌&&◌, Bool, true, Contains, List, [], ◌∷◌, ◌++◌, map, nat_le, Option, Some, None, MatchOption}
use Rattle.std.specs.List.{list_any}
use Rattle.c25_link_faults.specs.Overlaps.{SpanData}
use Rattle.c25_link_faults.specs.Unfits.{UnfitData}
use Rattle.c25_meaning_linking.specs.GoodMap.{IsFree, blocks_fit, is_paged}
use Rattle.c25_meaning_linking.specs.Place.{BlockData, Place, blocks_of}
use Rattle.c25_meaning_objects.specs.Module.{Contents}
use Rattle.c25_rooms.specs.declared.blocks.SectionBlock.{SectionBlock}
use Rattle.c25_rooms.specs.declared.crossing.Crossing.{Crossing}

-- ---- where a section may stand

-- a section of so many words would stand at this address if it had no blocks: it lies in one of these ranges, and no
-- section that was placed before has a word of it
pub record HasRoom (places : List Place) (ranges : List SpanData) (size base : ℕ) : Type 0 where
  pub range : SpanData
  pub among : Contains ranges range
  pub from : range.first ≤ base
  pub upto : base + size ≤ range.last + 1
  pub free : IsFree range.page base size places

-- whether the words of a section that has an address lie in a range
abbrev pub lies_in : SpanData → SpanData → Bool
lies_in s range = nat_le range.first s.first && nat_le s.last range.last

-- a section may begin at this address for all but its blocks: where SECTIONS gives its words, at the first of them, if
-- they lie in one of these ranges; else where there is room
abbrev pub MayBegin : List Place → (ranges : List SpanData) → Option SpanData → (size base : ℕ) → Type 0
MayBegin places ranges None size base = HasRoom places ranges size base
MayBegin places ranges (Some s) size base = (base ≡ s.first) × (list_any (lies_in s) ranges ≡ true)

-- ---- blocks there

-- a section may begin at this address, and none of these blocks crosses a page then
pub record LieInPages (May : ℕ → Type 0) (blocks : List BlockData) (base : ℕ) : Type 0 where
  pub may : May base
  pub paged : blocks_fit base blocks ≡ true

-- a block with so many words more before it
abbrev pub moved : ℕ → BlockData → BlockData
moved words b = record { offset = b.offset + words; size = b.size }

-- so many words more before a block help: then it crosses no page at an address where the section may begin and the
-- blocks before it cross none either
pub record Helps (May : ℕ → Type 0) (before : List BlockData) (b : BlockData) (words : ℕ) : Type 0 where
  pub base : ℕ
  pub before_lie : LieInPages May before base
  pub lies : is_paged base (moved words b) ≡ true

-- these are the fewest words that help
pub record HelpsLeast (May : ℕ → Type 0) (before : List BlockData) (b : BlockData) (words : ℕ) : Type 0 where
  pub helps : Helps May before b words
  pub least : (other : ℕ) → Helps May before b other → words ≤ other

-- a block, and how many words more before it would help, if there is such a number
pub record CrossingData : Type 0 where
  pub block : BlockData
  pub hole : Option ℕ

-- this is the first of the blocks of a section that crosses a page wherever those before it do not
pub record IsCrossing (May : ℕ → Type 0) (blocks : List BlockData) (c : CrossingData) : Type 0 where
  pub before : List BlockData
  pub after : List BlockData
  pub blocks_are : blocks ≡ before ++ c.block ∷ after
  pub base : ℕ
  pub before_lie : LieInPages May before base
  pub crosses : (other : ℕ) → ¬ LieInPages May (before ++ c.block ∷ []) other
  pub hole_is : MatchOption c.hole ((words : ℕ) → ¬ Helps May before c.block words) (HelpsLeast May before c.block)

-- there is no address where the section may begin, or one where none of these blocks crosses a page
abbrev pub NoneCrosses : (May : ℕ → Type 0) → List BlockData → Type 0
NoneCrosses May blocks = ((base : ℕ) → ¬ May base) ⊎ ((base : ℕ) × LieInPages May blocks base)

-- the first of these blocks that crosses a page wherever the section may begin, if one does
abbrev pub IsCrossingOrNone : (May : ℕ → Type 0) → List BlockData → Option CrossingData → Type 0
IsCrossingOrNone May blocks found = MatchOption found (NoneCrosses May blocks) (IsCrossing May blocks)

-- the same of a section of so many words; none is looked for where it has no words, or a page has no room for them
abbrev pub IsCrossingBy : (size : Option ℕ) → List Place → (ranges : List SpanData) → Option SpanData → List BlockData → Option CrossingData → Type 0
IsCrossingBy None places ranges span blocks found = found ≡ None
IsCrossingBy (Some size) places ranges span blocks found = (size ≡ 0 → found ≡ None) × (0 < size → IsCrossingOrNone (MayBegin places ranges span size) blocks found)

-- the same of the section of a name of modules that does not fit among sections at these places
abbrev pub IsCrossingOf : List Contents → List Place → (name : List ℕ) → UnfitData → Option CrossingData → Type 0
IsCrossingOf modules places name u found = IsCrossingBy u.size places u.ranges u.span (blocks_of name modules) found

-- ---- how the code has it

-- a block, as clauses see it
abbrev pub block_data : SectionBlock → BlockData
block_data b = record { offset = b.offset; size = b.size }

-- blocks, as clauses see them
abbrev pub blocks_data : List SectionBlock → List BlockData
blocks_data blocks = map block_data blocks

-- a block that crosses a page, as clauses see it
abbrev pub crossing_data : Crossing → CrossingData
crossing_data c = record { block = block_data c.block; hole = c.hole }
