-- What is shown of a section that does not fit, in whole lines.
use Rattle.std.specs.Prelude.{ℕ, ◌+◌, ◌-◌, ◌==◌, List, [], ◌++◌, Option, Some, None, codes, if◌then◌else◌}
use Rattle.std.specs.Fmt.{decimal}
use Rattle.std.specs.Str.{bytes_eq}
use Rattle.c25_explain.specs.Details.{words_text}
use Rattle.c25_link_faults.specs.Overlaps.{SpanData}
use Rattle.c25_link_faults.specs.Unfits.{UnfitData}
use Rattle.c25_meaning_linking.specs.Place.{BlockData}
use Rattle.c25_rooms.specs.Crossings.{CrossingData}
use Rattle.c25_rooms.specs.Holes.{RoomData}

-- a number of words
unfoldable pub count_text : ℕ → List ℕ
count_text n = decimal n ++ (if n == 1 then codes " word" else codes " words")

-- a name, the first and the last word, the page, and the number of words
abbrev pub room_text : SpanData → List ℕ
room_text s = s.name ++ words_text s ++ codes " of page " ++ decimal s.page ++ codes ", " ++ count_text (s.last + 1 - s.first)

-- a name and its number of words; none where a page has no room for so many
abbrev pub size_text : List ℕ → Option ℕ → List ℕ
size_text name (Some n) = name ++ codes ": " ++ count_text n
size_text name None = name ++ codes ": more than 65536 words"

-- a section: its words where it has an address, and else how many it has
abbrev pub section_text : List ℕ → UnfitData → List ℕ
section_text name u = elim u.span [ None ↦ size_text name u.size | Some s ↦ room_text s ]

-- how many words of a range are free
unfoldable pub free_text : ℕ → List ℕ
free_text n = codes ", " ++ decimal n ++ codes " free"

-- how many words its largest hole has
unfoldable pub largest_text : ℕ → List ℕ
largest_text n = codes ", largest hole " ++ decimal n

-- a range with its free words
abbrev pub free_room_text : RoomData → List ℕ
free_room_text r = room_text r.span ++ free_text r.free ++ largest_text r.largest

-- the size of a block
unfoldable pub block_text : ℕ → List ℕ
block_text n = codes ": its block of " ++ decimal n ++ codes " words"

-- how many words of the section stand before it
unfoldable pub offset_text : ℕ → List ℕ
offset_text n = codes " at offset " ++ decimal n

-- where it crosses a page: at the address that the section has, or wherever it may stand
unfoldable pub crosses_text : Option SpanData → List ℕ
crosses_text None = codes " crosses a page of 128 words wherever the section may stand"
crosses_text (Some s) = codes " crosses a page of 128 words at that address"

-- a block that crosses a page
abbrev pub crossing_text : (name : List ℕ) → Option SpanData → BlockData → List ℕ
crossing_text name span b = name ++ block_text b.size ++ offset_text b.offset ++ crosses_text span

-- the beginning of a line that reserves words by `.usect`
unfoldable pub usect_text : (name : List ℕ) → List ℕ
usect_text name = codes "HOLE .usect \"" ++ name ++ codes "\""

-- the beginning of a line that reserves words in a section
unfoldable pub reserve_text : (name : List ℕ) → List ℕ
reserve_text name = if bytes_eq name (codes ".bss") then codes ".bss HOLE" else usect_text name

-- how many words it reserves, and what that does
unfoldable pub help_text : ℕ → List ℕ
help_text n = codes "," ++ decimal n ++ codes " before that block would keep it inside one page"

-- what helps a block that crosses a page
abbrev pub hole_text : (name : List ℕ) → ℕ → List ℕ
hole_text name n = reserve_text name ++ help_text n
