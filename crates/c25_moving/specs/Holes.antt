-- The holes with which no block of `.bss` crosses a page of data memory.
use Rattle.std.specs.Prelude.{ℕ, ◌+◌, ◌-◌, ◌%◌, nat_le, if◌then◌else◌, List, [], ◌∷◌}
use Rattle.c25_moving.specs.declared.blocks.BlockAt.{BlockAt}

-- the words of the hole before a block at this place: what is left of its page, where the block has more words
abbrev pub hole_at : (place size : ℕ) → ℕ
hole_at place size = if nat_le size (128 - place % 128) then 0 else 128 - place % 128

-- where a block begins in its page, with so many words in holes before it
abbrev pub moved_on : (place filled : ℕ) → ℕ
moved_on place filled = (place % 128 + filled % 128) % 128

-- the words of the holes before blocks, with so many words in holes before the first
unfoldable pub holes : (filled : ℕ) → List BlockAt → List ℕ
holes filled [] = []
holes filled (b ∷ bs) = hole_at (moved_on b.place filled) b.size ∷ holes (moved_on (hole_at (moved_on b.place filled) b.size) filled) bs
