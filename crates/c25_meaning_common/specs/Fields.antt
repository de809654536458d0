-- The fields of words that are filled when modules are linked (SPRU014, direct addressing: the low seven bits of a word
-- and the page of LDPK; SPRU018, linker description, relocation; the ranges are this project's own).
use Rattle.std.specs.Prelude.{ℕ, ◌+◌, ◌*◌, ◌/◌, ◌%◌, ℤ, pos, negsuc, Bool, ◌||◌, not, int_lt}
use Rattle.c25_bits.specs.Cut.{cut}
use Rattle.c25_meaning_common.specs.declared.relocation.RelocationKind.{RelocationKind}
use Rattle.c25_meaning_common.specs.declared.relocation.RelocationKind.TheVariants.{Word16, Low7, Page9}

-- how many values a field can hold
abbrev pub field_values : RelocationKind → ℕ
field_values Word16 = 65536
field_values Low7 = 128
field_values Page9 = 512

-- the number that a field gets from a value: its low sixteen bits, its place in a page of 128 words, or its
-- page
abbrev pub field_number : RelocationKind → ℤ → ℕ
field_number Word16 z = cut z 16
field_number Low7 z = cut z 7
field_number Page9 z = cut z 16 / 128

-- whether a value is from low to high, both included
abbrev pub is_within : ℤ → ℤ → ℤ → Bool
is_within low high z = not (int_lt z low || int_lt high z)

-- whether a value is in a field's range: -32,768 to 65,535 for a whole word, 0 to 65,535 for a part of an
-- address
abbrev pub takes : RelocationKind → ℤ → Bool
takes Word16 z = is_within (negsuc 32767) (pos 65535) z
takes Low7 z = is_within (pos 0) (pos 65535) z
takes Page9 z = is_within (pos 0) (pos 65535) z

-- the number in the field of a word
abbrev pub read_field : RelocationKind → ℕ → ℕ
read_field kind word = word % field_values kind

-- the word with this number in its field and all other bits as they were
abbrev pub filled : RelocationKind → ℕ → ℕ → ℕ
filled kind number word = word / field_values kind * field_values kind + number
