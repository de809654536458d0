-- The hex text that is written for a set of words (Intel Hexadecimal Object File Format Specification, revision A: data, end of
-- file and extended linear address records). A byte's address is twice its word's, and the high byte of a word comes first.
use Rattle.std.specs.Prelude.{ℕ, ◌+◌, ◌-◌, ◌*◌, ◌/◌, ◌%◌, Bool, false, not, ◌&&◌, ◌||◌, ◌==◌, nat_le, nat_lt, if◌then◌else◌, List, [], ◌∷◌, ◌++◌, length, sum}
use Rattle.std.specs.List.{flat_map}
use Rattle.std.specs.Ordering.{nat_cmp}
use Rattle.std.specs.FinMap as map
use Rattle.hex.specs.Hex.{encode_upper}

-- ---- a line

-- the bytes before the sum: the count, the address, the kind and the data
abbrev pub line_body : ℕ → ℕ → List ℕ → List ℕ
line_body address kind bytes = length bytes ∷ (address / 256) ∷ (address % 256) ∷ kind ∷ bytes

-- bytes, and the two's complement of their sum
abbrev pub with_sum : List ℕ → List ℕ
with_sum bytes = bytes ++ ((256 - sum bytes % 256) % 256) ∷ []

-- a line without its end: `:` and the digits of the bytes, in upper case
unfoldable pub hex_line : ℕ → ℕ → List ℕ → List ℕ
hex_line address kind bytes = 58 ∷ encode_upper (with_sum (line_body address kind bytes))

-- ---- the words of a line

-- words at consecutive addresses
pub record Stretch : Type 0 where
  pub address : ℕ
  pub words : List ℕ

-- a stretch of one word
abbrev pub alone : ℕ × ℕ → Stretch
alone entry = record { address = entry.0; words = entry.1 ∷ [] }

-- whether a word goes on the line of the words before it: its address follows theirs, they are fewer than
-- eight, and it is not the word at 8000h
abbrev pub goes_on : Stretch → ℕ → Bool
goes_on s address = address == s.address + length s.words && nat_lt (length s.words) 8 && not (address == 32768)

-- ascending words in stretches, of which the first is begun
unfoldable pub stretches_on : Stretch → List (ℕ × ℕ) → List Stretch
stretches_on s [] = s ∷ []
stretches_on s (entry ∷ rest) =
    if goes_on s entry.0 then stretches_on (record s { words = s.words ++ entry.1 ∷ [] }) rest
    else s ∷ stretches_on (alone entry) rest

-- ascending words in stretches
abbrev pub stretches : List (ℕ × ℕ) → List Stretch
stretches [] = []
stretches (entry ∷ rest) = stretches_on (alone entry) rest

-- ---- the text

-- the two bytes of a word
abbrev pub word_bytes : ℕ → List ℕ
word_bytes word = (word / 256) ∷ (word % 256) ∷ []

-- the line of a stretch, addressed under its base
abbrev pub data_line : Stretch → List ℕ
data_line s = hex_line (2 * s.address % 65536) 0 (flat_map word_bytes s.words)

-- the line that sets the base 10000h, the byte address of word 8000h
abbrev pub base_line : List ℕ
base_line = hex_line 0 4 (0 ∷ 1 ∷ [])

-- the line that ends the text
abbrev pub end_line : List ℕ
end_line = hex_line 0 1 []

-- whether the base has to be set before a stretch: it is not set, and the stretch is at 8000h or above
abbrev pub needs_base : Bool → Stretch → Bool
needs_base set s = not set && nat_le 32768 s.address

-- the lines of stretches and the end line, where the base is set or not
unfoldable pub lines_on : Bool → List Stretch → List (List ℕ)
lines_on set [] = end_line ∷ []
lines_on set (s ∷ rest) =
    (if needs_base set s then base_line ∷ [] else []) ++ data_line s ∷ lines_on (set || needs_base set s) rest

-- lines, each with its LF
abbrev pub text_of : List (List ℕ) → List ℕ
text_of all = flat_map (λ line. line ++ 10 ∷ []) all

-- the written text of words
abbrev pub written : map.FinMap nat_cmp ℕ → List ℕ
written words = text_of (lines_on false (stretches (map.entries words)))
