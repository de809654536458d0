-- Intel hex texts: which words a text spells, or its first fault (Intel Hexadecimal Object File Format Specification, revision A,
-- sections 2 to 8: data, end of file, extended segment and linear address, start records). A byte's address is twice
-- its word's, and the high byte of a word comes first: the format has bytes alone.
use Rattle.std.specs.Prelude.{◌≡◌, ℕ, ◌+◌, ◌-◌, ◌*◌, ◌%◌, Bool, true, false, ◌||◌, ◌&&◌, ◌==◌, not, nat_lt, nat_le, slice_index, if◌then◌else◌, List, [], ◌∷◌, length, take, drop, sum, Option, Some, None, Result, Ok, Err}
use Rattle.std.specs.List.{list_all, list_any}
use Rattle.std.specs.Str.Lines.{lines}
use Rattle.std.specs.Ordering.{nat_cmp}
use Rattle.std.specs.FinMap as map
use Rattle.c25_meaning_common.specs.Bytes.{is_blank}
use Rattle.c25_meaning_common.specs.Results.{◌>>=◌, told}
use Rattle.hex.specs.Hex.{decode_of, is_hex_digit}
use Rattle.c25_hex.specs.declared.hex_fault.HexFault.{HexFault}
use Rattle.c25_meaning_common.specs.declared.placed.Placed.{Placed}
use Rattle.c25_hex.specs.declared.hex_fault.HexFault.TheVariants.{BadStart, BadDigit, BadCount, BadSum, BadKind, OddWord, Twice, NoEnd, AfterEnd, AddressRange}

-- the state of a text's reading: the base, the bytes given so far by their addresses, and whether the end
-- line was met
pub record HexState : Type 0 where
  pub base : ℕ
  pub bytes : map.FinMap nat_cmp ℕ
  pub ended : Bool

-- ---- one line

-- the bytes of a line: `:` and pairs of digits; an odd number of digits is a wrong count of bytes
unfoldable pub bytes_of : List ℕ → Result (List ℕ) HexFault
bytes_of line =
    if not (nat_lt 0 (length line) && slice_index line 0 == 58) then Err BadStart
    else (if not (list_all is_hex_digit (drop 1 line)) then Err BadDigit
    else told (λ e. BadCount) (decode_of (drop 1 line)))

-- whether a kind may have a count: any for data (0), none for the end (1), two bytes for a base (2, 4), four for a start address (3, 5)
abbrev pub count_fits : ℕ → ℕ → Bool
count_fits kind count =
    if kind == 0 then true
    else (if kind == 1 then count == 0
    else (if kind == 2 || kind == 4 then count == 2
    else (if kind == 3 || kind == 5 then count == 4
    else false)))

-- count, two bytes of address, kind, as many bytes as the count says, and a sum that makes the whole a multiple of 256
unfoldable pub checked_line : List ℕ → Result (List ℕ) HexFault
checked_line bytes =
    if not (nat_le 5 (length bytes) && length bytes == slice_index bytes 0 + 5) then Err BadCount
    else (if not (sum bytes % 256 == 0) then Err BadSum
    else (if nat_lt 5 (slice_index bytes 3) then Err BadKind
    else (if not (count_fits (slice_index bytes 3) (slice_index bytes 0)) then Err BadCount
    else Ok bytes)))

-- bytes put at the addresses from a first one on
abbrev pub put_bytes : map.FinMap nat_cmp ℕ → ℕ → List ℕ → map.FinMap nat_cmp ℕ
put_bytes given place [] = given
put_bytes given place (b ∷ bs) = put_bytes (map.insert given place b) (place + 1) bs

-- whether one of the bytes at these addresses has been given already
abbrev pub gives_again : map.FinMap nat_cmp ℕ → ℕ → List ℕ → Bool
gives_again given place [] = false
gives_again given place (b ∷ bs) = map.contains_key given place || gives_again given (place + 1) bs

-- bytes relative to the base: none past the 65,536 of the base or the 131,072 of all words, and none that has
-- been given already
unfoldable pub with_bytes : HexState → ℕ → List ℕ → Result HexState HexFault
with_bytes s address bytes =
    if nat_lt 65536 (address + length bytes) || (nat_lt 0 (length bytes) && nat_lt 131072 (s.base + address + length bytes)) then Err AddressRange
    else (if gives_again s.bytes (s.base + address) bytes then Err Twice
    else Ok (record s { bytes = put_bytes s.bytes (s.base + address) bytes }))

-- the address of the other byte of a word
abbrev pub other_byte : ℕ → ℕ
other_byte place = if place % 2 == 0 then place + 1 else place - 1

-- whether a byte is given and the other one of its word is not
unfoldable pub has_odd_word : map.FinMap nat_cmp ℕ → Bool
has_odd_word given = list_any (λ e. not (map.contains_key given (other_byte e.0))) (map.entries given)

-- the number of two bytes of a line, the high one first
abbrev pub pair_at : List ℕ → ℕ → ℕ
pair_at bytes at = 256 * slice_index bytes at + slice_index bytes (at + 1)

-- the state after a line whose form is right: 0 is data, 1 the end, 2 a segment base, 4 a linear base; 3 and
-- 5, the start addresses, change nothing
unfoldable pub after_bytes : HexState → List ℕ → Result HexState HexFault
after_bytes s bytes =
    if slice_index bytes 3 == 0 then with_bytes s (pair_at bytes 1) (take (slice_index bytes 0) (drop 4 bytes))
    else (if slice_index bytes 3 == 1 then (if has_odd_word s.bytes then Err OddWord else Ok (record s { ended = true }))
    else (if slice_index bytes 3 == 2 then Ok (record s { base = 16 * pair_at bytes 4 })
    else (if slice_index bytes 3 == 4 then Ok (record s { base = 65536 * pair_at bytes 4 })
    else (if slice_index bytes 3 == 3 || slice_index bytes 3 == 5 then Ok s
    else Err BadKind))))

-- the state after a line, without its end, that follows the lines before it
unfoldable pub after_line : HexState → List ℕ → Result HexState HexFault
after_line s line =
    if list_all is_blank line then Ok s
    else (if s.ended then Err AfterEnd
    else (bytes_of line >>= λ bytes. checked_line bytes >>= λ same. after_bytes s same))

-- ---- the text

-- a line as it is read, its fault with the number of the line
abbrev pub numbered : {A : Type 0} → ℕ → Result A HexFault → Result A (Placed ℕ HexFault)
numbered n read = told (λ f. record { place = n; fault = f }) read

-- the bytes given in the end, after n lines, or the first fault and its line
unfoldable pub after_lines : ℕ → HexState → List (List ℕ) → Result (map.FinMap nat_cmp ℕ) (Placed ℕ HexFault)
after_lines n s [] = if s.ended then Ok s.bytes else Err (record { place = n; fault = NoEnd })
after_lines n s (line ∷ rest) = numbered (n + 1) (after_line s line) >>= λ t. after_lines (n + 1) t rest

-- the state before the first line
abbrev pub start : HexState
start = record { base = 0; bytes = map.empty; ended = false }

-- the bytes that a text gives by their addresses, or its first fault and the line of it; lines end in LF or CRLF, and the last may lack its end
abbrev pub bytes_given : List ℕ → Result (map.FinMap nat_cmp ℕ) (Placed ℕ HexFault)
bytes_given text = after_lines 0 start (lines text)

-- the word of two bytes, the high one first
abbrev pub word_of : Option ℕ → Option ℕ → Option ℕ
word_of (Some high) (Some low) = Some (256 * high + low)
word_of _ _ = None

-- the words are those of the bytes: the word at an address has the byte at twice the address and the one
-- after it
abbrev pub HasWordsOf : map.FinMap nat_cmp ℕ → map.FinMap nat_cmp ℕ → Type 0
HasWordsOf given words = (a : ℕ) → map.get words a ≡ word_of (map.get given (2 * a)) (map.get given (2 * a + 1))

-- a text spells words
abbrev pub SpellsWords : List ℕ → map.FinMap nat_cmp ℕ → Type 0
SpellsWords text words = (given : map.FinMap nat_cmp ℕ) × (bytes_given text ≡ Ok given) × HasWordsOf given words
