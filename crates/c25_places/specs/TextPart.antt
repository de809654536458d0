-- The part of a line's text that is refused with a fault of 10 to 13.
use Rattle.std.specs.Prelude.{ℕ, ◌+◌, max, ◌==◌, if◌then◌else◌, List, drop, slice_index, Option, Some, None, Result, Ok, Err}
use Rattle.std.specs.List.{prefix_len}
use Rattle.c25_meaning_common.specs.Bytes.{goes_on_name, is_letter_or_digit, is_plain, is_visible}
use Rattle.c25_meaning_language.specs.Fragments.{is_beyond_ascii}
use Rattle.c25_meaning_language.specs.Line as line
use Rattle.c25_meaning_language.specs.Line.{label_end, label_in, scan_from, word_end, word_in, word_start}
use Rattle.c25_meaning_language.specs.declared.line.LineFault.{LineFault}
use Rattle.c25_meaning_language.specs.declared.line.LineFault.TheVariants.{BadLabel, BadConstant, OpenQuote, StrayText}
use Rattle.c25_places.specs.declared.part.Part.{Part}

-- the part of so many bytes from a place on
abbrev pub part_from : ℕ → ℕ → Part
part_from start size = record { start = start; end = start + size }

-- the part of the character at a place: one byte, or a whole run of bytes that are not ASCII characters
abbrev pub character_part : ℕ → List ℕ → Part
character_part at text = part_from at (max (prefix_len is_beyond_ascii (drop at text)) 1)

-- where the stray character of a token is that begins at a place: in a string after its first quote and plain
-- characters, else at the place itself
abbrev pub stray_at : ℕ → List ℕ → ℕ
stray_at at text = if slice_index text at == 34 then at + 1 + prefix_len is_plain (drop (at + 1) text) else at

-- the part of the token that begins at a place and has this fault: the name that is too long, the constant,
-- the quote, the stray character
abbrev pub token_part : LineFault → ℕ → List ℕ → Part
token_part BadLabel at text = part_from at (prefix_len goes_on_name (drop at text))
token_part BadConstant at text = part_from at (prefix_len is_letter_or_digit (drop at text))
token_part OpenQuote at text = part_from at 1
token_part StrayText at text = character_part (stray_at at text) text

-- the part of a text where its tokens stop with a fault
abbrev pub stop_part : Option LineFault → ℕ → List ℕ → Option Part
stop_part None at text = None
stop_part (Some f) at text = Some (token_part f at text)

-- the part of the first fault among the tokens of a text from a place on
unfoldable pub scan_part : ℕ → List ℕ → Option Part
scan_part at text = stop_part (scan_from at text).fault (scan_from at text).stop text

-- the part of the first character of the mnemonic field that may not stand there
abbrev pub field_part : List ℕ → Part
field_part text = character_part (word_start text + prefix_len is_visible (drop (word_start text) text)) text

-- the part of the fault of the mnemonic field, or else of the operands
abbrev pub word_or_scan : Result (Option line.Part) LineFault → List ℕ → Option Part
word_or_scan (Err f) text = Some (field_part text)
word_or_scan (Ok word) text = scan_part (word_end text) text

-- the part of the fault of the label, which is its whole field, or else of what follows
abbrev pub label_or_more : Result (Option (List ℕ)) LineFault → List ℕ → Option Part
label_or_more (Err f) text = Some (part_from 0 (label_end text))
label_or_more (Ok label) text = word_or_scan (word_in text) text

-- the part of the leftmost fault of the text of a line that is no comment; None where it has no fault
unfoldable pub text_part : List ℕ → Option Part
text_part text = label_or_more (label_in text) text
