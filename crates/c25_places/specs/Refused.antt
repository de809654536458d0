-- The part of a line where it is refused: of an expanded line for 10 to 13, 50, 51, 52, 20, 21, 54 and 56; of a line as
-- it stands in its file, which expansion refuses, for 20 to 25, 30 to 33, 35, 36, 38, 51 and 52.
use Rattle.std.specs.Prelude.{◌≡◌, ℕ, ◌+◌, ◌-◌, ◌<◌, ◌≤◌, nat_lt, ◌&&◌, ◌||◌, Bool, false, if◌then◌else◌, List, [], ◌∷◌, codes, length, slice_get, slice_index, take, zero, suc, Option, Some, None, Result, Ok, Err}
use Rattle.std.specs.Fmt.Cut.{floor_char_boundary}
use Rattle.std.specs.List.{prefix_len}
use Rattle.std.specs.Option.{option_map, option_and_then, option_or}
use Rattle.std.specs.Str.{str_eq_ignore_ascii_case}
use Rattle.c25_meaning_assembly.specs.AssemblyLine.{directive_in, names_label}
use Rattle.c25_meaning_assembly.specs.declared.assembly.Directive.{Directive}
use Rattle.c25_meaning_assembly.specs.declared.assembly.Directive.TheVariants as directive
use Rattle.c25_meaning_common.specs.Bytes.{is_blank}
use Rattle.c25_meaning_instructions.specs.Spellings.{spelling_of}
use Rattle.c25_meaning_language.specs.Line as line
use Rattle.c25_meaning_language.specs.Line.{Piece, Parts, first_word, label_end, line_of, without_colon, word_end, word_start}
use Rattle.c25_meaning_language.specs.Operands.{is_comma, operands_of}
use Rattle.c25_meaning_language.specs.declared.line.LineFault.{LineFault}
use Rattle.c25_meaning_language.specs.declared.statement.FaultKind.{FaultKind}
use Rattle.c25_meaning_language.specs.declared.statement.FaultKind.TheVariants as fault
use Rattle.c25_places.specs.TextPart.{text_part}
use Rattle.c25_places.specs.Wanted.{has_fault, wants}
use Rattle.c25_places.specs.declared.part.Part.{Part}
use Rattle.c25_places.specs.declared.wanted.Operation.{Operation}
use Rattle.c25_places.specs.declared.wanted.Operation.TheVariants.{Does, Runs}

-- ---- tokens

-- where a token ends
abbrev pub end_of : Piece → ℕ
end_of p = p.start + length p.text

-- these tokens have bytes, follow one another from a place on, and end within a text of this length
abbrev pub AreWithin : ℕ → ℕ → List Piece → Type 0
AreWithin from size [] = Unit {0}
AreWithin from size (p ∷ ps) = (from ≤ p.start) × (p.start < end_of p) × (end_of p ≤ size) × AreWithin (end_of p) size ps

-- the part from the first token to the last
abbrev pub part_between : Option Piece → Option Piece → Option Part
part_between (Some first) (Some last) = Some (record { start = first.start; end = end_of last })
part_between _ _ = None

-- the part of a line that tokens cover; None where there are none
abbrev pub part_of : List Piece → Option Part
part_of pieces = part_between (slice_get pieces 0) (slice_get pieces (length pieces - 1))

-- the part of one token
abbrev pub piece_part : Piece → Part
piece_part p = record { start = p.start; end = end_of p }

-- the comma of this number among tokens, counted from 0
abbrev pub comma_at : ℕ → List Piece → Option Piece
comma_at k [] = None
comma_at zero (p ∷ ps) = if is_comma p.kind then Some p else comma_at zero ps
comma_at (suc k) (p ∷ ps) = if is_comma p.kind then comma_at k ps else comma_at (suc k) ps

-- the part of an operand by its index: its tokens; where it has none, the comma after it, or before it
abbrev pub operand_part : List Piece → ℕ → List Piece → Option Part
operand_part pieces k operand =
    option_or (part_of operand) (option_map piece_part (option_or (comma_at k pieces) (comma_at (k - 1) pieces)))

-- ---- operands

-- the first operand from index `k` on that has this fault by itself, and its index
unfoldable pub first_refused : FaultKind → Operation → ℕ → List (List Piece) → Option (ℕ × List Piece)
first_refused kind operation k [] = None
first_refused kind operation k (o ∷ os) =
    if has_fault kind (wants operation k) o then Some (k, o) else first_refused kind operation (k + 1) os

-- the part of the first operand that has this fault
abbrev pub refused_in : FaultKind → Operation → List Piece → Option Part
refused_in kind operation pieces =
    option_and_then (λ r. operand_part pieces r.0 r.1) (first_refused kind operation 0 (operands_of pieces))

-- the instruction of a mnemonic field, if there is one
abbrev pub instruction_in : Option line.Part → Option Operation
instruction_in None = None
instruction_in (Some word) = option_map Runs (spelling_of word.text)

-- the part of the first operand, if there is one
abbrev pub first_part : List Piece → List (List Piece) → Option Part
first_part pieces [] = None
first_part pieces (o ∷ os) = operand_part pieces 0 o

-- the part of the operand with an index, if there is one
abbrev pub operand_at : ℕ → List Piece → Option Part
operand_at k pieces = option_and_then (operand_part pieces k) (slice_get (operands_of pieces) k)

-- the index of the operand of a line for which there may be no room: that which says how much is reserved, or which
-- section begins
abbrev pub room_index : Operation → Option ℕ
room_index (Does directive.Space) = Some 0
room_index (Does directive.Sect) = Some 0
room_index (Does directive.Bss) = Some 1
room_index (Does directive.Usect) = Some 1
room_index _ = None

-- the part of that operand
abbrev pub room_part : Option Operation → List Piece → Option Part
room_part o pieces = option_and_then (λ k. operand_at k pieces) (option_and_then room_index o)

-- the part of a line that expansion acts on, as `.if` and `.copy`: all operands for 52; the first one, which is
-- the expression, for 20 to 25
abbrev pub expansion_part : FaultKind → List Piece → Option Part
expansion_part fault.OperandForm pieces = part_of pieces
expansion_part fault.BadExpression pieces = first_part pieces (operands_of pieces)
expansion_part fault.TooDeep pieces = first_part pieces (operands_of pieces)
expansion_part fault.Undefined pieces = first_part pieces (operands_of pieces)
expansion_part fault.DivideByZero pieces = first_part pieces (operands_of pieces)
expansion_part fault.NotAbsolute pieces = first_part pieces (operands_of pieces)
expansion_part fault.ValueRange pieces = first_part pieces (operands_of pieces)
expansion_part _ pieces = None

-- the part of a line whose operands are each what they have to be: for 52 the first one, the name of a section
-- that is of the other kind
abbrev pub section_part : FaultKind → List Piece → Option Part
section_part fault.OperandForm pieces = first_part pieces (operands_of pieces)
section_part _ pieces = None

-- the part of a line by what it does; expansion acts on one that is no directive of sections and no instruction
abbrev pub operation_part : FaultKind → List Piece → Option Operation → Option Part
operation_part kind pieces None = expansion_part kind pieces
operation_part kind pieces (Some o) = option_or (refused_in kind o pieces) (section_part kind pieces)

-- what a line does: its directive, or else its instruction
abbrev pub operation_in : Option Directive → Option line.Part → Option Operation
operation_in (Some d) word = Some (Does d)
operation_in None word = instruction_in word

-- ---- lines

-- the mnemonic field, if there is one
abbrev pub word_part : List ℕ → Option Part
word_part text = if nat_lt (word_start text) (word_end text) then Some (record { start = word_start text; end = word_end text }) else None

-- the label's field in column 1, with its colon, if there is one
abbrev pub label_part : List ℕ → Option Part
label_part text = if nat_lt 0 (label_end text) then Some (record { start = 0; end = label_end text }) else None

-- the blank in column 1 of a line, if there is one: there `.macro` needs a label
abbrev pub blank_part : List ℕ → Option Part
blank_part text = if is_blank (slice_index text 0) then Some (record { start = 0; end = 1 }) else None

-- the mnemonic field, or the label's field where there is none
abbrev pub word_or_label : List ℕ → Option Part
word_or_label text = option_or (word_part text) (label_part text)

-- whether a word is a directive that begins a block, letters in either case
unfoldable pub begins_block : List ℕ → Bool
begins_block word =
    str_eq_ignore_ascii_case word (codes ".if") || str_eq_ignore_ascii_case word (codes ".loop") || str_eq_ignore_ascii_case word (codes ".macro")

-- the same of the word of a line, if it has one
abbrev pub has_opener : Option (List ℕ) → Bool
has_opener None = false
has_opener (Some word) = begins_block word

-- the directive of a line that begins a block, where nothing ends it (31); no other line is refused for itself then
abbrev pub opener_part : List ℕ → Option Part
opener_part text = if has_opener (first_word text) then word_part text else None

-- the text of a line after the blanks at its front, if anything is left
abbrev pub filled_part : List ℕ → Option Part
filled_part text =
    if nat_lt (prefix_len is_blank text) (length text) then Some (record { start = prefix_len is_blank text; end = length text }) else None

-- the part of a line that is too long (38): its characters of which a byte comes after its 1,024th; where it has no
-- more bytes it grows by substitution, and all of it is refused
abbrev pub long_part : List ℕ → Option Part
long_part text = if nat_lt 1024 (length text) then Some (record { start = floor_char_boundary text 1024; end = length text }) else filled_part text

-- the part of a line that does this and has these tokens: all operands for 51, or the mnemonic field where there are
-- none; the name of a file for 30; the first parameter that is too many for 35; the operand for which there is no room
-- for 54, or the mnemonic field or the label; the operand that counts words for 56; else the operand that has the fault
abbrev pub tokens_part : FaultKind → List ℕ → Option Operation → List Piece → Option Part
tokens_part fault.OperandCount text o pieces = option_or (part_of pieces) (word_part text)
tokens_part fault.NoFile text o pieces = operand_at 0 pieces
tokens_part fault.TooManyParameters text o pieces = operand_at 32 pieces
tokens_part fault.TooLarge text o pieces = option_or (room_part o pieces) (word_or_label text)
tokens_part fault.BadBlock text o pieces = operand_at 1 pieces
tokens_part kind text o pieces = operation_part kind pieces o

-- the part of a line whose text has no fault: the blank in column 1 for 10; the mnemonic field for 50; else that by
-- its tokens
abbrev pub statement_part : FaultKind → Option Directive → List ℕ → Parts → Option Part
statement_part fault.BadLabel d text parts = blank_part text
statement_part fault.UnknownMnemonic d text parts = word_part text
statement_part kind d text parts = tokens_part kind text (operation_in d parts.word) parts.pieces

-- whether a line has a blank where its directive needs a label
abbrev pub lacks_label : Option Directive → List ℕ → Bool
lacks_label d text = names_label d && is_blank (slice_index text 0)

-- the part of a line whose text has a fault: for 10 to 13 that of the text; else the line is refused after
-- substitution, which takes the fault of its text away, and its mnemonic field or its label is refused
abbrev pub unread_part : FaultKind → List ℕ → Option Part
unread_part fault.BadLabel text = text_part text
unread_part fault.BadConstant text = text_part text
unread_part fault.OpenQuote text = text_part text
unread_part fault.StrayText text = text_part text
unread_part kind text = word_or_label text

-- the part of the fault of a line's text, or else of its statement
abbrev pub part_by : Result Parts LineFault → FaultKind → Option Directive → List ℕ → Option Part
part_by (Err f) kind d text = unread_part kind text
part_by (Ok parts) kind d text = statement_part kind d text parts

-- the part of a line with this directive: the blank in column 1 where a label has to stand, or else that of
-- the first fault
unfoldable pub part_in : FaultKind → Option Directive → List ℕ → Option Part
part_in kind d text =
    if lacks_label d text then Some (record { start = 0; end = 1 }) else part_by (line_of text) kind d text

-- the part of a line where it is refused with this fault: its directive, or the name of the macro that it calls, for
-- 32 and 33; the name of the macro that it begins for 36; nothing for 34, where one line more is read than may be
abbrev pub refused_part : List ℕ → FaultKind → Option Part
refused_part text fault.OpenBlock = opener_part text
refused_part text fault.StrayEnd = word_or_label text
refused_part text fault.Depth = word_or_label text
refused_part text fault.Lines = None
refused_part text fault.Redefined = label_part text
refused_part text fault.LongLine = long_part text
refused_part text kind = part_in kind (directive_in (first_word text)) text

-- a part has bytes, and lies within a text
pub record IsWithin (text : List ℕ) (p : Part) : Type 0 where
  pub some : p.start < p.end
  pub within : p.end ≤ length text

-- the part of a macro's line whose name is taken is the label's field, and has this name, perhaps with a colon
abbrev pub IsNamedAt : List ℕ → List ℕ → Type 0
IsNamedAt text name =
    (refused_part text fault.Redefined ≡ Some (record { start = 0; end = label_end text })) × (without_colon (take (label_end text) text) ≡ name)
