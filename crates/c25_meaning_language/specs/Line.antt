-- The parts of a line (SPRU018, assembler description, source statement format; that the mnemonic field is
-- any run up to a blank or `;` is this project's own): first as a function, then as a relation. That both
-- agree, so that a line has its parts or its leftmost fault and no others, is a law of the crate that splits
-- lines.
use Rattle.std.specs.Prelude.{◌≡◌, ◌<◌, ◌⊎◌, ℕ, zero, suc, ◌+◌, ◌-◌, Bool, ◌||◌, ◌&&◌, ◌==◌, nat_le, slice_index, if◌then◌else◌, MatchBool, List, [], ◌∷◌, length, take, drop, Option, Some, None, Result, Ok, Err}
use Rattle.std.specs.List.{prefix_len, take_while, list_all}
use Rattle.c25_meaning_common.specs.Bytes.{is_blank, is_field, is_visible, begins_name, goes_on_name}
use Rattle.c25_meaning_language.specs.Lexeme.{lexeme}
use Rattle.c25_meaning_common.specs.Results.{◌>>=◌}
use Rattle.c25_meaning_language.specs.declared.line.LineFault.{LineFault}
use Rattle.c25_meaning_language.specs.declared.line.LineFault.TheVariants.{BadLabel, StrayText}
use Rattle.c25_meaning_language.specs.declared.line.TokenKind.{TokenKind}
use Rattle.c25_meaning_language.specs.declared.line.Lexeme.{Lexeme}
use Rattle.c25_meaning_language.specs.declared.line.Lexeme.TheVariants.{Blank, Comment, Token, Fault}

-- a part of a line: the byte where it begins, counted from 0, and its text
pub record Part : Type 0 where
  pub start : ℕ
  pub text : List ℕ

-- a token: its kind, where it begins, and its text
pub record Piece : Type 0 where
  pub kind : TokenKind
  pub start : ℕ
  pub text : List ℕ

-- the tokens of a text up to its first fault, that fault, and where the comment, the end or the fault is
pub record Scan : Type 0 where
  pub pieces : List Piece
  pub fault : Option LineFault
  pub stop : ℕ

-- a lexeme at a place, put before what comes after it; `text` is the text from that place on
abbrev pub before : Lexeme → ℕ → List ℕ → Scan → Scan
before Blank at text more = more
before Comment at text more = record { pieces = []; fault = None; stop = at }
before (Token k len) at text more = record { pieces = record { kind = k; start = at; text = take len text } ∷ more.pieces; fault = more.fault; stop = more.stop }
before (Fault f) at text more = record { pieces = []; fault = Some f; stop = at }

-- how many bytes after its first a lexeme covers
abbrev pub covered : Lexeme → ℕ
covered Blank = 0
covered Comment = 0
covered (Token k len) = len - 1
covered (Fault f) = 0

-- the tokens of a text that begins at place `at`, where a token before it still covers `skip` bytes
unfoldable pub scan : ℕ → ℕ → List ℕ → Scan
scan skip at [] = record { pieces = []; fault = None; stop = at }
scan (suc skip) at (b ∷ rest) = scan skip (at + 1) rest
scan zero at (b ∷ rest) = before (lexeme (b ∷ rest)) at (b ∷ rest) (scan (covered (lexeme (b ∷ rest))) (at + 1) rest)

-- the tokens of a text from a place on
abbrev pub scan_from : ℕ → List ℕ → Scan
scan_from at text = scan 0 at (drop at text)

-- where the comment or the end is, or the first fault
abbrev pub stop_of : Scan → Result ℕ LineFault
stop_of s = elim s.fault [ None ↦ Ok s.stop | Some f ↦ Err f ]

-- the parts of a line: its label without the colon, its mnemonic field, the tokens of its operands, its
-- comment
pub record Parts : Type 0 where
  pub label : Option (List ℕ)
  pub word : Option Part
  pub pieces : List Piece
  pub comment : Option Part

-- the rest of a line that begins at this place, if it is not empty
abbrev pub part_from : ℕ → List ℕ → Option Part
part_from at [] = None
part_from at (b ∷ rest) = Some (record { start = at; text = b ∷ rest })

-- whether a text is a name, of any length
abbrev pub is_name : List ℕ → Bool
is_name text = begins_name (slice_index text 0) && list_all goes_on_name text

-- a label without the colon that may end it
abbrev pub without_colon : List ℕ → List ℕ
without_colon text = if slice_index text (length text - 1) == 58 then take (length text - 1) text else text

-- whether a field in column 1 is a label: a name of at most 128 bytes, perhaps with a colon after it
abbrev pub is_label : List ℕ → Bool
is_label text = is_name (without_colon text) && nat_le (length (without_colon text)) 128

-- the label in the field of column 1; an empty field has none
abbrev pub label_of : List ℕ → Result (Option (List ℕ)) LineFault
label_of [] = Ok None
label_of (b ∷ rest) = if is_label (b ∷ rest) then Ok (Some (without_colon (b ∷ rest))) else Err BadLabel

-- the mnemonic field at its place; an empty field has none
abbrev pub word_of : ℕ → List ℕ → Result (Option Part) LineFault
word_of at [] = Ok None
word_of at (b ∷ rest) = if list_all is_visible (b ∷ rest) then Ok (Some (record { start = at; text = b ∷ rest })) else Err StrayText

-- the place after the blanks and tabs that begin at a place
abbrev pub past_blanks : ℕ → List ℕ → ℕ
past_blanks at text = at + prefix_len is_blank (drop at text)

-- the place after the field that begins at a place
abbrev pub past_field : ℕ → List ℕ → ℕ
past_field at text = at + prefix_len is_field (drop at text)

-- whether a line is a comment: `*` or `;` in column 1
abbrev pub is_comment_line : List ℕ → Bool
is_comment_line text = slice_index text 0 == 42 || slice_index text 0 == 59

-- where the label field ends
abbrev pub label_end : List ℕ → ℕ
label_end text = past_field 0 text

-- where the mnemonic field begins
abbrev pub word_start : List ℕ → ℕ
word_start text = past_blanks (label_end text) text

-- where the mnemonic field ends
abbrev pub word_end : List ℕ → ℕ
word_end text = past_field (word_start text) text

-- the label of a line
abbrev pub label_in : List ℕ → Result (Option (List ℕ)) LineFault
label_in text = label_of (take (label_end text) text)

-- the mnemonic field of a line
abbrev pub word_in : List ℕ → Result (Option Part) LineFault
word_in text = word_of (word_start text) (take (word_end text - word_start text) (drop (word_start text) text))

-- the parts of a line from its label, its mnemonic field and its operands, or the first of their faults
abbrev pub statement_by : Result (Option (List ℕ)) LineFault → Result (Option Part) LineFault → Scan → List ℕ → Result Parts LineFault
statement_by label_in word_in operands text = do
  label ← label_in
  word ← word_in
  stop ← stop_of operands
  Ok (record { label = label; word = word; pieces = operands.pieces; comment = part_from stop (drop stop text) })

-- the parts of a line that is no comment line
unfoldable pub statement_of : List ℕ → Result Parts LineFault
statement_of text = statement_by (label_in text) (word_in text) (scan_from (word_end text) text) text

-- the parts of a comment line: the comment alone
abbrev pub comment_line : List ℕ → Parts
comment_line text = record { label = None; word = None; pieces = []; comment = part_from 0 text }

-- the parts of a line, or its first fault
abbrev pub line_of : List ℕ → Result Parts LineFault
line_of text = if is_comment_line text then Ok (comment_line text) else statement_of text

-- the text, if it is not empty
abbrev pub some_text : List ℕ → Option (List ℕ)
some_text [] = None
some_text (b ∷ rest) = Some (b ∷ rest)

-- the mnemonic field of any line, with faults or without: the field after the label field and the blanks that
-- follow it
abbrev pub first_word : List ℕ → Option (List ℕ)
first_word text =
    if is_comment_line text then None
    else some_text (take_while is_field (drop (past_blanks (past_field 0 text) text) text))

-- ---- the parts of a line as a relation

-- from place `at` on the text's tokens are these, each the longest there, with blanks alone between them;
-- after them and the blanks that follow, `stop` is reached
abbrev pub AreTokens : List ℕ → ℕ → List Piece → ℕ → Type 0
AreTokens text at [] stop = stop ≡ past_blanks at text
AreTokens text at (p ∷ ps) stop =
    (p.start ≡ past_blanks at text) × (p.start < length text)
    × (lexeme (drop p.start text) ≡ Token p.kind (length p.text)) × (p.text ≡ take (length p.text) (drop p.start text))
    × AreTokens text (p.start + length p.text) ps stop

-- at `stop` is the end of the text or a comment
abbrev pub EndsAt : List ℕ → ℕ → Type 0
EndsAt text stop = stop < length text → lexeme (drop stop text) ≡ Comment

-- at this place is this fault
abbrev pub FailsAt : List ℕ → ℕ → LineFault → Type 0
FailsAt text place f = (place < length text) × (lexeme (drop place text) ≡ Fault f)

-- the operands of a text from a place on are these tokens up to the comment or the end, or these tokens up to
-- this fault
abbrev pub Operands : List ℕ → ℕ → Scan → Option LineFault → Type 0
Operands text at s None = AreTokens text at s.pieces s.stop × EndsAt text s.stop
Operands text at s (Some f) = AreTokens text at s.pieces s.stop × FailsAt text s.stop f

-- a line that is no comment line has these parts, and its comment or its end is at `stop`
pub record IsStatement (text : List ℕ) (p : Parts) (stop : ℕ) : Type 0 where
  pub label : label_in text ≡ Ok p.label
  pub word : word_in text ≡ Ok p.word
  pub tokens : AreTokens text (word_end text) p.pieces stop
  pub ends : EndsAt text stop
  pub comment : p.comment ≡ part_from stop (drop stop text)

-- a line has these parts: those of a comment line, or of a statement
abbrev pub IsLine : List ℕ → Parts → Type 0
IsLine text p = MatchBool (is_comment_line text) (p ≡ comment_line text) ((stop : ℕ) × IsStatement text p stop)

-- the label and the mnemonic field are valid, and this fault follows some valid tokens
pub record FailsBehind (text : List ℕ) (f : LineFault) : Type 0 where
  pub label : Option (List ℕ)
  pub word : Option Part
  pub pieces : List Piece
  pub place : ℕ
  pub label_is : label_in text ≡ Ok label
  pub word_is : word_in text ≡ Ok word
  pub tokens : AreTokens text (word_end text) pieces place
  pub fails : FailsAt text place f

-- the leftmost fault of a line: that of the label; that of the mnemonic field after a valid label; or that of
-- the operands after both
abbrev pub HasFault : List ℕ → LineFault → Type 0
HasFault text f = MatchBool (is_comment_line text) ⊥
    ((label_in text ≡ Err f) ⊎ (((label : Option (List ℕ)) × (label_in text ≡ Ok label) × (word_in text ≡ Err f)) ⊎ FailsBehind text f))
