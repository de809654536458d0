-- The symbols of the operands of an old line: those of the assembler (`Lexeme`), and four forms that old sources have in
-- addition:
--
--   `>1F`  a hexadecimal constant, where an operand may begin; after an operand `>` is an operator
--   `0x1F` a hexadecimal constant
--   `''`   the constant 0
--   `'AB'` a constant of two characters, the first in the high byte: the expression `('A'<<8|'B')`
--
-- Where local labels get names, `$1` is one, a name as others are: `$` and a digit, with no letter, digit, `_`, `$`, `?` or `.`
-- after it.
--
-- The operands end at a `;`, and where operators act as they are written, in assemblers before COFF, at a blank that is not
-- directly after a comma, too. All this is this project's own.
use Rattle.std.specs.Prelude.{ℕ, zero, suc, ◌+◌, ◌-◌, ◌^◌, min, Bool, true, false, not, ◌&&◌, ◌||◌, ◌==◌, nat_le, slice_index, if◌then◌else◌, List, [], ◌∷◌, ◌++◌, length, take, drop, Option, Some, None}
use Rattle.std.specs.List.{take_while}
use Rattle.c25_meaning_common.specs.Bytes.{is_digit, is_letter_or_digit}
use Rattle.c25_meaning_common.specs.Digits.{are_digits, value_in}
use Rattle.c25_meaning_language.specs.Lexeme.{lexeme}
use Rattle.c25_meaning_language.specs.Line.{past_blanks, word_end}
use Rattle.c25_meaning_language.specs.Tree.{Operand, Signed, Constant, Name}
use Rattle.c25_meaning_language.specs.declared.line.Lexeme.{Lexeme}
use Rattle.c25_meaning_language.specs.declared.line.Lexeme.TheVariants as lexeme
use Rattle.c25_meaning_language.specs.declared.line.Sign.TheVariants as sign
use Rattle.c25_old_expressions.specs.declared.order.Order.{Order}
use Rattle.c25_old_expressions.specs.declared.order.Order.TheVariants.{AsWritten, ByLevel}
use Rattle.c25_old_expressions.specs.Marks.{Sym, Part, is_comma, symbol_by}

-- what stands at the front of old operands: a blank; the comment; a symbol, and how many bytes it has after its first;
-- a constant of two characters; or nothing that is read
pub data OldLexeme : Type 0 where
  Gap : OldLexeme
  End : OldLexeme
  One : Sym → ℕ → OldLexeme
  Two : ℕ → ℕ → OldLexeme
  Unread : OldLexeme

-- the letters and digits at the front of a text
abbrev pub run_in : List ℕ → List ℕ
run_in text = take_while is_letter_or_digit text

-- a constant of this number, kept as `Leaf` says
abbrev pub number : ℕ → Sym
number n = Part (Operand (Constant (min n (2 ^ 31))))

-- whether a text begins with a sign `>` and hexadecimal digits
abbrev pub begins_greater : List ℕ → Bool
begins_greater text = slice_index text 0 == 62 && are_digits 16 (run_in (drop 1 text))

-- whether a text begins with `0x` or `0X` and hexadecimal digits
abbrev pub begins_c : List ℕ → Bool
begins_c text = slice_index text 0 == 48 && (slice_index text 1 == 120 || slice_index text 1 == 88) && are_digits 16 (run_in (drop 2 text))

-- whether a byte may stand in a constant of two characters: 20h to 7Eh but for the quote
abbrev pub is_character : ℕ → Bool
is_character b = nat_le 32 b && nat_le b 126 && not (b == 39)

-- whether a text begins with `''`, and no further quote
abbrev pub begins_none : List ℕ → Bool
begins_none text = slice_index text 0 == 39 && slice_index text 1 == 39 && not (slice_index text 2 == 39)

-- whether a text begins with two characters in quotes
abbrev pub begins_two : List ℕ → Bool
begins_two text = slice_index text 0 == 39 && is_character (slice_index text 1) && is_character (slice_index text 2) && slice_index text 3 == 39

-- whether a byte goes on with a word
abbrev pub goes_on_word : ℕ → Bool
goes_on_word b = is_letter_or_digit b || b == 95 || b == 36 || b == 63 || b == 46

-- whether a text begins with a local label
abbrev pub begins_local : List ℕ → Bool
begins_local text = slice_index text 0 == 36 && is_digit (slice_index text 1) && not (goes_on_word (slice_index text 2))

-- a lexeme of the assembler
abbrev pub plain_lexeme : Lexeme → List ℕ → OldLexeme
plain_lexeme lexeme.Blank text = Gap
plain_lexeme lexeme.Comment text = End
plain_lexeme (lexeme.Token k n) text = One (symbol_by k (take n text)) (n - 1)
plain_lexeme (lexeme.Fault f) text = Unread

-- what stands at the front of a text that is not empty; the flags say whether local labels get names, and whether an operand
-- may begin there
abbrev pub old_lexeme : Bool → Bool → List ℕ → OldLexeme
old_lexeme labelled begins text =
    if labelled && begins_local text then One (Part (Operand (Name (take 2 text)))) 1
    else (if begins && begins_greater text then One (number (value_in 16 (run_in (drop 1 text)))) (length (run_in (drop 1 text)))
    else (if begins_c text then One (number (value_in 16 (run_in (drop 2 text)))) (length (run_in (drop 2 text)) + 1)
    else (if begins_none text then One (number 0) 1
    else (if begins_two text then Two (slice_index text 1) (slice_index text 2)
    else plain_lexeme (lexeme text) text))))

-- the operands so far: their symbols, whether an operand may begin next, and whether a comma came last
pub record SoFar : Type 0 where
  pub symbols : List Sym
  pub begins : Bool
  pub comma : Bool

-- whether an operand may begin after a symbol: after an operator, an open parenthesis or a comma
abbrev pub begins_after : Sym → Bool
begins_after (Part (Signed sign.CloseParenthesis)) = false
begins_after (Part (Signed s)) = true
begins_after _ = false

-- the operands with one more symbol
abbrev pub with_symbol : SoFar → Sym → SoFar
with_symbol so s = record { symbols = so.symbols ++ s ∷ []; begins = begins_after s; comma = is_comma s }

-- the operands with more symbols
abbrev pub with_symbols : SoFar → List Sym → SoFar
with_symbols so [] = so
with_symbols so (s ∷ ss) = with_symbols (with_symbol so s) ss

-- the symbols of a constant of two characters
abbrev pub two_characters : ℕ → ℕ → List Sym
two_characters high low =
    Part (Signed sign.OpenParenthesis) ∷ Part (Operand (Constant high)) ∷ Part (Signed sign.ShiftLeft) ∷ Part (Operand (Constant 8))
    ∷ Part (Signed sign.Bar) ∷ Part (Operand (Constant low)) ∷ Part (Signed sign.CloseParenthesis) ∷ []

-- the operands after a lexeme, and how many bytes it has after its first; none of the latter where the operands end
pub record Passed : Type 0 where
  pub so : SoFar
  pub covered : Option ℕ

-- whether a blank ends the operands
abbrev pub ends_at_blank : Order → Bool → Bool
ends_at_blank AsWritten comma = not comma
ends_at_blank ByLevel comma = false

-- the operands after a blank
abbrev pub past_gap : Bool → SoFar → Passed
past_gap ends so = record { so = so; covered = if ends then None else Some 0 }

-- the operands after a lexeme, if it is read
abbrev pub passed : Order → SoFar → OldLexeme → Option Passed
passed order so Gap = Some (past_gap (ends_at_blank order so.comma) so)
passed order so End = Some (record { so = so; covered = None })
passed order so (One s n) = Some (record { so = with_symbol so s; covered = Some n })
passed order so (Two high low) = Some (record { so = with_symbols so (two_characters high low); covered = Some 3 })
passed order so Unread = None

-- the operands of a text from its front on: those after a lexeme, by the operands so far and the bytes to skip
abbrev pub after_lexeme : (SoFar → ℕ → Option (List Sym)) → Option Passed → Option (List Sym)
after_lexeme more None = None
after_lexeme more (Some p) = elim p.covered [ None ↦ Some p.so.symbols | Some n ↦ more p.so n ]

-- the symbols of operands, if all are read: `so` has those before a text of which `skip` bytes are passed
abbrev pub old_scan : Order → Bool → SoFar → ℕ → List ℕ → Option (List Sym)
old_scan order labelled so skip [] = Some so.symbols
old_scan order labelled so (suc skip) (b ∷ rest) = old_scan order labelled so skip rest
old_scan order labelled so zero (b ∷ rest) = after_lexeme (λ so n. old_scan order labelled so n rest) (passed order so (old_lexeme labelled so.begins (b ∷ rest)))

-- before the first symbol
abbrev pub no_symbols : SoFar
no_symbols = record { symbols = []; begins = true; comma = false }

-- the symbols of old operands; the flag says whether local labels get names
abbrev pub old_symbols : Order → Bool → List ℕ → Option (List Sym)
old_symbols order labelled text = old_scan order labelled no_symbols 0 text

-- the text of a line from its operands on
abbrev pub operand_text : List ℕ → List ℕ
operand_text line = drop (past_blanks (word_end line) line) line
