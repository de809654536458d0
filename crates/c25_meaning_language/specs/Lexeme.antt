-- What stands at the front of a text: a blank, a comment, the longest token there, or a fault (SPRU018,
-- assembler description, source statement format, constants, character strings, symbols and operators; that a
-- character constant has one character, a name at most 128, and a dot is one token with the name after it,
-- are this project's own).
use Rattle.std.specs.Prelude.{ℕ, ◌+◌, Bool, true, false, ◌&&◌, ◌==◌, not, nat_le, slice_index, if◌then◌else◌, List, [], ◌∷◌, length, take, drop, Option, Some, None}
use Rattle.std.specs.List.{prefix_len, take_while, list_all}
use Rattle.std.specs.Option.{option_map}
use Rattle.c25_meaning_common.specs.Bytes.{is_blank, is_digit, is_letter_or_digit, begins_name, goes_on_name, is_plain}
use Rattle.c25_meaning_language.specs.Constant.{is_constant}
use Rattle.c25_meaning_language.specs.declared.line.LineFault.TheVariants.{BadLabel, BadConstant, OpenQuote, StrayText}
use Rattle.c25_meaning_language.specs.declared.line.TokenKind.TheVariants as kind
use Rattle.c25_meaning_language.specs.declared.line.Sign.{Sign}
use Rattle.c25_meaning_language.specs.declared.line.Sign.TheVariants as sign
use Rattle.c25_meaning_language.specs.declared.line.Lexeme.{Lexeme}
use Rattle.c25_meaning_language.specs.declared.line.Lexeme.TheVariants.{Blank, Comment, Token, Fault}

-- a name of this many bytes, at most 128
abbrev pub name_of : ℕ → Lexeme
name_of len = if nat_le len 128 then Token kind.Name len else Fault BadLabel

-- a run of letters and digits that begins with a digit: a constant, or a fault
abbrev pub constant_of : List ℕ → Lexeme
constant_of run = if is_constant run then Token kind.Constant (length run) else Fault BadConstant

-- a character constant, by the three bytes after its first `'`: a plain character and a `'`, or `'''` for the
-- quote itself
abbrev pub character_of : ℕ → ℕ → ℕ → Lexeme
character_of c d e =
    if c == 39 && d == 39 && e == 39 then Token kind.Character 4
    else (if is_plain c && not (c == 39) && d == 39 then Token kind.Character 3
    else Fault OpenQuote)

-- how many bytes of a text belong to a string that is open before it, the last quote included, if the string
-- ends; two quotes in a row do not end it. The flag is false where the byte before was a quote that may have
-- ended the string
abbrev pub quoted_len : Bool → List ℕ → Option ℕ
quoted_len true [] = None
quoted_len false [] = Some 0
quoted_len true (b ∷ rest) = option_map (λ n. n + 1) (quoted_len (not (b == 34)) rest)
quoted_len false (b ∷ rest) = if b == 34 then option_map (λ n. n + 1) (quoted_len true rest) else Some 0

-- a string with this many bytes after its first quote, all of which must be plain
abbrev pub quoted_by : Option ℕ → List ℕ → Lexeme
quoted_by None rest = Fault OpenQuote
quoted_by (Some n) rest = if list_all is_plain (take n rest) then Token kind.Quoted (n + 1) else Fault StrayText

-- the signs of two characters
abbrev pub double_sign : ℕ → ℕ → Option Sign
double_sign b c =
    if b == 60 && c == 60 then Some sign.ShiftLeft
    else (if b == 62 && c == 62 then Some sign.ShiftRight
    else (if b == 60 && c == 61 then Some sign.LessOrEqual
    else (if b == 62 && c == 61 then Some sign.GreaterOrEqual
    else (if b == 61 && c == 61 then Some sign.Equal
    else (if b == 33 && c == 61 then Some sign.NotEqual
    else None)))))

-- the signs of one character
abbrev pub single_sign : ℕ → Option Sign
single_sign b =
    if b == 44 then Some sign.Comma
    else (if b == 36 then Some sign.Dollar
    else (if b == 40 then Some sign.OpenParenthesis
    else (if b == 41 then Some sign.CloseParenthesis
    else (if b == 43 then Some sign.Plus
    else (if b == 45 then Some sign.Minus
    else (if b == 126 then Some sign.Tilde
    else (if b == 42 then Some sign.Star
    else (if b == 47 then Some sign.Slash
    else (if b == 37 then Some sign.Percent
    else (if b == 60 then Some sign.Less
    else (if b == 62 then Some sign.Greater
    else (if b == 61 then Some sign.Equal
    else (if b == 38 then Some sign.Ampersand
    else (if b == 94 then Some sign.Caret
    else (if b == 124 then Some sign.Bar
    else None)))))))))))))))

-- the sign of two characters if there is one, else the sign of one, else a fault
abbrev pub sign_by : Option Sign → Option Sign → Lexeme
sign_by (Some two) one = Token (kind.Sign two) 2
sign_by None (Some one) = Token (kind.Sign one) 1
sign_by None None = Fault StrayText

-- what begins with a `.`: a name must follow directly, and is one token with it
abbrev pub dotted_of : List ℕ → Lexeme
dotted_of rest = if begins_name (slice_index rest 0) then Token kind.DottedName (prefix_len goes_on_name rest + 1) else Fault StrayText

-- what stands at the front of a text that is not empty
unfoldable pub lexeme : List ℕ → Lexeme
lexeme text =
    if is_blank (slice_index text 0) then Blank
    else (if slice_index text 0 == 59 then Comment
    else (if begins_name (slice_index text 0) then name_of (prefix_len goes_on_name text)
    else (if is_digit (slice_index text 0) then constant_of (take_while is_letter_or_digit text)
    else (if slice_index text 0 == 39 then character_of (slice_index text 1) (slice_index text 2) (slice_index text 3)
    else (if slice_index text 0 == 34 then quoted_by (quoted_len true (drop 1 text)) (drop 1 text)
    else (if slice_index text 0 == 46 then dotted_of (drop 1 text)
    else sign_by (double_sign (slice_index text 0) (slice_index text 1)) (single_sign (slice_index text 0))))))))
