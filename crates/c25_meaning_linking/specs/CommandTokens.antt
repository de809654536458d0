-- The tokens of a command file: names, keywords, numbers and signs, separated by blanks and comments
-- (SPRU018, linker description, linker command files; which characters a name has, how large a number may be,
-- and that keywords are read in either case, are this project's own).
use Rattle.std.specs.Prelude.{ℕ, zero, suc, ◌+◌, ◌-◌, ◌^◌, ◌==◌, ◌||◌, ◌&&◌, not, min, Bool, List, [], ◌∷◌, length, take, drop, slice_index, map, codes, count_by, Option, Some, None, is_some, option_map, nat_lt, nat_le, if◌then◌else◌}
use Rattle.std.specs.List.{prefix_len}
use Rattle.std.specs.Option.{option_map_or}
use Rattle.std.specs.Str.{bytes_eq}
use Rattle.std.specs.Str.Lines.{lines}
use Rattle.std.specs.Char.{to_ascii_lowercase}
use Rattle.c25_meaning_common.specs.Bytes.{is_space}
use Rattle.c25_meaning_common.specs.Digits.{Numeral, digit, are_digits, value_in}
use Rattle.c25_meaning_linking.specs.declared.command_token.Sign.{Sign}
use Rattle.c25_meaning_linking.specs.declared.command_token.Sign.TheVariants as sign
use Rattle.c25_meaning_linking.specs.declared.command_token.Keyword.{Keyword}
use Rattle.c25_meaning_linking.specs.declared.command_token.Keyword.TheVariants as keyword
use Rattle.c25_meaning_linking.specs.declared.command_token.Kind.{Kind}
use Rattle.c25_meaning_linking.specs.declared.command_token.Kind.TheVariants as kind
use Rattle.c25_meaning_linking.specs.declared.command_token.Lexeme.{Lexeme}
use Rattle.c25_meaning_linking.specs.declared.command_token.Lexeme.TheVariants as piece

-- ---- characters

-- the sign of a character: { } ( ) : , = > *
abbrev pub sign_of : ℕ → Option Sign
sign_of b =
    if b == 123 then Some sign.OpenBrace
    else (if b == 125 then Some sign.CloseBrace
    else (if b == 40 then Some sign.OpenParenthesis
    else (if b == 41 then Some sign.CloseParenthesis
    else (if b == 58 then Some sign.Colon
    else (if b == 44 then Some sign.Comma
    else (if b == 61 then Some sign.Equals
    else (if b == 62 then Some sign.Greater
    else (if b == 42 then Some sign.Star
    else None))))))))

-- a character of a name, a keyword or a number: 21h to 7Eh without the signs, `/` and `"`
abbrev pub is_word : ℕ → Bool
is_word b = nat_le 33 b && nat_le b 126 && not (is_some (sign_of b)) && not (b == 47 || b == 34)

-- ---- what stands at the front of a text

-- how many bytes a comment has after its `/*`, if it is closed
abbrev pub comment_len : List ℕ → Option ℕ
comment_len [] = None
comment_len (b ∷ rest) = if b == 42 && slice_index rest 0 == 47 then Some 2 else option_map (λ n. n + 1) (comment_len rest)

-- what stands at the front of a text that is not empty; a character that begins nothing else is a stray one
unfoldable pub lexeme : List ℕ → Lexeme
lexeme text =
    if is_space (slice_index text 0) then piece.Blank
    else (if is_word (slice_index text 0) then piece.Word (prefix_len is_word text)
    else (if slice_index text 0 == 47 && slice_index text 1 == 42
    then option_map_or (λ n. piece.Comment (n + 2)) (comment_len (drop 2 text)) piece.OpenComment
    else option_map_or piece.Sign (sign_of (slice_index text 0)) piece.Stray))

-- ---- names, keywords and numbers

-- a numeral: hexadecimal digits with `0x` before or `h` after them, else decimal digits
abbrev pub word_numeral : List ℕ → Numeral
word_numeral text =
    if slice_index text 0 == 48 && (slice_index text 1 == 120 || slice_index text 1 == 88) then record { base = 16; digits = drop 2 text }
    else (if slice_index text (length text - 1) == 104 || slice_index text (length text - 1) == 72
    then record { base = 16; digits = take (length text - 1) text }
    else record { base = 10; digits = text })

-- whether a numeral is valid: 1 to 19 digits, and no leading 0 in a decimal one
abbrev pub is_numeral : Numeral → Bool
is_numeral n = are_digits n.base n.digits && nat_lt (length n.digits) 20
    && not (n.base == 10 && slice_index n.digits 0 == 48 && nat_lt 1 (length n.digits))

-- a number, at most 4,294,967,295, which stands for any larger one; or a text that only begins as a number
abbrev pub number_kind : Numeral → Kind
number_kind n = if is_numeral n then kind.Number (min (value_in n.base n.digits) (2 ^ 32 - 1)) else kind.Malformed

-- the keyword of a spelling in lower case, if it is one
abbrev pub keyword_of : List ℕ → Option Keyword
keyword_of lower =
    if bytes_eq lower (codes "memory") then Some keyword.Memory
    else (if bytes_eq lower (codes "sections") then Some keyword.Sections
    else (if bytes_eq lower (codes "page") then Some keyword.Page
    else (if bytes_eq lower (codes "origin") || bytes_eq lower (codes "org") || bytes_eq lower (codes "o") then Some keyword.Origin
    else (if bytes_eq lower (codes "length") || bytes_eq lower (codes "len") || bytes_eq lower (codes "l") then Some keyword.Length
    else (if bytes_eq lower (codes "load") then Some keyword.Load
    else (if bytes_eq lower (codes "run") then Some keyword.Run
    else None))))))

-- the kind of a run of characters: a number if it begins with a digit, else a keyword, read in either case,
-- or else a name
unfoldable pub word_kind : List ℕ → Kind
word_kind text =
    if nat_lt (digit (slice_index text 0)) 10 then number_kind (word_numeral text)
    else option_map_or kind.Keyword (keyword_of (map to_ascii_lowercase text)) kind.Name

-- ---- tokens

-- a token: its kind, the byte where it begins, and its text if it is a name, a keyword or a number
pub record Token : Type 0 where
  pub kind : Kind
  pub place : ℕ
  pub text : List ℕ

-- the token for the end of the text
abbrev pub end_at : ℕ → Token
end_at place = record { kind = kind.End; place = place; text = [] }

-- the tokens with that of a lexeme before them; a comment that is not closed is a stray token at the end of
-- the text
abbrev pub before : Lexeme → ℕ → List ℕ → List Token → List Token
before (piece.Word n) at text later = record { kind = word_kind (take n text); place = at; text = take n text } ∷ later
before (piece.Sign s) at text later = record { kind = kind.Sign s; place = at; text = [] } ∷ later
before piece.Stray at text later = record { kind = kind.Stray; place = at; text = [] } ∷ later
before piece.OpenComment at text later = record { kind = kind.Stray; place = at + length text; text = [] } ∷ later
before _ at text later = later

-- how many bytes after its first a lexeme covers; `text` is what comes after that byte
abbrev pub covered : Lexeme → List ℕ → ℕ
covered (piece.Word n) text = n - 1
covered (piece.Comment n) text = n - 1
covered piece.OpenComment text = length text
covered _ text = 0

-- the tokens of a text that begins at place `at`, where a lexeme before it still covers `skip` bytes; the
-- last token is the end
unfoldable pub scan : ℕ → ℕ → List ℕ → List Token
scan skip at [] = end_at at ∷ []
scan (suc skip) at (b ∷ rest) = scan skip (at + 1) rest
scan zero at (b ∷ rest) = before (lexeme (b ∷ rest)) at (b ∷ rest) (scan (covered (lexeme (b ∷ rest)) rest) (at + 1) rest)

-- the tokens of a text
abbrev pub tokens : List ℕ → List Token
tokens text = scan 0 0 text

-- the line of a place, counted from 1; the end of the text is on its last line, which is 0 in an empty text
abbrev pub line_at : List ℕ → ℕ → ℕ
line_at text place = min (count_by (λ b. b == 10) (take place text) + 1) (length (lines text))
