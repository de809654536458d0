-- The arguments of macro calls and the texts of `.asg` (SPRU018, macro language: macro parameters, passing commas and
-- semicolons; .asg). Which quotes are taken off is this project's own.
use Rattle.std.specs.Prelude.{ℕ, ◌+◌, ◌-◌, ◌==◌, Bool, true, false, ◌&&◌, if◌then◌else◌, List, [], ◌∷◌, length, take, drop, slice_index}
use Rattle.std.specs.List.{prefix_len, suffix_len}
use Rattle.std.specs.Option.{option_map_or}
use Rattle.c25_meaning_common.specs.Bytes.{is_blank}
use Rattle.c25_meaning_language.specs.Lexeme.{quoted_len}
use Rattle.c25_meaning_language.specs.Line.{word_end}
use Rattle.c25_meaning_language.specs.Quoting.{outer_len, last_comma_len}
use Rattle.c25_meaning_language.specs.declared.quoting.Quoting.TheVariants.{Outside}

-- the text without the blanks and tabs at its front
abbrev pub trimmed_start : List ℕ → List ℕ
trimmed_start text = drop (prefix_len is_blank text) text

-- the text without the blanks and tabs at its end
abbrev pub trimmed_end : List ℕ → List ℕ
trimmed_end text = take (length text - suffix_len is_blank text) text

-- the text without the blanks and tabs at both ends
abbrev pub trimmed : List ℕ → List ℕ
trimmed text = trimmed_end (trimmed_start text)

-- the text with each pair of double quotes made one; `again` says that the byte before was a quote that was
-- kept
unfoldable pub folded : Bool → List ℕ → List ℕ
folded again [] = []
folded again (b ∷ rest) = if again && b == 34 then folded false rest else b ∷ folded (b == 34) rest

-- the text without a double quote at its front
abbrev pub past_quote : List ℕ → List ℕ
past_quote text = if slice_index text 0 == 34 then drop 1 text else text

-- the text without a double quote at its end
abbrev pub before_quote : List ℕ → List ℕ
before_quote text = if slice_index text (length text - 1) == 34 then take (length text - 1) text else text

-- what a string token says: without its outer quotes, and with each pair of quotes in it made one
abbrev pub string_text : List ℕ → List ℕ
string_text token = folded false (before_quote (past_quote token))

-- whether a text is exactly one string: the string that its first quote opens ends at the end of the text
abbrev pub is_one_string : List ℕ → Bool
is_one_string text = slice_index text 0 == 34 && option_map_or (λ n. n == length text - 1) (quoted_len true (drop 1 text)) false

-- the text of an argument or of `.asg`: trimmed, and if it is exactly one string, what that string says
abbrev pub unquoted : List ℕ → List ℕ
unquoted text = if is_one_string (trimmed text) then string_text (trimmed text) else trimmed text

-- the operand field of a line: the text after the mnemonic field, up to the comment
abbrev pub operand_text : List ℕ → List ℕ
operand_text line = take (outer_len 59 Outside (drop (word_end line) line)) (drop (word_end line) line)

-- how many bytes the next argument has: those before the first comma outside quotes; the last argument has
-- all that are left
abbrev pub argument_len : Bool → List ℕ → ℕ
argument_len is_last text = if is_last then length text else outer_len 44 Outside text

-- the parameters with their arguments; a missing argument is empty
unfoldable pub bound : List (List ℕ) → List ℕ → List (List ℕ × List ℕ)
bound [] text = []
bound (p ∷ ps) text =
    (p, unquoted (take (argument_len (length ps == 0) text) text)) ∷ bound ps (drop (argument_len (length ps == 0) text + 1) text)

-- the parameters of a macro with the arguments in the line that calls it
abbrev pub arguments : List (List ℕ) → List ℕ → List (List ℕ × List ℕ)
arguments parameters line = bound parameters (operand_text line)

-- the text of a line `.asg text,name`
abbrev pub assigned_text : List ℕ → List ℕ
assigned_text line = unquoted (take (last_comma_len (operand_text line)) (operand_text line))
