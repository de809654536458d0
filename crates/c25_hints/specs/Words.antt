-- Remarks on a word that is no mnemonic, directive or macro (50).
use Rattle.std.specs.Prelude.{ℕ, Bool, true, false, ◌&&◌, if◌then◌else◌, List, [], ◌∷◌, slice_index, Option, Some, None, is_ok, is_some}
use Rattle.std.specs.Option.{option_map, option_and_then, option_or}
use Rattle.c25_meaning_assembly.specs.StatementLine.{operation_of, spelled}
use Rattle.c25_meaning_common.specs.Bytes.{begins_name}
use Rattle.c25_meaning_common.specs.Results.{◌>>=◌}
use Rattle.c25_meaning_language.specs.Line.{Piece, Part, first_word}
use Rattle.c25_meaning_language.specs.Operands.{operands_of}
use Rattle.c25_meaning_language.specs.declared.line.TokenKind.{TokenKind}
use Rattle.c25_meaning_language.specs.declared.line.TokenKind.TheVariants as kind
use Rattle.c25_hints.specs.Remark.{Remark, about}
use Rattle.c25_hints.specs.Tables.{directive_forms, instead, is_without_dot, of_floats, text_in}
use Rattle.c25_hints.specs.Values.{same_letters}
use Rattle.c25_hints.specs.declared.cause.Cause.TheVariants as cause

-- whether a word is a mnemonic, in either case
abbrev pub is_mnemonic : List ℕ → Bool
is_mnemonic word = is_ok (spelled word)

-- whether a word begins as names do
abbrev pub is_name : List ℕ → Bool
is_name word = begins_name (slice_index word 0)

-- a mnemonic in column 1, where it is a label
abbrev pub of_label : Option (List ℕ) → Option Remark
of_label None = None
of_label (Some label) = if is_mnemonic label then Some (about cause.MnemonicAsLabel label) else None

-- whether a word and the tokens after it are an instruction: the word is a mnemonic that takes them for its operands
abbrev pub is_instruction : List ℕ → List Piece → Bool
is_instruction word operands = is_ok (spelled word >>= λ s. operation_of s (operands_of operands))

-- whether a token and those after it are a statement: an instruction, or what begins with a dot as a directive does
abbrev pub is_statement : TokenKind → List ℕ → List Piece → Bool
is_statement kind.DottedName text after = true
is_statement kind.Name text after = is_instruction text after
is_statement _ text after = false

-- a name with a statement after it: a label that does not begin in column 1
abbrev pub of_statement : List ℕ → List Piece → Option Remark
of_statement word [] = None
of_statement word (p ∷ ps) =
    if is_name word && is_statement p.kind p.text ps then Some (about cause.LabelAsMnemonic word) else None

-- a word of another assembler, with what is written here
abbrev pub of_other : List ℕ → Option Remark
of_other word = option_map (λ text. record { cause = cause.Instead; word = word; more = text }) (text_in instead word)

-- the same, where the word is a directive of fractions
abbrev pub of_floating : List ℕ → Option Remark
of_floating word = if is_some (same_letters of_floats word) then of_other word else None

-- the remark on a line of which a constant or a character is refused, where the word of the line is a directive of
-- fractions: what is written in its place
abbrev pub of_float : List ℕ → Option Remark
of_float text = option_and_then of_floating (first_word text)

-- whether there are operands
abbrev pub has_some : List Piece → Bool
has_some [] = false
has_some (p ∷ ps) = true

-- a directive without its dot, by whether operands follow
abbrev pub of_directive : Bool → List ℕ → Option Remark
of_directive operands word = if is_without_dot directive_forms operands word then Some (about cause.DirectiveWithoutDot word) else None

-- the first of these remarks on a word that there is
abbrev pub of_text : Option (List ℕ) → List ℕ → List Piece → Option Remark
of_text label word pieces =
    option_or (option_or (option_or (of_label label) (of_statement word pieces)) (of_other word)) (of_directive (has_some pieces) word)

-- the remark on the mnemonic field
abbrev pub of_word : Option (List ℕ) → Option Part → List Piece → Option Remark
of_word label None pieces = None
of_word label (Some word) pieces = of_text label word.text pieces
