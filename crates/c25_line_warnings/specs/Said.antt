-- What a line says, as far as warnings need it.
use Rattle.std.specs.Prelude.{ℕ, Bool, List, [], ◌∷◌, Option, Some, None, Result, Ok, Err, if◌then◌else◌}
use Rattle.std.specs.List.{list_any}
use Rattle.c25_meaning_instructions.specs.Spellings.{spelling_of}
use Rattle.c25_meaning_instructions.specs.declared.mnemonic.Spelling.{Spelling}
use Rattle.c25_meaning_language.specs.DirectiveOperands.{is_name}
use Rattle.c25_meaning_language.specs.Forms.{is_expression}
use Rattle.c25_meaning_language.specs.Line.{Piece, Parts, first_word, is_comment_line, label_in, line_of}
use Rattle.c25_meaning_language.specs.Operands.{operands_of, written_of}
use Rattle.c25_meaning_language.specs.declared.line.LineFault.{LineFault}

-- the label, or none where the field in column 1 is no label
abbrev pub label_by : Result (Option (List ℕ)) LineFault → Option (List ℕ)
label_by (Ok label) = label
label_by (Err f) = None

-- the label of a line
unfoldable pub label_of : List ℕ → Option (List ℕ)
label_of text = if is_comment_line text then None else label_by (label_in text)

-- the instruction that a word spells
abbrev pub spelling_by : Option (List ℕ) → Option Spelling
spelling_by None = None
spelling_by (Some word) = spelling_of word

-- the instruction that a line spells
unfoldable pub spelling_in : List ℕ → Option Spelling
spelling_in text = spelling_by (first_word text)

-- the tokens of a line's operands, or none of a line that has a fault
abbrev pub pieces_by : Result Parts LineFault → List Piece
pieces_by (Ok parts) = parts.pieces
pieces_by (Err f) = []

-- the tokens of a line's operands
unfoldable pub pieces_in : List ℕ → List Piece
pieces_in text = pieces_by (line_of text)

-- the operands of a line
abbrev pub operands_in : List ℕ → List (List Piece)
operands_in text = operands_of (pieces_in text)

-- whether a name is among tokens
abbrev pub any_name : List Piece → Bool
any_name ps = list_any (λ p. is_name p.kind) ps

-- the name among tokens, where there is just one
abbrev pub only_from : List Piece → Option (List ℕ)
only_from [] = None
only_from (p ∷ ps) = if is_name p.kind then (if any_name ps then None else Some p.text) else only_from ps

-- the name in an operand that is an expression with no other name
unfoldable pub only_name : List Piece → Option (List ℕ)
only_name operand = if is_expression (written_of operand) then only_from operand else None
