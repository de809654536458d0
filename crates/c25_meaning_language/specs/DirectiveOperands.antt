-- The operands of directives, as expansion and the assembler both read them, or their first fault of 10 to
-- 13, 20, 21 and 52 (SPRU018, assembler directives).
use Rattle.std.specs.Prelude.{ℕ, Bool, true, false, List, [], ◌∷◌, map, if◌then◌else◌, Result, Ok, Err}
use Rattle.c25_meaning_language.specs.Line.{Piece, Parts, line_of}
use Rattle.c25_meaning_language.specs.Operands.{written_of, is_quoted, line_fault}
use Rattle.c25_meaning_language.specs.Tree.{Tree, mark_of}
use Rattle.c25_meaning_language.specs.Reading.{tree_in}
use Rattle.c25_meaning_common.specs.Results.{◌>>=◌, told}
use Rattle.c25_meaning_language.specs.Statement.{expression_fault}
use Rattle.c25_meaning_language.specs.Forms.{is_expression}
use Rattle.c25_meaning_language.specs.Arguments.{string_text}
use Rattle.c25_meaning_language.specs.declared.line.TokenKind.{TokenKind}
use Rattle.c25_meaning_language.specs.declared.line.TokenKind.TheVariants as kind
use Rattle.c25_meaning_language.specs.declared.statement.FaultKind.{FaultKind}
use Rattle.c25_meaning_language.specs.declared.statement.FaultKind.TheVariants as fault

-- the tree of an operand that must be an expression
abbrev pub expression_in : List Piece → Result Tree FaultKind
expression_in operand =
    if is_expression (written_of operand) then told expression_fault (tree_in (map mark_of operand)) else Err fault.OperandForm

-- whether a token is a name
abbrev pub is_name : TokenKind → Bool
is_name kind.Name = true
is_name _ = false

-- the text of an operand that must be one name
abbrev pub name_in : List Piece → Result (List ℕ) FaultKind
name_in (p ∷ []) = if is_name p.kind then Ok p.text else Err fault.OperandForm
name_in _ = Err fault.OperandForm

-- what the string says in an operand that must be one string
abbrev pub string_in : List Piece → Result (List ℕ) FaultKind
string_in (p ∷ []) = if is_quoted p.kind then Ok (string_text p.text) else Err fault.OperandForm
string_in _ = Err fault.OperandForm

-- the texts of operands that must each be one name
abbrev pub names_in : List (List Piece) → Result (List (List ℕ)) FaultKind
names_in [] = Ok []
names_in (o ∷ os) = name_in o >>= λ name. names_in os >>= λ names. Ok (name ∷ names)

-- the parts of a line, or its first fault of 10 to 13
abbrev pub parts_in : List ℕ → Result Parts FaultKind
parts_in text = told line_fault (line_of text)
