-- The value of a text as an expression of the assembler (SPRU018, "Expressions") over names that stand for addresses.
use Rattle.std.specs.Prelude.{ℕ, ◌-◌, List, ◌++◌, codes, Option, Result, Ok, Err, ℤ, pos, negsuc, nat_lt, if◌then◌else◌}
use Rattle.c25_meaning_common.specs.Results.{◌>>=◌, told}
use Rattle.c25_meaning_language.specs.DirectiveOperands.{expression_in}
use Rattle.c25_meaning_language.specs.Line.{Parts, Piece, line_of}
use Rattle.c25_meaning_language.specs.Tree.{Tree}
use Rattle.c25_meaning_language.specs.Value.{Table, value_named, value_of}
use Rattle.c25_meaning_language.specs.declared.value.Value.{Value}
use Rattle.c25_meaning_language.specs.declared.value.ValueFault.{ValueFault}
use Rattle.c25_meaning_language.specs.declared.value.ValueFault.TheVariants as value
use Rattle.c25_named_values.specs.Known.{absolute, value_at}
use Rattle.c25_named_values.specs.declared.no_value.NoValue.{NoValue}
use Rattle.c25_named_values.specs.declared.no_value.NoValue.TheVariants.{NoExpression, NoName, DivideByZero, TooLarge}

-- why an expression has no value
abbrev pub no_value : ValueFault → NoValue
no_value value.Undefined = NoName
no_value value.NotAbsolute = NoExpression
no_value value.DivideByZero = DivideByZero
no_value value.ValueRange = TooLarge

-- the 16 bits of a number from -32768 to 65535
abbrev pub word_of : ℤ → Result ℕ NoValue
word_of (pos n) = if nat_lt n 65536 then Ok n else Err TooLarge
word_of (negsuc n) = if nat_lt n 32768 then Ok (65535 - n) else Err TooLarge

-- the tokens of the operands of a line
abbrev pub pieces_in : List ℕ → Result (List Piece) NoValue
pieces_in line = told (λ fault. NoExpression) (line_of line) >>= λ (parts : Parts). Ok parts.pieces

-- the tree that tokens form
abbrev pub tree_in : List Piece → Result Tree NoValue
tree_in pieces = told (λ fault. NoExpression) (expression_in pieces)

-- the value of a tree over names, with the value of `$`, in 16 bits
abbrev pub value_over : (names : List ℕ → Option Value) → (here : Value) → Tree → Result ℕ NoValue
value_over names here tree = told no_value (value_of names here tree) >>= λ (v : Value). word_of v.offset

-- the value of a tree under a table of symbols
abbrev pub tree_value : Table → Tree → Result ℕ NoValue
tree_value table tree = value_over (value_named table) table.here tree

-- the value of the expression that tokens form, over names that stand for addresses
abbrev pub pieces_value : (addresses : List ℕ → Option ℕ) → (here : ℕ) → List Piece → Result ℕ NoValue
pieces_value addresses here pieces = tree_in pieces >>= λ (tree : Tree). value_over (value_at addresses) (absolute here) tree

-- the value of a text, which is read as the operand of a statement
abbrev pub text_value : (addresses : List ℕ → Option ℕ) → (here : ℕ) → List ℕ → Result ℕ NoValue
text_value addresses here text = pieces_in (codes " print " ++ text) >>= λ pieces. pieces_value addresses here pieces
