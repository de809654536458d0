-- An instruction statement as a form with the trees of its operands (SPRU018, source statement format).
use Rattle.std.specs.Prelude.{ℕ, Bool, true, false, List, [], ◌∷◌, map, ◌++◌, Result, Ok, Err, if◌then◌else◌}
use Rattle.std.specs.Option.{ok_or}
use Rattle.c25_meaning_language.specs.Line.{Piece}
use Rattle.c25_meaning_language.specs.Tree.{Tree, mark_of}
use Rattle.c25_meaning_language.specs.Reading.{tree_in}
use Rattle.c25_meaning_instructions.specs.Spellings.{spelling_of}
use Rattle.c25_meaning_language.specs.Operands.{written_of}
use Rattle.c25_meaning_common.specs.Results.{◌>>=◌, fold_ok}
use Rattle.c25_meaning_language.specs.Forms.{form_of, is_expression}
use Rattle.c25_meaning_language.specs.declared.expression.ExpressionFault.{ExpressionFault}
use Rattle.c25_meaning_language.specs.declared.expression.ExpressionFault.TheVariants as expression
use Rattle.c25_meaning_instructions.specs.declared.mnemonic.Spelling.{Spelling}
use Rattle.c25_meaning_language.specs.declared.statement.Form.{Form}
use Rattle.c25_meaning_language.specs.declared.statement.FaultKind.{FaultKind}
use Rattle.c25_meaning_language.specs.declared.statement.FaultKind.TheVariants as fault

-- an instruction as it is written: its form, and the tree of each operand that is an expression
pub record Operation : Type 0 where
  pub form : Form
  pub trees : List Tree

-- ---- expressions

-- the trees of the operands so far, and whether one of them was too deep
pub record Trees : Type 0 where
  pub trees : List Tree
  pub deep : Bool

-- no trees: before the first operand
abbrev pub no_trees : Trees
no_trees = record { trees = []; deep = false }

-- the trees with one more: a fault 20 is reported at once, a fault 21 only after all operands
abbrev pub with_tree : Trees → Result Tree ExpressionFault → Result Trees FaultKind
with_tree s (Ok e) = Ok (record s { trees = s.trees ++ e ∷ [] })
with_tree s (Err expression.TooDeep) = Ok (record s { deep = true })
with_tree s (Err expression.BadExpression) = Err fault.BadExpression

-- the trees with that of one more operand, if it is an expression
unfoldable pub with_operand : Trees → List Piece → Result Trees FaultKind
with_operand s ps = if is_expression (written_of ps) then with_tree s (tree_in (map mark_of ps)) else Ok s

-- the trees of all operands, if none is too deep
abbrev pub all_trees : Trees → Result (List Tree) FaultKind
all_trees s = if s.deep then Err fault.TooDeep else Ok s.trees

-- the trees of the operands that are expressions; 20 of any operand is reported before 21
abbrev pub trees_in : List (List Piece) → Result (List Tree) FaultKind
trees_in operands = fold_ok with_operand no_trees operands >>= λ s. all_trees s

-- ---- instructions

-- the mnemonic of a line, or UnknownMnemonic
abbrev pub spelled : List ℕ → Result Spelling FaultKind
spelled word = ok_or (spelling_of word) fault.UnknownMnemonic

-- the instruction of this mnemonic and these operands
unfoldable pub operation_of : Spelling → List (List Piece) → Result Operation FaultKind
operation_of s operands =
    form_of s (map written_of operands) >>= λ f. trees_in operands >>= λ es. Ok (record { form = f; trees = es })
