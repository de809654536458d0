-- What each operand of a line has to be (SPRU014, instruction set; SPRU018, assembler directives), and the
-- fault of one that is something else.
use Rattle.std.specs.Prelude.{ℕ, ◌==◌, ◌&&◌, not, Bool, true, false, if◌then◌else◌, is_ok, List, map, Result, Ok, Err}
use Rattle.c25_meaning_assembly.specs.AssemblyLine.{section_in}
use Rattle.c25_meaning_assembly.specs.declared.assembly.Directive.{Directive}
use Rattle.c25_meaning_assembly.specs.declared.assembly.Directive.TheVariants as directive
use Rattle.c25_meaning_instructions.specs.declared.mnemonic.Mnemonic.{Mnemonic}
use Rattle.c25_meaning_instructions.specs.declared.mnemonic.Mnemonic.TheVariants as family
use Rattle.c25_meaning_instructions.specs.declared.mnemonic.PlainName.{PlainName}
use Rattle.c25_meaning_instructions.specs.declared.mnemonic.PlainName.TheVariants as plain
use Rattle.c25_meaning_instructions.specs.declared.mnemonic.Spelling.{Spelling}
use Rattle.c25_meaning_instructions.specs.declared.mnemonic.Spelling.TheVariants as spelling
use Rattle.c25_meaning_language.specs.DirectiveOperands.{name_in}
use Rattle.c25_meaning_language.specs.Forms.{is_expression}
use Rattle.c25_meaning_language.specs.Line.{Piece}
use Rattle.c25_meaning_language.specs.Operands.{is_string, written_of}
use Rattle.c25_meaning_language.specs.Reading.{tree_in}
use Rattle.c25_meaning_language.specs.Tree.{Tree, mark_of}
use Rattle.c25_meaning_language.specs.declared.expression.ExpressionFault.{ExpressionFault}
use Rattle.c25_meaning_language.specs.declared.expression.ExpressionFault.TheVariants.{BadExpression, TooDeep}
use Rattle.c25_meaning_language.specs.declared.statement.FaultKind.{FaultKind}
use Rattle.c25_meaning_language.specs.declared.statement.FaultKind.TheVariants as fault
use Rattle.c25_meaning_language.specs.declared.statement.Written.{Written}
use Rattle.c25_meaning_language.specs.declared.statement.Written.TheVariants as written
use Rattle.c25_places.specs.declared.wanted.Operation.{Operation}
use Rattle.c25_places.specs.declared.wanted.Operation.TheVariants.{Does, Runs}
use Rattle.c25_places.specs.declared.wanted.Wanted.{Wanted}
use Rattle.c25_places.specs.declared.wanted.Wanted.TheVariants as wanted

-- ---- what an operand has to be, by its index from 0

-- this at one index, an expression at all others
abbrev pub only_at : ℕ → Wanted → ℕ → Wanted
only_at place what k = if k == place then what else wanted.Expression

-- the operands of a directive; those of a directive that takes none are refused for their number
abbrev pub directive_wants : Directive → ℕ → Wanted
directive_wants directive.Sect k = wanted.Section
directive_wants directive.Bss k = only_at 0 wanted.Name k
directive_wants directive.Usect k = only_at 0 wanted.Section k
directive_wants directive.Characters k = wanted.Text
directive_wants directive.Global k = wanted.Name
directive_wants directive.Def k = wanted.Name
directive_wants directive.Label k = wanted.Name
directive_wants _ k = wanted.Expression

-- the operands of a plain instruction: that of NORM is a change of an auxiliary register
abbrev pub plain_wants : PlainName → ℕ → Wanted
plain_wants plain.Norm k = only_at 0 wanted.Change k
plain_wants _ k = wanted.Expression

-- the operands of an instruction by its row of the opcode table
abbrev pub row_wants : Mnemonic → ℕ → Wanted
row_wants (family.Mem name) k = only_at 0 wanted.Memory k
row_wants (family.Shifted name) k = only_at 0 wanted.Memory k
row_wants (family.ArMem name) k = only_at 1 wanted.Memory k
row_wants (family.Port name) k = only_at 0 wanted.Memory k
row_wants (family.Bit name) k = only_at 0 wanted.Memory k
row_wants (family.LongMem name) k = only_at 1 wanted.Memory k
row_wants (family.Jump name) k = only_at 1 wanted.Change k
row_wants (family.Plain name) k = plain_wants name k
row_wants _ k = wanted.Expression

-- the operands of an instruction by its mnemonic
abbrev pub spelling_wants : Spelling → ℕ → Wanted
spelling_wants (spelling.Row mnemonic) k = row_wants mnemonic k
spelling_wants _ k = wanted.Expression

-- the operands of a line
abbrev pub wants : Operation → ℕ → Wanted
wants (Does d) k = directive_wants d k
wants (Runs s) k = spelling_wants s k

-- ---- the fault of an operand

-- whether an operand is written as one of the indirect forms
abbrev pub is_indirect : Written → Bool
is_indirect (written.Indirect change) = true
is_indirect _ = false

-- whether an operand is written as a string
abbrev pub is_quoted : Written → Bool
is_quoted written.Quoted = true
is_quoted _ = false

-- whether an operand is written as what it has to be
abbrev pub suits : Wanted → List Piece → Bool
suits wanted.Expression operand = is_expression (written_of operand)
suits wanted.Memory operand = not (is_quoted (written_of operand))
suits wanted.Change operand = is_indirect (written_of operand)
suits wanted.Name operand = is_ok (name_in operand)
suits wanted.Text operand = is_string operand
suits wanted.Section operand = is_ok (section_in operand)

-- whether an expression may stand in an operand's place
abbrev pub takes_expression : Wanted → Bool
takes_expression wanted.Expression = true
takes_expression wanted.Memory = true
takes_expression _ = false

-- whether this is the fault of an expression
abbrev pub fails_by : ExpressionFault → Result Tree ExpressionFault → Bool
fails_by f (Ok e) = false
fails_by BadExpression (Err BadExpression) = true
fails_by TooDeep (Err TooDeep) = true
fails_by _ _ = false

-- whether an operand that has to be an expression, or may be one, is written as one and has this fault
abbrev pub expression_fails : ExpressionFault → Wanted → List Piece → Bool
expression_fails f what operand =
    takes_expression what && is_expression (written_of operand) && fails_by f (tree_in (map mark_of operand))

-- whether an operand has this fault of 52, 20 and 21 by itself
unfoldable pub has_fault : FaultKind → Wanted → List Piece → Bool
has_fault fault.OperandForm what operand = not (suits what operand)
has_fault fault.BadExpression what operand = expression_fails BadExpression what operand
has_fault fault.TooDeep what operand = expression_fails TooDeep what operand
has_fault _ what operand = false
