-- The direct operands of sources that are numbers from 128 on. The low seven bits of such a number reach the word of its instruction,
-- and the page that is meant can be read off it; of a number below 128 nothing says which page is meant.
use Rattle.std.specs.Prelude.{ℕ, ◌+◌, List, [], ◌∷◌, ◌++◌, Option, Some, None, Result, Ok, Err, ℤ, pos, int_lt, nat_lt, if◌then◌else◌}
use Rattle.std.specs.List.{flat_map}
use Rattle.c25_bits.specs.Cut.{cut}
use Rattle.c25_line_warnings.specs.SourceLine.{SourceLine}
use Rattle.c25_meaning_assembly.specs.AssemblyLine.{AssemblyAct, Put, Statement, read_statement}
use Rattle.c25_meaning_assembly.specs.Emission.{all_names, table_at}
use Rattle.c25_meaning_assembly.specs.Sections.{Definitions}
use Rattle.c25_meaning_assembly.specs.declared.assembly.Target.TheVariants as target
use Rattle.c25_meaning_expansion.specs.Files.{Files}
use Rattle.c25_meaning_language.specs.Statement.{form_field}
use Rattle.c25_meaning_language.specs.Tree.{Tree}
use Rattle.c25_meaning_language.specs.Value.{Table, value_named, value_of}
use Rattle.c25_meaning_language.specs.declared.statement.FaultKind.{FaultKind}
use Rattle.c25_meaning_language.specs.declared.statement.Field.{Field}
use Rattle.c25_meaning_language.specs.declared.statement.Field.TheVariants as field
use Rattle.c25_meaning_language.specs.declared.statement.Form.{Form}
use Rattle.c25_meaning_language.specs.declared.value.Base.{Base}
use Rattle.c25_meaning_language.specs.declared.value.Base.TheVariants.{Absolute}
use Rattle.c25_meaning_language.specs.declared.value.Value.{Value}
use Rattle.c25_meaning_language.specs.declared.value.ValueFault.{ValueFault}
use Rattle.c25_page_reports.specs.declared.operands.AbsoluteOperand.{AbsoluteOperand}
use Rattle.c25_warnings.specs.SourceLines.{SourceLines, source_lines}

-- the number that a value is, if it is absolute and 128 or more: the data address of a word
abbrev pub far_number : Base → ℤ → Option ℕ
far_number Absolute z = if int_lt z (pos 128) then None else Some (cut z 16)
far_number b z = None

-- the same of the value of an expression, if it has one
abbrev pub far_valued : Result Value ValueFault → Option ℕ
far_valued (Ok v) = far_number v.base v.offset
far_valued (Err f) = None

-- the number that an expression is, by a symbol table, if it fills the field of a direct address
abbrev pub far_direct : Table → Field → Tree → Option ℕ
far_direct table field.Low7 e = far_valued (value_of (value_named table) table.here e)
far_direct table f e = None

-- an absolute operand of a line in the module of a number, if there is one
abbrev pub operand_at : ℕ → SourceLine → Option ℕ → List AbsoluteOperand
operand_at number l None = []
operand_at number l (Some word) = record { number = number; section = l.section; offset = l.offset; word = word } ∷ []

-- the absolute operands among the expressions of an instruction, the first of which has the index `k`
abbrev pub operands_from : Table → ℕ → SourceLine → Form → ℕ → List Tree → List AbsoluteOperand
operands_from table number l f k [] = []
operands_from table number l f k (e ∷ es) = operand_at number l (far_direct table (form_field f k) e) ++ operands_from table number l f (k + 1) es

-- those of what a line asks for, which has them if it is an instruction
abbrev pub act_operands : Definitions → ℕ → SourceLine → AssemblyAct → List AbsoluteOperand
act_operands names number l (Put (target.Instruction f) trees) = operands_from (table_at names l.section l.offset) number l f 0 trees
act_operands names number l act = []

-- those of what a line says
abbrev pub statement_operands : Definitions → ℕ → SourceLine → Result Statement FaultKind → List AbsoluteOperand
statement_operands names number l (Ok s) = act_operands names number l s.act
statement_operands names number l (Err f) = []

-- those of a line, under all names of its module; an instruction begins at one of the first 65,536 offsets of its section
unfoldable pub line_operands : Definitions → ℕ → SourceLine → List AbsoluteOperand
line_operands names number l = if nat_lt 65535 l.offset then [] else statement_operands names number l (read_statement l.text)

-- those of the lines of a source, if none of them has a fault
abbrev pub operands_of_lines : ℕ → Option SourceLines → List AbsoluteOperand
operands_of_lines number None = []
operands_of_lines number (Some a) = flat_map (line_operands (all_names a.progress) number) a.lines

-- those of the sources of these names, whose modules are numbered from `number` on
abbrev pub operands_numbered : Files → ℕ → List (List ℕ) → List AbsoluteOperand
operands_numbered files number [] = []
operands_numbered files number (name ∷ names) = operands_of_lines number (source_lines files name) ++ operands_numbered files (number + 1) names

-- the absolute direct operands of the sources of these names, from 128 on, in the order of their lines after expansion
abbrev pub absolute_operands : Files → List (List ℕ) → List AbsoluteOperand
absolute_operands files names = operands_numbered files 0 names
