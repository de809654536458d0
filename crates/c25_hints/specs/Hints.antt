-- The remark on a line that is refused.
use Rattle.std.specs.Prelude.{ℕ, List, Option, None, Result, Ok, Err}
use Rattle.std.specs.Option.{option_or}
use Rattle.c25_meaning_assembly.specs.AssemblyLine.{directive_in}
use Rattle.c25_meaning_assembly.specs.declared.assembly.Directive.{Directive}
use Rattle.c25_meaning_language.specs.Line.{Parts, first_word, line_of}
use Rattle.c25_meaning_language.specs.Operands.{operands_of}
use Rattle.c25_meaning_language.specs.Value.{Table}
use Rattle.c25_meaning_language.specs.declared.line.LineFault.{LineFault}
use Rattle.c25_meaning_language.specs.declared.statement.FaultKind.{FaultKind}
use Rattle.c25_meaning_language.specs.declared.statement.FaultKind.TheVariants as fault
use Rattle.c25_hints.specs.Defined.{of_defined}
use Rattle.c25_hints.specs.Operands as operands
use Rattle.c25_hints.specs.Remark.{Remark}
use Rattle.c25_hints.specs.Texts.{of_text}
use Rattle.c25_hints.specs.Values as values
use Rattle.c25_hints.specs.Words.{of_float, of_word}

-- the remark on a line in parts, with this directive, that its statement is refused with this fault
abbrev pub of_parts : FaultKind → Option Directive → Parts → Option Remark
of_parts fault.UnknownMnemonic d p = of_word p.label p.word p.pieces
of_parts fault.BadExpression d p = operands.refused_in p.word (operands_of p.pieces)
of_parts fault.OperandCount d p = operands.counted p.word p.pieces
of_parts fault.OperandForm d p = operands.formed d p.word p.pieces
of_parts _ d p = None

-- the same of a line that may have no parts, as the fault of a text leaves it
abbrev pub of_statement : FaultKind → Option Directive → Result Parts LineFault → Option Remark
of_statement kind d (Err f) = None
of_statement kind d (Ok parts) = of_parts kind d parts

-- the remark on a line of which a constant or a character is refused
abbrev pub of_number : List ℕ → FaultKind → Option Remark
of_number text kind = option_or (of_float text) (of_text text kind)

-- the remark on a line that is refused with this fault under these symbols
abbrev pub remark_on : List ℕ → FaultKind → Table → Option Remark
remark_on text fault.BadLabel table = of_text text fault.BadLabel
remark_on text fault.BadConstant table = of_number text fault.BadConstant
remark_on text fault.OpenQuote table = of_text text fault.OpenQuote
remark_on text fault.StrayText table = of_number text fault.StrayText
remark_on text fault.Undefined table = values.undefined text table
remark_on text fault.Defined table = of_defined text table
remark_on text fault.FieldRange table = values.out_of_range text table
remark_on text fault.NotRelocatable table = values.relocated text table
remark_on text kind table = of_statement kind (directive_in (first_word text)) (line_of text)
