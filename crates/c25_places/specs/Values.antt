-- The operand of a line whose value is refused (22 to 25, 53, 55), or the name that it defines (26), with the symbols of the moment at which the
-- value is needed: those so far for counts, flags and the values of names, all symbols for fields and words.
use Rattle.std.specs.Prelude.{ℕ, ◌+◌, ◌==◌, ◌&&◌, Bool, false, if◌then◌else◌, is_none, find, List, [], ◌∷◌, map, Option, Some, None, Result, Ok, Err, ℤ, pos, negsuc, ◌-ℤ◌}
use Rattle.std.specs.Option.{option_map, option_and_then, option_or}
use Rattle.c25_meaning_assembly.specs.AssemblyLine.{directive_in}
use Rattle.c25_meaning_assembly.specs.OperandFields.{field_of}
use Rattle.c25_meaning_assembly.specs.Sections.{count_of, flag_of}
use Rattle.c25_meaning_assembly.specs.StatementLine as statement
use Rattle.c25_meaning_assembly.specs.declared.assembly.DataWidth.TheVariants as width
use Rattle.c25_meaning_assembly.specs.declared.assembly.Directive.{Directive}
use Rattle.c25_meaning_assembly.specs.declared.assembly.Directive.TheVariants as directive
use Rattle.c25_meaning_assembly.specs.declared.assembly.Target.TheVariants as target
use Rattle.c25_meaning_common.specs.Results.{◌>>=◌}
use Rattle.c25_meaning_common.specs.declared.relocation.RelocationKind.{RelocationKind}
use Rattle.c25_meaning_language.specs.DirectiveOperands.{is_name}
use Rattle.c25_meaning_language.specs.Faults.{fault_number}
use Rattle.c25_meaning_language.specs.Forms.{is_expression}
use Rattle.c25_meaning_language.specs.Line.{Parts, Piece, first_word, line_of}
use Rattle.c25_meaning_language.specs.Operands.{operands_of, written_of}
use Rattle.c25_meaning_language.specs.Reading.{tree_in}
use Rattle.c25_meaning_language.specs.Statement.{number_in, relocation_of, valued}
use Rattle.c25_meaning_language.specs.Tree.{Tree, mark_of}
use Rattle.c25_meaning_language.specs.Value.{Table, value_named}
use Rattle.c25_meaning_language.specs.declared.expression.ExpressionFault.{ExpressionFault}
use Rattle.c25_meaning_language.specs.declared.line.LineFault.{LineFault}
use Rattle.c25_meaning_language.specs.declared.statement.FaultKind.{FaultKind}
use Rattle.c25_meaning_language.specs.declared.statement.FaultKind.TheVariants as fault
use Rattle.c25_meaning_language.specs.declared.statement.Field.{Field}
use Rattle.c25_meaning_language.specs.declared.statement.Field.TheVariants as field
use Rattle.c25_meaning_language.specs.declared.value.Base.{Base}
use Rattle.c25_meaning_language.specs.declared.value.Base.TheVariants as base
use Rattle.c25_meaning_language.specs.declared.value.Value.{Value}
use Rattle.c25_places.specs.Defined.{defined_part}
use Rattle.c25_places.specs.Refused.{operand_part, operation_in, piece_part}
use Rattle.c25_places.specs.Wanted.{takes_expression, wants}
use Rattle.c25_places.specs.declared.part.Part.{Part}
use Rattle.c25_places.specs.declared.value_parts.Misfit.{Misfit}
use Rattle.c25_places.specs.declared.value_parts.RefusedValue.{RefusedValue}
use Rattle.c25_places.specs.declared.values.Purpose.{Purpose}
use Rattle.c25_places.specs.declared.values.Purpose.TheVariants.{Fields, Room, Named}
use Rattle.c25_places.specs.declared.values.Role.{Role}
use Rattle.c25_places.specs.declared.values.Role.TheVariants.{Fills, Counts, Decides, Names}
use Rattle.c25_places.specs.declared.values.LineValues.{LineValues}
use Rattle.c25_places.specs.declared.wanted.Operation.{Operation}
use Rattle.c25_places.specs.declared.wanted.Operation.TheVariants.{Does, Runs}

-- ---- what values are for

-- what the value with index `j` of a line is for
abbrev pub role_of : Purpose → ℕ → Role
role_of (Fields t) j = Fills (field_of t j)
role_of Room j = if j == 0 then Counts else Decides
role_of Named j = Names

-- what the values of a directive are for
abbrev pub directive_purpose : Directive → Option Purpose
directive_purpose directive.Word = Some (Fields (target.Data width.Word))
directive_purpose directive.Byte = Some (Fields (target.Data width.Byte))
directive_purpose directive.Bss = Some Room
directive_purpose directive.Usect = Some Room
directive_purpose directive.Space = Some Room
directive_purpose directive.Set = Some Named
directive_purpose _ = None

-- what the values of an instruction are for: the fields of its form
abbrev pub form_purpose : Result statement.Operation FaultKind → Option Purpose
form_purpose (Err f) = None
form_purpose (Ok o) = Some (Fields (target.Instruction o.form))

-- what the values of a line are for
abbrev pub purpose_of : Operation → List (List Piece) → Option Purpose
purpose_of (Does d) operands = directive_purpose d
purpose_of (Runs s) operands = form_purpose (statement.operation_of s operands)

-- ---- whether a value serves

-- nothing, where a field takes an address; else NotRelocatable (55)
abbrev pub address_taken : Option RelocationKind → Result (Unit {0}) FaultKind
address_taken None = Err fault.NotRelocatable
address_taken (Some kind) = Ok tt

-- nothing, where a field takes a value
abbrev pub field_takes : Base → Field → ℤ → Result (Unit {0}) FaultKind
field_takes base.Absolute f z = number_in f z >>= λ n. Ok tt
field_takes _ f z = address_taken (relocation_of f)

-- nothing, where a value serves; else its fault
abbrev pub serves : Role → Value → Result (Unit {0}) FaultKind
serves (Fills f) v = field_takes v.base f v.offset
serves Counts v = count_of v >>= λ n. Ok tt
serves Decides v = flag_of v >>= λ b. Ok tt
serves Names v = Ok tt

-- nothing, where an expression has a value that serves, or is no expression; else the value's fault
abbrev pub tree_serves : Table → Role → Result Tree ExpressionFault → Result (Unit {0}) FaultKind
tree_serves table role (Err f) = Ok tt
tree_serves table role (Ok e) = valued table e >>= λ v. serves role v

-- `tree_serves` of an operand's tokens
abbrev pub operand_serves : Table → Role → List Piece → Result (Unit {0}) FaultKind
operand_serves table role operand = tree_serves table role (tree_in (map mark_of operand))

-- whether this is the fault
abbrev pub is_fault : FaultKind → Result (Unit {0}) FaultKind → Bool
is_fault kind (Ok x) = false
is_fault kind (Err e) = fault_number kind == fault_number e

-- ---- the operand

-- whether an operand has a value
abbrev pub has_value : Operation → ℕ → List Piece → Bool
has_value operation k operand = takes_expression (wants operation k) && is_expression (written_of operand)

-- an operand that is refused for its value: its index, what the value is for, and its tokens
pub record Found : Type 0 where
  pub index : ℕ
  pub role : Role
  pub operand : List Piece

-- the first operand from index `k` on, which has the value with index `j`, whose value has this fault
unfoldable pub first_found : FaultKind → Table → LineValues → ℕ → ℕ → List (List Piece) → Option Found
first_found kind table l k j [] = None
first_found kind table l k j (o ∷ os) =
    if has_value l.operation k o
    then (if is_fault kind (operand_serves table (role_of l.purpose j) o) then Some (record { index = k; role = role_of l.purpose j; operand = o })
    else first_found kind table l (k + 1) (j + 1) os)
    else first_found kind table l (k + 1) j os

-- ---- what is reported of it

-- the first name of an operand that stands for nothing
abbrev pub undefined_in : Table → List Piece → Option Piece
undefined_in table operand = find (λ p. is_name p.kind && is_none (value_named table p.text)) operand

-- the least and the largest number that a field takes; a word takes any
abbrev pub range_of : Field → Option (ℤ × ℤ)
range_of field.Low7 = Some (pos 0, pos 65535)
range_of field.Page9 = Some (pos 0, pos 511)
range_of field.Word16 = Some (negsuc 32767, pos 65535)
range_of (field.Number limit) = Some (pos 0, pos limit -ℤ pos 1)
range_of field.Signed13 = Some (negsuc 4095, pos 4095)
range_of field.Word = None
range_of field.Byte = Some (negsuc 127, pos 255)

-- the value of an expression, if it has one
abbrev pub some_value : Result Value FaultKind → Option Value
some_value (Err f) = None
some_value (Ok v) = Some v

-- the value of an operand's tokens, if they have one
abbrev pub value_of : Table → Result Tree ExpressionFault → Option Value
value_of table (Err f) = None
value_of table (Ok e) = some_value (valued table e)

-- the number of such a value
abbrev pub number_of : Table → Result Tree ExpressionFault → Option ℤ
number_of table tree = option_map (λ v. v.offset) (value_of table tree)

-- a value with the range of its field
abbrev pub misfit_by : Option (ℤ × ℤ) → Option ℤ → Option Misfit
misfit_by (Some range) (Some z) = Some (record { value = z; least = range.0; most = range.1 })
misfit_by _ _ = None

-- the value of an operand with the range of the field that it has to fill
abbrev pub misfit_of : Table → Role → List Piece → Option Misfit
misfit_of table (Fills f) operand = misfit_by (range_of f) (number_of table (tree_in (map mark_of operand)))
misfit_of table _ operand = None

-- the part that is refused: for 22 the name, else the operand
abbrev pub found_part : FaultKind → Table → List Piece → Found → Option Part
found_part fault.Undefined table pieces f =
    option_or (option_map piece_part (undefined_in table f.operand)) (operand_part pieces f.index f.operand)
found_part kind table pieces f = operand_part pieces f.index f.operand

-- the value that does not fit its field, for 53
abbrev pub found_misfit : FaultKind → Table → Found → Option Misfit
found_misfit fault.FieldRange table f = misfit_of table f.role f.operand
found_misfit kind table f = None

-- what is reported of an operand that is found
abbrev pub found_value : FaultKind → Table → List Piece → Found → Option RefusedValue
found_value kind table pieces f =
    option_map (λ part. record { part = part; misfit = found_misfit kind table f }) (found_part kind table pieces f)

-- the operand of a line that is refused for its value
abbrev pub refused_among : FaultKind → Table → List Piece → LineValues → Option RefusedValue
refused_among kind table pieces l = option_and_then (found_value kind table pieces) (first_found kind table l 0 0 (operands_of pieces))

-- a line with its values, if it has any
abbrev pub with_purpose : Operation → Option Purpose → Option LineValues
with_purpose operation purpose = option_map (λ p. record { operation = operation; purpose = p }) purpose

-- what a line does, and what its values are for
abbrev pub line_values : Option Operation → List Piece → Option LineValues
line_values None pieces = None
line_values (Some o) pieces = with_purpose o (purpose_of o (operands_of pieces))

-- the operand of a line that is refused for its value, by what the line does
abbrev pub operand_value : FaultKind → Table → List Piece → Option Operation → Option RefusedValue
operand_value kind table pieces o = option_and_then (refused_among kind table pieces) (line_values o pieces)

-- the name of `.def` that stands for nothing, for 22
abbrev pub exported_value : FaultKind → Table → Option Directive → List Piece → Option RefusedValue
exported_value fault.Undefined table (Some directive.Def) pieces =
    option_map (λ p. record { part = piece_part p; misfit = None }) (undefined_in table pieces)
exported_value kind table d pieces = None

-- the name that a line defines and that has a value already, for 26
abbrev pub defined_value : FaultKind → Table → Option Directive → List ℕ → List Piece → Option RefusedValue
defined_value fault.Defined table d text pieces = option_map (λ part. record { part = part; misfit = None }) (defined_part table d text pieces)
defined_value kind table d text pieces = None

-- the name that a line exports or defines, for 22 and 26
abbrev pub name_value : FaultKind → Table → Option Directive → List ℕ → List Piece → Option RefusedValue
name_value kind table d text pieces = option_or (exported_value kind table d pieces) (defined_value kind table d text pieces)

-- the operand of a line with this directive that is refused for its value, or the name that it exports or defines
abbrev pub value_by : Result Parts LineFault → FaultKind → Table → Option Directive → List ℕ → Option RefusedValue
value_by (Err f) kind table d text = None
value_by (Ok parts) kind table d text =
    option_or (operand_value kind table parts.pieces (operation_in d parts.word)) (name_value kind table d text parts.pieces)

-- the operand of a line that is refused for its value with this fault
abbrev pub refused_value : List ℕ → FaultKind → Table → Option RefusedValue
refused_value text kind table = value_by (line_of text) kind table (directive_in (first_word text)) text
