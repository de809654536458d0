-- Instruction statements as syntax (SPRU014, instruction set; SPRU018, source statement format): which field
-- each operand fills, the number that a value or an address gives the field, and the instruction that the
-- numbers make.
use Rattle.std.specs.Prelude.{ℕ, zero, suc, ◌||◌, not, List, Option, Some, None, Result, Ok, Err, ℤ, pos, negsuc, int_lt, if◌then◌else◌, slice_get, slice_index}
use Rattle.std.specs.Int.{w16, cast_signed}
use Rattle.c25_bits.specs.Cut.{cut}
use Rattle.c25_meaning_common.specs.Results.{told}
use Rattle.c25_meaning_instructions.specs.Table.{shift_limit}
use Rattle.c25_meaning_language.specs.Tree.{Tree}
use Rattle.c25_meaning_language.specs.Value.{Table, value_of, value_named}
use Rattle.c25_meaning_language.specs.declared.value.Value.{Value}
use Rattle.c25_meaning_language.specs.declared.value.ValueFault.{ValueFault}
use Rattle.c25_meaning_language.specs.declared.value.ValueFault.TheVariants as value
use Rattle.c25_meaning_language.specs.declared.expression.ExpressionFault.{ExpressionFault}
use Rattle.c25_meaning_language.specs.declared.expression.ExpressionFault.TheVariants as expression
use Rattle.c25_meaning_instructions.specs.declared.insn.Insn.{Insn}
use Rattle.c25_meaning_instructions.specs.declared.insn.Insn.TheVariants as insn
use Rattle.c25_meaning_instructions.specs.declared.insn.Addr.{Addr}
use Rattle.c25_meaning_instructions.specs.declared.insn.Addr.TheVariants as addr
use Rattle.c25_meaning_instructions.specs.declared.insn.Change.{Change}
use Rattle.c25_meaning_instructions.specs.declared.insn.PlainOperand.{PlainOperand}
use Rattle.c25_meaning_instructions.specs.declared.insn.PlainOperand.TheVariants as operand
use Rattle.c25_meaning_instructions.specs.declared.mnemonic.Mnemonic.{Mnemonic}
use Rattle.c25_meaning_instructions.specs.declared.mnemonic.Mnemonic.TheVariants as family
use Rattle.c25_meaning_instructions.specs.declared.mnemonic.ShortName.{ShortName}
use Rattle.c25_meaning_instructions.specs.declared.mnemonic.ShortName.TheVariants as short
use Rattle.c25_meaning_instructions.specs.declared.mnemonic.LongName.{LongName}
use Rattle.c25_meaning_instructions.specs.declared.mnemonic.LongName.TheVariants as long
use Rattle.c25_meaning_instructions.specs.declared.mnemonic.PlainName.{PlainName}
use Rattle.c25_meaning_instructions.specs.declared.mnemonic.PlainName.TheVariants as plain
use Rattle.c25_meaning_language.specs.declared.statement.AddrForm.{AddrForm}
use Rattle.c25_meaning_language.specs.declared.statement.AddrForm.TheVariants.{Direct, Indirect}
use Rattle.c25_meaning_language.specs.declared.statement.Form.{Form}
use Rattle.c25_meaning_language.specs.declared.statement.Form.TheVariants as form
use Rattle.c25_meaning_language.specs.declared.statement.Field.{Field}
use Rattle.c25_meaning_language.specs.declared.statement.Field.TheVariants as field
use Rattle.c25_meaning_common.specs.declared.relocation.RelocationKind.{RelocationKind}
use Rattle.c25_meaning_common.specs.declared.relocation.RelocationKind.TheVariants as relocation
use Rattle.c25_meaning_language.specs.declared.statement.FaultKind.{FaultKind}
use Rattle.c25_meaning_language.specs.declared.statement.FaultKind.TheVariants as fault

-- ---- which field an operand fills

-- the field of a short constant: the page of LDPK, the factor of MPYK, or 8 bits
abbrev pub short_field : ShortName → Field
short_field short.Ldpk = field.Page9
short_field short.Mpyk = field.Signed13
short_field _ = field.Number 256

-- the number of the next auxiliary register
abbrev pub next_field : Field
next_field = field.Number 8

-- the field of a memory operand: a direct address; after an indirect operand, the next auxiliary register
abbrev pub addr_field : AddrForm → Field
addr_field Direct = field.Low7
addr_field (Indirect change) = next_field

-- the fields of an instruction with a memory operand and a number: a direct address, then the number; or, as
-- an indirect operand has no number itself, the number and then the next auxiliary register
abbrev pub with_number : AddrForm → ℕ → ℕ → Field
with_number Direct limit zero = field.Low7
with_number Direct limit (suc k) = field.Number limit
with_number (Indirect change) limit zero = field.Number limit
with_number (Indirect change) limit (suc k) = next_field

-- the fields of a short constant: LARK has its register first
abbrev pub field_of_short : ShortName → ℕ → Field
field_of_short short.Lark zero = field.Number 8
field_of_short name k = short_field name

-- the fields of a long constant: LRLK has its register first; the others may have a shift after the constant
abbrev pub field_of_long : LongName → ℕ → Field
field_of_long long.Lrlk zero = field.Number 8
field_of_long long.Lrlk (suc k) = field.Word16
field_of_long name zero = field.Word16
field_of_long name (suc k) = field.Number 16

-- the field of a plain instruction's number: 0 or 1 for FORT, 0 to 3 for SPM and CMPR
abbrev pub plain_field : PlainName → Field
plain_field plain.Fort = field.Number 2
plain_field name = field.Number 4

-- the field of an instruction's operand, counted from 0 among the operands that are expressions; optional
-- operands come last
abbrev pub form_field : Form → ℕ → Field
form_field (form.Mem name addr) k = addr_field addr
form_field (form.Shifted name addr) k = with_number addr (shift_limit name) k
form_field (form.ArMem name addr) zero = field.Number 8
form_field (form.ArMem name addr) (suc k) = addr_field addr
form_field (form.Port name addr) k = with_number addr 16 k
form_field (form.Bit name addr) k = with_number addr 16 k
form_field (form.Short name) k = field_of_short name k
form_field (form.Long name) k = field_of_long name k
form_field (form.LongMem name addr) zero = field.Word16
form_field (form.LongMem name addr) (suc k) = addr_field addr
form_field (form.Jump name change) zero = field.Word16
form_field (form.Jump name change) (suc k) = next_field
form_field (form.Plain name written) k = plain_field name

-- ---- the instruction of a form and its numbers: a number that is not written is 0, a next register that is
-- not written is left out

-- the memory operand of a form and its number, if one is written
abbrev pub addr_of : AddrForm → Option ℕ → Addr
addr_of Direct None = addr.Direct 0
addr_of Direct (Some low) = addr.Direct low
addr_of (Indirect change) next = addr.Indirect change next

-- the number of an instruction that also has a memory operand
abbrev pub number_beside : AddrForm → List ℕ → ℕ
number_beside Direct ns = slice_index ns 1
number_beside (Indirect change) ns = slice_index ns 0

-- the memory operand of an instruction that also has a number
abbrev pub addr_beside : AddrForm → List ℕ → Addr
addr_beside Direct ns = addr.Direct (slice_index ns 0)
addr_beside (Indirect change) ns = addr.Indirect change (slice_get ns 1)

-- LARK's register and constant, or a short constant
abbrev pub short_of : ShortName → List ℕ → Insn
short_of short.Lark ns = insn.Short short.Lark (slice_index ns 0) (cast_signed w16 (slice_index ns 1))
short_of name ns = insn.Short name 0 (cast_signed w16 (slice_index ns 0))

-- LRLK's register and constant, or a long constant and its shift
abbrev pub long_of : LongName → List ℕ → Insn
long_of long.Lrlk ns = insn.Long long.Lrlk (slice_index ns 1) (slice_index ns 0)
long_of name ns = insn.Long name (slice_index ns 0) (slice_index ns 1)

-- the operand of a plain instruction: a change for NORM, a number for SPM, FORT and CMPR, nothing for the
-- others
abbrev pub plain_of : PlainName → Change → List ℕ → PlainOperand
plain_of plain.Norm change ns = operand.Change change
plain_of plain.Spm change ns = operand.Number (slice_index ns 0)
plain_of plain.Fort change ns = operand.Number (slice_index ns 0)
plain_of plain.Cmpr change ns = operand.Number (slice_index ns 0)
plain_of _ change ns = operand.Nothing

-- the instruction of a form and its numbers
abbrev pub insn_of : Form → List ℕ → Insn
insn_of (form.Mem name a) ns = insn.Mem name (addr_of a (slice_get ns 0))
insn_of (form.Shifted name a) ns = insn.Shifted name (addr_beside a ns) (number_beside a ns)
insn_of (form.ArMem name a) ns = insn.ArMem name (slice_index ns 0) (addr_of a (slice_get ns 1))
insn_of (form.Port name a) ns = insn.Port name (addr_beside a ns) (number_beside a ns)
insn_of (form.Bit name a) ns = insn.Bit name (addr_beside a ns) (number_beside a ns)
insn_of (form.Short name) ns = short_of name ns
insn_of (form.Long name) ns = long_of name ns
insn_of (form.LongMem name a) ns = insn.LongMem name (slice_index ns 0) (addr_of a (slice_get ns 1))
insn_of (form.Jump name change) ns = insn.Jump name (slice_index ns 0) change (slice_get ns 1)
insn_of (form.Plain name change) ns = insn.Plain name (plain_of name change ns)

-- ---- the number that an operand's value gives

-- the number, if the value is from low to high
abbrev pub within : ℤ → ℤ → ℤ → ℕ → Result ℕ FaultKind
within low high z number = if int_lt z low || int_lt high z then Err fault.FieldRange else Ok number

-- the number, if the value is at least 0 and below a limit
abbrev pub below : ℕ → ℤ → ℕ → Result ℕ FaultKind
below limit z number = if int_lt z (pos 0) || not (int_lt z (pos limit)) then Err fault.FieldRange else Ok number

-- the number that an absolute value gives a field, if the field takes it
unfoldable pub number_in : Field → ℤ → Result ℕ FaultKind
number_in field.Low7 z = within (pos 0) (pos 65535) z (cut z 7)
number_in field.Page9 z = within (pos 0) (pos 511) z (cut z 16)
number_in field.Word16 z = within (negsuc 32767) (pos 65535) z (cut z 16)
number_in (field.Number limit) z = below limit z (cut z 16)
number_in field.Signed13 z = within (negsuc 4095) (pos 4095) z (cut z 16)
number_in field.Word z = Ok (cut z 16)
number_in field.Byte z = within (negsuc 127) (pos 255) z (cut z 8)

-- how a field takes an address; some fields take none
abbrev pub relocation_of : Field → Option RelocationKind
relocation_of field.Low7 = Some relocation.Low7
relocation_of field.Page9 = Some relocation.Page9
relocation_of field.Word16 = Some relocation.Word16
relocation_of field.Word = Some relocation.Word16
relocation_of _ = None

-- ---- the value of an operand

-- the fault of a value as a fault of a source
abbrev pub value_fault : ValueFault → FaultKind
value_fault value.Undefined = fault.Undefined
value_fault value.NotAbsolute = fault.NotAbsolute
value_fault value.DivideByZero = fault.DivideByZero
value_fault value.ValueRange = fault.ValueRange

-- the fault of tokens that are not an expression as a fault of a source
abbrev pub expression_fault : ExpressionFault → FaultKind
expression_fault expression.BadExpression = fault.BadExpression
expression_fault expression.TooDeep = fault.TooDeep

-- the value of an expression by a symbol table, which also has the place that `$` stands for
abbrev pub valued : Table → Tree → Result Value FaultKind
valued table e = told value_fault (value_of (value_named table) table.here e)

-- the row of the opcode table that a form belongs to
abbrev pub form_row : Form → Mnemonic
form_row (form.Mem name a) = family.Mem name
form_row (form.Shifted name a) = family.Shifted name
form_row (form.ArMem name a) = family.ArMem name
form_row (form.Port name a) = family.Port name
form_row (form.Bit name a) = family.Bit name
form_row (form.Short name) = family.Short name
form_row (form.Long name) = family.Long name
form_row (form.LongMem name a) = family.LongMem name
form_row (form.Jump name change) = family.Jump name
form_row (form.Plain name change) = family.Plain name
