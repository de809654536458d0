-- What instructions do, as far as warnings need it (SPRU014, assembly language instructions; which of them may
-- not be repeated is a rule of this project).
use Rattle.std.specs.Prelude.{ℕ, zero, suc, Bool, true, false, Option, Some, None}
use Rattle.c25_meaning_instructions.specs.declared.mnemonic.JumpName.TheVariants as jump
use Rattle.c25_meaning_instructions.specs.declared.mnemonic.LongMemName.{LongMemName}
use Rattle.c25_meaning_instructions.specs.declared.mnemonic.LongMemName.TheVariants as long_mem
use Rattle.c25_meaning_instructions.specs.declared.mnemonic.MemName.TheVariants as mem
use Rattle.c25_meaning_instructions.specs.declared.mnemonic.Mnemonic.{Mnemonic}
use Rattle.c25_meaning_instructions.specs.declared.mnemonic.Mnemonic.TheVariants as family
use Rattle.c25_meaning_instructions.specs.declared.mnemonic.PlainName.TheVariants as plain
use Rattle.c25_meaning_instructions.specs.declared.mnemonic.ShortName.TheVariants as short
use Rattle.c25_meaning_instructions.specs.declared.mnemonic.Spelling.{Spelling}
use Rattle.c25_meaning_instructions.specs.declared.mnemonic.Spelling.TheVariants.{Row}
use Rattle.c25_line_warnings.specs.declared.marks.Memory.{Memory}
use Rattle.c25_line_warnings.specs.declared.marks.Memory.TheVariants.{Program, Data}

-- whether the words after this instruction run only where something else leads to them: B, BACC, RET
abbrev pub is_last : Spelling → Bool
is_last (Row (family.Jump jump.B)) = true
is_last (Row (family.Plain plain.Bacc)) = true
is_last (Row (family.Plain plain.Ret)) = true
is_last s = false

-- whether this is B, of which tables of branches consist
abbrev pub is_branch : Spelling → Bool
is_branch (Row (family.Jump jump.B)) = true
is_branch s = false

-- whether this instruction repeats the next one
abbrev pub is_repeat : Spelling → Bool
is_repeat (Row (family.Mem mem.Rpt)) = true
is_repeat (Row (family.Short short.Rptk)) = true
is_repeat s = false

-- whether this instruction may not be repeated: a branch, call or return, TRAP, IDLE, RPT, RPTK, or one with a
-- long immediate. The processor of this project stops at these with BadRepeat.
abbrev pub is_unrepeatable : Spelling → Bool
is_unrepeatable (Row (family.Jump name)) = true
is_unrepeatable (Row (family.Long name)) = true
is_unrepeatable (Row (family.Mem mem.Rpt)) = true
is_unrepeatable (Row (family.Short short.Rptk)) = true
is_unrepeatable (Row (family.Plain plain.Cala)) = true
is_unrepeatable (Row (family.Plain plain.Bacc)) = true
is_unrepeatable (Row (family.Plain plain.Ret)) = true
is_unrepeatable (Row (family.Plain plain.Trap)) = true
is_unrepeatable (Row (family.Plain plain.Idle)) = true
is_unrepeatable s = false

-- whether the second operand is a shift: ADD, SUB, LAC, SACL, SACH
abbrev pub has_shift : Spelling → Bool
has_shift (Row (family.Shifted name)) = true
has_shift s = false

-- the memory of the first address of BLKD, BLKP, MAC or MACD
abbrev pub memory_of_long : LongMemName → Memory
memory_of_long long_mem.Blkd = Data
memory_of_long long_mem.Blkp = Program
memory_of_long long_mem.Mac = Program
memory_of_long long_mem.Macd = Program

-- the memory of the address that the operand of this number is, counted from 0, by the row of the instruction
abbrev pub memory_in_row : Mnemonic → ℕ → Option Memory
memory_in_row (family.Mem name) zero = Some Data
memory_in_row (family.Shifted name) zero = Some Data
memory_in_row (family.Port name) zero = Some Data
memory_in_row (family.Bit name) zero = Some Data
memory_in_row (family.Short short.Ldpk) zero = Some Data
memory_in_row (family.Jump name) zero = Some Program
memory_in_row (family.LongMem name) zero = Some (memory_of_long name)
memory_in_row (family.LongMem name) (suc zero) = Some Data
memory_in_row (family.ArMem name) (suc zero) = Some Data
memory_in_row row k = None

-- the memory of the address that an operand is; a constant that may be an address of either has none
abbrev pub memory_of : Spelling → ℕ → Option Memory
memory_of (Row row) k = memory_in_row row k
memory_of s k = None
