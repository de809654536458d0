-- The printed text of an instruction: its mnemonic, a blank, and its operands in the order of its syntax, joined by
-- commas (SPRU014, "Assembly Language Instructions": the syntax on the page of each instruction, the indirect forms
-- under "Indirect Addressing Mode"). Shifts are always printed, and so is the indirect form of jumps and of NORM.
use Rattle.std.specs.Prelude.{ℕ, List, [], ◌++◌, Option, Some, None, codes}
use Rattle.std.specs.Fmt.{decimal, signed_decimal}
use Rattle.c25_meaning_instructions.specs.declared.insn.Insn.{Insn}
use Rattle.c25_meaning_instructions.specs.declared.insn.Insn.TheVariants as insn
use Rattle.c25_meaning_instructions.specs.declared.insn.Addr.{Addr}
use Rattle.c25_meaning_instructions.specs.declared.insn.Addr.TheVariants.{Direct, Indirect}
use Rattle.c25_meaning_instructions.specs.declared.insn.Change.{Change}
use Rattle.c25_meaning_instructions.specs.declared.insn.Change.TheVariants as change
use Rattle.c25_meaning_instructions.specs.declared.insn.PlainOperand.TheVariants as operand
use Rattle.c25_meaning_instructions.specs.declared.mnemonic.ShortName.TheVariants as short
use Rattle.c25_meaning_instructions.specs.declared.mnemonic.LongName.TheVariants as long
use Rattle.c25_meaning_instructions.specs.Table.{mem_row, shifted_row, ar_mem_row, port_row, bit_row, short_row, long_row, long_mem_row, jump_row, plain_row}
use Rattle.c25_meaning_common.specs.Digits.{two_digits, four_digits}

-- a second word, as a hexadecimal constant of the assembler (SPRU018, "Constants")
abbrev pub long_text : ℕ → List ℕ
long_text n = codes "0" ++ four_digits n ++ codes "h"

-- the text of each of the seven indirect forms ("Indirect Addressing Mode")
abbrev pub change_text : Change → List ℕ
change_text change.Keep = codes "*"
change_text change.Decrement = codes "*-"
change_text change.Increment = codes "*+"
change_text change.ReverseSubtract = codes "*BR0-"
change_text change.Subtract = codes "*0-"
change_text change.Add = codes "*0+"
change_text change.ReverseAdd = codes "*BR0+"

-- the text of an operand in memory: its direct address, or its indirect form
abbrev pub place_text : Addr → List ℕ
place_text (Direct low) = codes "0" ++ two_digits low ++ codes "h"
place_text (Indirect change next) = change_text change

-- the text of a next register, after a comma; empty where no next register is given
abbrev pub next_text : Option ℕ → List ℕ
next_text None = []
next_text (Some next) = codes ",AR" ++ decimal next

-- the text of the next register of an operand in memory; empty for a direct operand
abbrev pub tail_text : Addr → List ℕ
tail_text (Direct low) = []
tail_text (Indirect change next) = next_text next

-- the text of an instruction, by families
abbrev pub show : Insn → List ℕ
show (insn.Mem name addr) = (mem_row name).name ++ codes " " ++ place_text addr ++ tail_text addr
show (insn.Shifted name addr shift) = (shifted_row name).name ++ codes " " ++ place_text addr ++ codes "," ++ decimal shift ++ tail_text addr
show (insn.ArMem name register addr) = (ar_mem_row name).name ++ codes " AR" ++ decimal register ++ codes "," ++ place_text addr ++ tail_text addr
show (insn.Port name addr port) = (port_row name).name ++ codes " " ++ place_text addr ++ codes ",PA" ++ decimal port ++ tail_text addr
show (insn.Bit name addr code) = (bit_row name).name ++ codes " " ++ place_text addr ++ codes "," ++ decimal code ++ tail_text addr
show (insn.Short short.Lark register number) = codes "LARK AR" ++ decimal register ++ codes "," ++ signed_decimal number
show (insn.Short name register number) = (short_row name).name ++ codes " " ++ signed_decimal number
show (insn.Long long.Lrlk number high) = codes "LRLK AR" ++ decimal high ++ codes "," ++ long_text number
show (insn.Long name number high) = (long_row name).name ++ codes " " ++ long_text number ++ codes "," ++ decimal high
show (insn.LongMem name word addr) = (long_mem_row name).name ++ codes " " ++ long_text word ++ codes "," ++ place_text addr ++ tail_text addr
show (insn.Jump name word change next) = (jump_row name).name ++ codes " " ++ long_text word ++ codes "," ++ change_text change ++ next_text next
show (insn.Plain name operand.Nothing) = (plain_row name).name
show (insn.Plain name (operand.Number number)) = (plain_row name).name ++ codes " " ++ decimal number
show (insn.Plain name (operand.Change change)) = (plain_row name).name ++ codes " " ++ change_text change
