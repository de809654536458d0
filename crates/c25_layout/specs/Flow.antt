-- Where each instruction goes on (SPRU014, "Assembly Language Instructions"), and which second words are addresses of program memory.
use Rattle.std.specs.Prelude.{ℕ, Option, Some, None}
use Rattle.c25_layout.specs.declared.course.Course.{Course}
use Rattle.c25_layout.specs.declared.course.Course.TheVariants.{Next, To, ToOrNext, Calls, Nowhere, ToAccumulator, CallsAccumulator, Traps}
use Rattle.c25_meaning_instructions.specs.declared.insn.Insn.{Insn}
use Rattle.c25_meaning_instructions.specs.declared.insn.Insn.TheVariants as insn
use Rattle.c25_meaning_instructions.specs.declared.mnemonic.JumpName.TheVariants as jump
use Rattle.c25_meaning_instructions.specs.declared.mnemonic.LongMemName.TheVariants as long_mem
use Rattle.c25_meaning_instructions.specs.declared.mnemonic.PlainName.TheVariants as plain

-- where an instruction goes on
abbrev pub course_of : Insn → Course
course_of (insn.Jump jump.B word change next) = To word
course_of (insn.Jump jump.Call word change next) = Calls word
course_of (insn.Jump name word change next) = ToOrNext word
course_of (insn.Plain plain.Ret operand) = Nowhere
course_of (insn.Plain plain.Bacc operand) = ToAccumulator
course_of (insn.Plain plain.Cala operand) = CallsAccumulator
course_of (insn.Plain plain.Trap operand) = Traps
course_of _ = Next

-- the second word of MAC, MACD and BLKP: an address of program memory
abbrev pub program_word : Insn → Option ℕ
program_word (insn.LongMem long_mem.Blkd word addr) = None
program_word (insn.LongMem name word addr) = Some word
program_word _ = None

-- the second word of an instruction that has two
abbrev pub long_word : Insn → Option ℕ
long_word (insn.Long name number high) = Some number
long_word (insn.LongMem name word addr) = Some word
long_word (insn.Jump name word change next) = Some word
long_word _ = None
