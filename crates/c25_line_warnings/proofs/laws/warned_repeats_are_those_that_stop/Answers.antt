use Rattle.std.proofs.Common.{◌≡◌, refl}
use Rattle.c25_meaning_instructions.specs.Table.{mnemonic_of}
use Rattle.c25_meaning_instructions.specs.declared.insn.Insn.{Insn}
use Rattle.c25_meaning_instructions.specs.declared.insn.Insn.TheVariants as insn
use Rattle.c25_meaning_instructions.specs.declared.mnemonic.MemName.TheVariants as mem
use Rattle.c25_meaning_instructions.specs.declared.mnemonic.PlainName.TheVariants as plain
use Rattle.c25_meaning_instructions.specs.declared.mnemonic.ShortName.TheVariants as short
use Rattle.c25_meaning_instructions.specs.declared.mnemonic.Spelling.TheVariants.{Row}
use Rattle.c25_meaning_processor.specs.Step as processor
use Rattle.c25_line_warnings.specs.Instructions.{is_unrepeatable}
use Rattle.c25_line_warnings.proofs.laws.warned_repeats_are_those_that_stop.Goals as goal

same : (i : Insn) → is_unrepeatable (Row (mnemonic_of i)) ≡ processor.is_unrepeatable i
same (insn.Mem mem.Rpt addr) = refl
same (insn.Mem name addr) = refl
same (insn.Shifted name addr shift) = refl
same (insn.ArMem name register addr) = refl
same (insn.Port name addr port) = refl
same (insn.Bit name addr code) = refl
same (insn.Short short.Rptk register number) = refl
same (insn.Short name register number) = refl
same (insn.Long name number high) = refl
same (insn.LongMem name word addr) = refl
same (insn.Jump name word change next) = refl
same (insn.Plain plain.Cala operand) = refl
same (insn.Plain plain.Bacc operand) = refl
same (insn.Plain plain.Ret operand) = refl
same (insn.Plain plain.Trap operand) = refl
same (insn.Plain plain.Idle operand) = refl
same (insn.Plain name operand) = refl

pub returns : goal.returns
returns c = same
