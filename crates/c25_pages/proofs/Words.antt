-- The data word that an instruction writes, by its operand.
use Rattle.std.proofs.Common.{◌≡◌, refl}
use Rattle.c25_meaning_instructions.specs.declared.insn.Addr.TheVariants.{Direct, Indirect}
use Rattle.c25_meaning_instructions.specs.declared.insn.Insn.{Insn}
use Rattle.c25_meaning_instructions.specs.declared.insn.Insn.TheVariants as insn
use Rattle.c25_meaning_instructions.specs.declared.mnemonic.MemName.TheVariants as mem
use Rattle.c25_meaning_instructions.specs.declared.mnemonic.ShiftedName.TheVariants as shifted
use Rattle.c25_meaning_instructions.specs.declared.mnemonic.ArMemName.TheVariants as ar_mem
use Rattle.c25_meaning_instructions.specs.declared.mnemonic.PortName.TheVariants as port
use Rattle.c25_meaning_instructions.specs.declared.mnemonic.LongMemName.TheVariants as long_mem
use Rattle.c25_meaning_processor.specs.declared.registers.Registers.{Registers}
use Rattle.c25_meaning_pages.specs.KnownAfter.{written_address}
use Rattle.c25_pages.specs.Written.{place_written, writes}

pub written_as : (i : Insn) (r : Registers) → written_address i r ≡ place_written (writes i) r
written_as (insn.Mem mem.Sst (Direct low)) r = refl
written_as (insn.Mem mem.Sst (Indirect change next)) r = refl
written_as (insn.Mem mem.Sst1 (Direct low)) r = refl
written_as (insn.Mem mem.Sst1 (Indirect change next)) r = refl
written_as (insn.Mem name a) r = refl
written_as (insn.Shifted shifted.Sacl a s) r = refl
written_as (insn.Shifted name a s) r = refl
written_as (insn.ArMem ar_mem.Sar register a) r = refl
written_as (insn.ArMem name register a) r = refl
written_as (insn.Port port.In a number) r = refl
written_as (insn.Port name a number) r = refl
written_as (insn.LongMem long_mem.Macd word a) r = refl
written_as (insn.LongMem name word a) r = refl
written_as i r = refl
