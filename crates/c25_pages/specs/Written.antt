-- The data word that an instruction writes, by its operand.
use Rattle.std.specs.Prelude.{ℕ, ◌+◌, ◌%◌, ◌^◌, Option, None, Some}
use Rattle.c25_meaning_instructions.specs.declared.insn.Insn.{Insn}
use Rattle.c25_meaning_instructions.specs.declared.insn.Insn.TheVariants as insn
use Rattle.c25_meaning_instructions.specs.declared.insn.Addr.{Addr}
use Rattle.c25_meaning_instructions.specs.declared.mnemonic.MemName.{MemName}
use Rattle.c25_meaning_instructions.specs.declared.mnemonic.MemName.TheVariants as mem
use Rattle.c25_meaning_instructions.specs.declared.mnemonic.ShiftedName.TheVariants as shifted
use Rattle.c25_meaning_instructions.specs.declared.mnemonic.ArMemName.TheVariants as ar_mem
use Rattle.c25_meaning_instructions.specs.declared.mnemonic.PortName.TheVariants as port
use Rattle.c25_meaning_instructions.specs.declared.mnemonic.LongMemName.TheVariants as long_mem
use Rattle.c25_meaning_processor.specs.declared.registers.Registers.{Registers}
use Rattle.c25_meaning_processor.specs.Operand.{address_of}
use Rattle.c25_meaning_processor.specs.Effect.{mem_address}
use Rattle.c25_pages.specs.declared.written.Written.{Written}
use Rattle.c25_pages.specs.declared.written.Written.TheVariants.{Nothing, Operand, After, Status}

-- which data word an instruction with a data word alone writes
abbrev pub mem_writes : MemName → Addr → Written
mem_writes mem.Ltd a = After a
mem_writes mem.Dmov a = After a
mem_writes mem.Tblr a = Operand a
mem_writes mem.Popd a = Operand a
mem_writes mem.Spl a = Operand a
mem_writes mem.Sph a = Operand a
mem_writes mem.Sst a = Status a
mem_writes mem.Sst1 a = Status a
mem_writes name a = Nothing

-- which data word an instruction writes
abbrev pub writes : Insn → Written
writes (insn.Mem name a) = mem_writes name a
writes (insn.Shifted shifted.Sacl a s) = Operand a
writes (insn.Shifted shifted.Sach a s) = Operand a
writes (insn.ArMem ar_mem.Sar register a) = Operand a
writes (insn.Port port.In a number) = Operand a
writes (insn.LongMem long_mem.Macd word a) = After a
writes (insn.LongMem long_mem.Blkp word a) = Operand a
writes (insn.LongMem long_mem.Blkd word a) = Operand a
writes i = Nothing

-- the address of the data word
abbrev pub place_written : Written → Registers → Option ℕ
place_written Nothing r = None
place_written (Operand a) r = Some (address_of a r)
place_written (After a) r = Some ((address_of a r + 1) % 2 ^ 16)
place_written (Status a) r = Some (mem_address mem.Sst a r)
