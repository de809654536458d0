-- Direct operands, and the addresses of operands in data memory (SPRU014, "Memory Addressing Modes").
use Rattle.std.specs.Prelude.{ℕ, Option, None, Some}
use Rattle.c25_meaning_instructions.specs.declared.insn.Addr.TheVariants.{Direct}
use Rattle.c25_meaning_instructions.specs.declared.insn.Insn.{Insn}
use Rattle.c25_meaning_instructions.specs.declared.insn.Insn.TheVariants as insn
use Rattle.c25_meaning_instructions.specs.declared.mnemonic.MemName.TheVariants as mem
use Rattle.c25_meaning_processor.specs.declared.registers.Registers.{Registers}
use Rattle.c25_meaning_processor.specs.Operand.{address_of}
use Rattle.c25_meaning_processor.specs.Effect.{mem_address}

-- the seven bits of an instruction's direct operand, which is on the page of DP; SST and SST1 have none,
-- since their direct operand is on data page 0 whatever DP is
abbrev pub direct_of : Insn → Option ℕ
direct_of (insn.Mem mem.Sst a) = None
direct_of (insn.Mem mem.Sst1 a) = None
direct_of (insn.Mem name (Direct low)) = Some low
direct_of (insn.Shifted name (Direct low) s) = Some low
direct_of (insn.ArMem name register (Direct low)) = Some low
direct_of (insn.Port name (Direct low) number) = Some low
direct_of (insn.Bit name (Direct low) code) = Some low
direct_of (insn.LongMem name word (Direct low)) = Some low
direct_of i = None

-- the data address of an instruction's operand, if it has an operand in data memory
abbrev pub operand_address : Insn → Registers → Option ℕ
operand_address (insn.Mem name a) r = Some (mem_address name a r)
operand_address (insn.Shifted name a s) r = Some (address_of a r)
operand_address (insn.ArMem name register a) r = Some (address_of a r)
operand_address (insn.Port name a number) r = Some (address_of a r)
operand_address (insn.Bit name a code) r = Some (address_of a r)
operand_address (insn.LongMem name word a) r = Some (address_of a r)
operand_address i r = None
