-- What is known after an instruction: DP by LDPK, LDP and LST, INTM by DINT, EINT and IDLE, repeats by RPT and RPTK, sleep by IDLE, and
-- a saved ST0 by what the instruction writes (SPRU014, "Assembly Language Instructions").
use Rattle.std.specs.Prelude.{◌≡◌, ℕ, ◌+◌, ◌%◌, ◌^◌, ◌<◌, ◌==◌, if◌then◌else◌, ◌⊎◌, true, false, ◌&&◌, Option, None, Some}
use Rattle.c25_bits.specs.Cut.{cut}
use Rattle.c25_meaning_instructions.specs.declared.insn.Addr.TheVariants.{Direct, Indirect}
use Rattle.c25_meaning_instructions.specs.declared.insn.Insn.{Insn}
use Rattle.c25_meaning_instructions.specs.declared.insn.Insn.TheVariants as insn
use Rattle.c25_meaning_instructions.specs.declared.mnemonic.MemName.TheVariants as mem
use Rattle.c25_meaning_instructions.specs.declared.mnemonic.ShiftedName.TheVariants as shifted
use Rattle.c25_meaning_instructions.specs.declared.mnemonic.ArMemName.TheVariants as ar_mem
use Rattle.c25_meaning_instructions.specs.declared.mnemonic.PortName.TheVariants as port
use Rattle.c25_meaning_instructions.specs.declared.mnemonic.LongMemName.TheVariants as long_mem
use Rattle.c25_meaning_instructions.specs.declared.mnemonic.ShortName.TheVariants as short
use Rattle.c25_meaning_instructions.specs.declared.mnemonic.PlainName.TheVariants as plain
use Rattle.c25_meaning_processor.specs.declared.registers.Registers.{Registers}
use Rattle.c25_meaning_processor.specs.Operand.{address_of}
use Rattle.c25_meaning_processor.specs.Effect.{mem_address}
use Rattle.c25_meaning_pages.specs.declared.known.Known.{Known}
use Rattle.c25_meaning_pages.specs.declared.known.Saved.{Saved}
use Rattle.c25_meaning_pages.specs.Known.{Knowledge}

-- ---- registers

-- the DP that LST loads from a direct operand: that of a saved ST0, where DP is 0 and the operand is the word in which it is saved;
-- else DP is not known
abbrev pub loaded_page : Option ℕ → Option Saved → ℕ → Option ℕ
loaded_page (Some p) (Some v) low = if p == 0 && (v.address == low % 128) then Some v.page else None
loaded_page _ _ low = None

-- what is known of the registers after an instruction that acts once; a saved ST0 and the words that were pushed are left as they were
abbrev pub known_after : Insn → Known → Known
known_after (insn.Mem mem.Ldp a) known = record known { page = None; shadowed = false; once = true; asleep = false }
known_after (insn.Mem mem.Lst (Direct low)) known =
    record known { page = loaded_page known.page known.saved low; shadowed = false; once = true; asleep = false }
known_after (insn.Mem mem.Lst (Indirect change next)) known = record known { page = None; shadowed = false; once = true; asleep = false }
known_after (insn.Mem mem.Rpt a) known = record known { shadowed = false; once = false; asleep = false }
known_after (insn.Short short.Ldpk register n) known = record known { page = Some (cut n 9); shadowed = false; once = true; asleep = false }
known_after (insn.Short short.Rptk register n) known = record known { shadowed = false; once = false; asleep = false }
known_after (insn.Plain plain.Dint o) known = record known { masked = true; shadowed = false; once = true; asleep = false }
known_after (insn.Plain plain.Eint o) known = record known { masked = false; shadowed = true; once = true; asleep = false }
known_after (insn.Plain plain.Idle o) known = record known { masked = false; shadowed = false; once = true; asleep = true }
known_after i known = record known { shadowed = false; once = true; asleep = false }

-- ---- a saved ST0

-- the address of the data word that an instruction writes, if it writes one: its operand, or for LTD, DMOV and MACD the word after
-- its operand. Writes by TBLW go to program memory
abbrev pub written_address : Insn → Registers → Option ℕ
written_address (insn.Mem mem.Ltd a) r = Some ((address_of a r + 1) % 2 ^ 16)
written_address (insn.Mem mem.Dmov a) r = Some ((address_of a r + 1) % 2 ^ 16)
written_address (insn.Mem mem.Tblr a) r = Some (address_of a r)
written_address (insn.Mem mem.Popd a) r = Some (address_of a r)
written_address (insn.Mem mem.Spl a) r = Some (address_of a r)
written_address (insn.Mem mem.Sph a) r = Some (address_of a r)
written_address (insn.Mem mem.Sst a) r = Some (mem_address mem.Sst a r)
written_address (insn.Mem mem.Sst1 a) r = Some (mem_address mem.Sst1 a r)
written_address (insn.Shifted shifted.Sacl a s) r = Some (address_of a r)
written_address (insn.Shifted shifted.Sach a s) r = Some (address_of a r)
written_address (insn.ArMem ar_mem.Sar register a) r = Some (address_of a r)
written_address (insn.Port port.In a number) r = Some (address_of a r)
written_address (insn.LongMem long_mem.Macd word a) r = Some ((address_of a r + 1) % 2 ^ 16)
written_address (insn.LongMem long_mem.Blkp word a) r = Some (address_of a r)
written_address (insn.LongMem long_mem.Blkd word a) r = Some (address_of a r)
written_address i r = None

-- an instruction saves ST0 in a word: it is SST with a direct operand, which is on data page 0 whatever DP
-- is, and DP is known
abbrev pub Saves : Insn → Known → Saved → Type 0
Saves (insn.Mem mem.Sst (Direct low)) known v = (v.address ≡ low % 128) × (known.page ≡ Some v.page) × (v.page < 512)
Saves i known v = ⊥

-- the instruction at an address does not write a data word, whatever the registers are that have DP as it is known; or it is
-- supposed not to write it
abbrev pub Spares : Knowledge → ℕ → Insn → Known → ℕ → Type 0
Spares knowledge address i known word =
    (r : Registers) → ((p : ℕ) → known.page ≡ Some p → r.dp ≡ p) → written_address i r ≡ Some word
    → knowledge.spared address ≡ Some word

-- an ST0 that is known to be saved after the instruction at an address was saved by it; or it was saved before, and the instruction
-- does not write its word
abbrev pub IsSavedAfter : Knowledge → ℕ → Insn → Known → Option Saved → Type 0
IsSavedAfter knowledge address i known saved =
    (v : Saved) → saved ≡ Some v
    → Saves i known v ⊎ ((known.saved ≡ Some v) × Spares knowledge address i known v.address)
