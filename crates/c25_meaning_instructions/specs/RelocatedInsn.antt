-- Which instructions have a field that is filled when modules are linked, and the instruction with a number
-- in that field (SPRU014, "Assembly Language Instructions").
use Rattle.std.specs.Prelude.{◌≡◌, ℕ, pos}
use Rattle.c25_meaning_common.specs.declared.relocation.RelocationKind.{RelocationKind}
use Rattle.c25_meaning_common.specs.declared.relocation.RelocationKind.TheVariants.{Word16, Low7, Page9}
use Rattle.c25_meaning_instructions.specs.declared.insn.Insn.{Insn}
use Rattle.c25_meaning_instructions.specs.declared.insn.Insn.TheVariants as insn
use Rattle.c25_meaning_instructions.specs.declared.insn.Addr.TheVariants.{Direct}
use Rattle.c25_meaning_instructions.specs.declared.mnemonic.ShortName.TheVariants as short

-- an instruction has a field of this kind, and the field holds 0: a direct address (Low7), the page of LDPK
-- (Page9), or the second word (Word16)
abbrev pub HasField : RelocationKind → Insn → Type 0
HasField Low7 (insn.Mem name addr) = addr ≡ Direct 0
HasField Low7 (insn.Shifted name addr shift) = addr ≡ Direct 0
HasField Low7 (insn.ArMem name register addr) = addr ≡ Direct 0
HasField Low7 (insn.Port name addr port) = addr ≡ Direct 0
HasField Low7 (insn.Bit name addr code) = addr ≡ Direct 0
HasField Low7 (insn.LongMem name word addr) = addr ≡ Direct 0
HasField Page9 (insn.Short name register number) = (name ≡ short.Ldpk) × (number ≡ pos 0)
HasField Word16 (insn.Long name number high) = number ≡ 0
HasField Word16 (insn.LongMem name word addr) = word ≡ 0
HasField Word16 (insn.Jump name word change next) = word ≡ 0
HasField _ _ = ⊥

-- an instruction with a number in its field of this kind; used only where the instruction has the field
-- (`HasField`)
abbrev pub with_field : RelocationKind → ℕ → Insn → Insn
with_field Low7 n (insn.Mem name addr) = insn.Mem name (Direct n)
with_field Low7 n (insn.Shifted name addr shift) = insn.Shifted name (Direct n) shift
with_field Low7 n (insn.ArMem name register addr) = insn.ArMem name register (Direct n)
with_field Low7 n (insn.Port name addr port) = insn.Port name (Direct n) port
with_field Low7 n (insn.Bit name addr code) = insn.Bit name (Direct n) code
with_field Low7 n (insn.LongMem name word addr) = insn.LongMem name word (Direct n)
with_field Page9 n (insn.Short name register number) = insn.Short name register (pos n)
with_field Word16 n (insn.Long name number high) = insn.Long name n high
with_field Word16 n (insn.LongMem name word addr) = insn.LongMem name n addr
with_field Word16 n (insn.Jump name word change next) = insn.Jump name n change next
with_field _ n i = i
