-- The first word of each row's text is its name in the opcode table.
use Rattle.std.proofs.Common.{◌≡◌, refl}
use Rattle.c25_meaning_instructions.specs.Table.{row_of}
use Rattle.c25_meaning_instructions.specs.declared.mnemonic.Mnemonic.{Mnemonic}
use Rattle.c25_meaning_instructions.specs.declared.mnemonic.Mnemonic.TheVariants as family
use Rattle.c25_meaning_instructions.specs.declared.mnemonic.MemName.TheVariants as mem
use Rattle.c25_meaning_instructions.specs.declared.mnemonic.ShiftedName.TheVariants as shifted
use Rattle.c25_meaning_instructions.specs.declared.mnemonic.ArMemName.TheVariants as ar_mem
use Rattle.c25_meaning_instructions.specs.declared.mnemonic.PortName.TheVariants as port
use Rattle.c25_meaning_instructions.specs.declared.mnemonic.BitName.TheVariants as bit
use Rattle.c25_meaning_instructions.specs.declared.mnemonic.ShortName.TheVariants as short
use Rattle.c25_meaning_instructions.specs.declared.mnemonic.LongName.TheVariants as long
use Rattle.c25_meaning_instructions.specs.declared.mnemonic.LongMemName.TheVariants as long_mem
use Rattle.c25_meaning_instructions.specs.declared.mnemonic.JumpName.TheVariants as jump
use Rattle.c25_meaning_instructions.specs.declared.mnemonic.PlainName.TheVariants as plain
use Rattle.c25_guide.specs.Patterns.{first_word, row_text}

pub names : (row : Mnemonic) → first_word (row_text row) ≡ (row_of row).name
names (family.Mem mem.Mpy) = refl
names (family.Mem _) = refl
names (family.Shifted shifted.Add) = refl
names (family.Shifted _) = refl
names (family.ArMem ar_mem.Lar) = refl
names (family.ArMem _) = refl
names (family.Port port.In) = refl
names (family.Port _) = refl
names (family.Bit bit.Bit) = refl
names (family.Short short.Adrk) = refl
names (family.Short _) = refl
names (family.Long long.Lrlk) = refl
names (family.Long _) = refl
names (family.LongMem long_mem.Mac) = refl
names (family.LongMem _) = refl
names (family.Jump jump.B) = refl
names (family.Jump _) = refl
names (family.Plain plain.Eint) = refl
names (family.Plain _) = refl
