-- The mnemonics: each spells its row, and is a word that is no directive.
use Rattle.std.proofs.Common.{◌≡◌, true, Some, refl, sym, ap}
use Rattle.c25_meaning_instructions.specs.Spellings.{spelling_of}
use Rattle.c25_meaning_instructions.specs.Table.{spelling_text, mem_row, shifted_row, ar_mem_row, port_row, bit_row, short_row, long_row, long_mem_row, jump_row, plain_row}
use Rattle.c25_meaning_instructions.proofs.Spelled.{spelled}
use Rattle.c25_meaning_instructions.proofs.Spellings.{one_spelling}
use Rattle.c25_meaning_instructions.specs.declared.mnemonic.Spelling.{Spelling}
use Rattle.c25_meaning_instructions.specs.declared.mnemonic.MemName.{MemName}
use Rattle.c25_meaning_instructions.specs.declared.mnemonic.MemName.TheVariants as mem
use Rattle.c25_meaning_instructions.specs.declared.mnemonic.ShiftedName.{ShiftedName}
use Rattle.c25_meaning_instructions.specs.declared.mnemonic.ShiftedName.TheVariants as shifted
use Rattle.c25_meaning_instructions.specs.declared.mnemonic.ArMemName.{ArMemName}
use Rattle.c25_meaning_instructions.specs.declared.mnemonic.ArMemName.TheVariants as ar_mem
use Rattle.c25_meaning_instructions.specs.declared.mnemonic.PortName.{PortName}
use Rattle.c25_meaning_instructions.specs.declared.mnemonic.PortName.TheVariants as port
use Rattle.c25_meaning_instructions.specs.declared.mnemonic.BitName.{BitName}
use Rattle.c25_meaning_instructions.specs.declared.mnemonic.BitName.TheVariants as bit
use Rattle.c25_meaning_instructions.specs.declared.mnemonic.ShortName.{ShortName}
use Rattle.c25_meaning_instructions.specs.declared.mnemonic.ShortName.TheVariants as short
use Rattle.c25_meaning_instructions.specs.declared.mnemonic.LongName.{LongName}
use Rattle.c25_meaning_instructions.specs.declared.mnemonic.LongName.TheVariants as long
use Rattle.c25_meaning_instructions.specs.declared.mnemonic.LongMemName.{LongMemName}
use Rattle.c25_meaning_instructions.specs.declared.mnemonic.LongMemName.TheVariants as long_mem
use Rattle.c25_meaning_instructions.specs.declared.mnemonic.JumpName.{JumpName}
use Rattle.c25_meaning_instructions.specs.declared.mnemonic.JumpName.TheVariants as jump
use Rattle.c25_meaning_instructions.specs.declared.mnemonic.PlainName.{PlainName}
use Rattle.c25_meaning_instructions.specs.declared.mnemonic.PlainName.TheVariants as plain
use Rattle.c25_meaning_assembly.specs.AssemblyLine.{directive_of, is_ignored}
use Rattle.c25_meaning_expansion.specs.Acts.{directive_of as expanding_of}
use Rattle.c25_print_laws.proofs.Lines.{is_mnemonic}

-- each spelling's text spells it
pub spells : (s : Spelling) → spelling_of (spelling_text s) ≡ Some s
spells s = sym (spelled (spelling_text s) (Some s) refl (λ t same. ap Some (one_spelling (spelling_text s) s t refl same)))

pub mem_mnemonic : (name : MemName) → is_mnemonic (mem_row name).name ≡ true
unfolding directive_of is_ignored expanding_of
mem_mnemonic mem.Mpy = refl
mem_mnemonic _ = refl

pub shifted_mnemonic : (name : ShiftedName) → is_mnemonic (shifted_row name).name ≡ true
unfolding directive_of is_ignored expanding_of
shifted_mnemonic shifted.Add = refl
shifted_mnemonic _ = refl

pub ar_mem_mnemonic : (name : ArMemName) → is_mnemonic (ar_mem_row name).name ≡ true
unfolding directive_of is_ignored expanding_of
ar_mem_mnemonic ar_mem.Lar = refl
ar_mem_mnemonic _ = refl

pub port_mnemonic : (name : PortName) → is_mnemonic (port_row name).name ≡ true
unfolding directive_of is_ignored expanding_of
port_mnemonic port.In = refl
port_mnemonic _ = refl

pub bit_mnemonic : (name : BitName) → is_mnemonic (bit_row name).name ≡ true
unfolding directive_of is_ignored expanding_of
bit_mnemonic bit.Bit = refl

pub short_mnemonic : (name : ShortName) → is_mnemonic (short_row name).name ≡ true
unfolding directive_of is_ignored expanding_of
short_mnemonic short.Adrk = refl
short_mnemonic _ = refl

pub long_mnemonic : (name : LongName) → is_mnemonic (long_row name).name ≡ true
unfolding directive_of is_ignored expanding_of
long_mnemonic long.Lrlk = refl
long_mnemonic _ = refl

pub long_mem_mnemonic : (name : LongMemName) → is_mnemonic (long_mem_row name).name ≡ true
unfolding directive_of is_ignored expanding_of
long_mem_mnemonic long_mem.Macd = refl
long_mem_mnemonic _ = refl

pub jump_mnemonic : (name : JumpName) → is_mnemonic (jump_row name).name ≡ true
unfolding directive_of is_ignored expanding_of
jump_mnemonic jump.Bc = refl
jump_mnemonic _ = refl

pub plain_mnemonic : (name : PlainName) → is_mnemonic (plain_row name).name ≡ true
unfolding directive_of is_ignored expanding_of
plain_mnemonic plain.Eint = refl
plain_mnemonic _ = refl
