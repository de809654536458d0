-- No two rows of one family have the same base, and most bases are whole high bytes.
use Rattle.std.proofs.Common.{◌≡◌, ◌%◌, Some, refl}
use Rattle.c25_meaning_instructions.specs.Table.{mem_row, shifted_row, ar_mem_row, port_row, short_row, long_row, long_mem_row, jump_row, plain_row}
use Rattle.c25_meaning_instructions.proofs.Keys.{found_by, one_by}
use Rattle.c25_meaning_instructions.specs.Spellings.{mem_names, shifted_names, ar_mem_names, port_names, short_names, long_names, long_mem_names, jump_names, plain_names}
use Rattle.c25_meaning_instructions.specs.declared.mnemonic.MemName.{MemName}
use Rattle.c25_meaning_instructions.specs.declared.mnemonic.MemName.TheVariants as mem
use Rattle.c25_meaning_instructions.specs.declared.mnemonic.ShiftedName.{ShiftedName}
use Rattle.c25_meaning_instructions.specs.declared.mnemonic.ShiftedName.TheVariants as shifted
use Rattle.c25_meaning_instructions.specs.declared.mnemonic.ArMemName.{ArMemName}
use Rattle.c25_meaning_instructions.specs.declared.mnemonic.ArMemName.TheVariants as ar_mem
use Rattle.c25_meaning_instructions.specs.declared.mnemonic.PortName.{PortName}
use Rattle.c25_meaning_instructions.specs.declared.mnemonic.PortName.TheVariants as port
use Rattle.c25_meaning_instructions.specs.declared.mnemonic.ShortName.{ShortName}
use Rattle.c25_meaning_instructions.specs.declared.mnemonic.ShortName.TheVariants as short
use Rattle.c25_meaning_instructions.specs.declared.mnemonic.LongName.{LongName}
use Rattle.c25_meaning_instructions.specs.declared.mnemonic.LongName.TheVariants as long
use Rattle.c25_meaning_instructions.specs.declared.mnemonic.LongMemName.{LongMemName}
use Rattle.c25_meaning_instructions.specs.declared.mnemonic.LongMemName.TheVariants as long_mem
use Rattle.c25_meaning_instructions.specs.declared.mnemonic.JumpName.{JumpName}
use Rattle.c25_meaning_instructions.specs.declared.mnemonic.JumpName.TheVariants as jump
use Rattle.c25_meaning_instructions.specs.declared.mnemonic.PlainName.{PlainName}
use Rattle.c25_meaning_instructions.specs.declared.mnemonic.PlainName.TheVariants as plain

-- each family: the list of its names finds each by its base, so one base is one name's; and the bases that lie below
-- an operand byte are multiples of 256
mem_found : (name : MemName) → found_by (λ n. (mem_row n).base) (mem_row name).base mem_names ≡ Some name
mem_found mem.Mpy = refl
mem_found _ = refl

pub one_mem : (name other : MemName) → (mem_row name).base ≡ (mem_row other).base → name ≡ other
one_mem = one_by (λ n. (mem_row n).base) mem_names mem_found

pub mem_whole : (name : MemName) → (mem_row name).base % 256 ≡ 0
mem_whole mem.Mpy = refl
mem_whole _ = refl

shifted_found : (name : ShiftedName) → found_by (λ n. (shifted_row n).base) (shifted_row name).base shifted_names ≡ Some name
shifted_found shifted.Add = refl
shifted_found _ = refl

pub one_shifted : (name other : ShiftedName) → (shifted_row name).base ≡ (shifted_row other).base → name ≡ other
one_shifted = one_by (λ n. (shifted_row n).base) shifted_names shifted_found

ar_mem_found : (name : ArMemName) → found_by (λ n. (ar_mem_row n).base) (ar_mem_row name).base ar_mem_names ≡ Some name
ar_mem_found ar_mem.Lar = refl
ar_mem_found _ = refl

pub one_ar_mem : (name other : ArMemName) → (ar_mem_row name).base ≡ (ar_mem_row other).base → name ≡ other
one_ar_mem = one_by (λ n. (ar_mem_row n).base) ar_mem_names ar_mem_found

port_found : (name : PortName) → found_by (λ n. (port_row n).base) (port_row name).base port_names ≡ Some name
port_found port.In = refl
port_found _ = refl

pub one_port : (name other : PortName) → (port_row name).base ≡ (port_row other).base → name ≡ other
one_port = one_by (λ n. (port_row n).base) port_names port_found

short_found : (name : ShortName) → found_by (λ n. (short_row n).base) (short_row name).base short_names ≡ Some name
short_found short.Adrk = refl
short_found _ = refl

pub one_short : (name other : ShortName) → (short_row name).base ≡ (short_row other).base → name ≡ other
one_short = one_by (λ n. (short_row n).base) short_names short_found

long_found : (name : LongName) → found_by (λ n. (long_row n).base) (long_row name).base long_names ≡ Some name
long_found long.Lrlk = refl
long_found _ = refl

pub one_long : (name other : LongName) → (long_row name).base ≡ (long_row other).base → name ≡ other
one_long = one_by (λ n. (long_row n).base) long_names long_found

long_mem_found : (name : LongMemName) → found_by (λ n. (long_mem_row n).base) (long_mem_row name).base long_mem_names ≡ Some name
long_mem_found long_mem.Macd = refl
long_mem_found _ = refl

pub one_long_mem : (name other : LongMemName) → (long_mem_row name).base ≡ (long_mem_row other).base → name ≡ other
one_long_mem = one_by (λ n. (long_mem_row n).base) long_mem_names long_mem_found

pub long_mem_whole : (name : LongMemName) → (long_mem_row name).base % 256 ≡ 0
long_mem_whole long_mem.Macd = refl
long_mem_whole _ = refl

jump_found : (name : JumpName) → found_by (λ n. (jump_row n).base) (jump_row name).base jump_names ≡ Some name
jump_found jump.Bc = refl
jump_found _ = refl

pub one_jump : (name other : JumpName) → (jump_row name).base ≡ (jump_row other).base → name ≡ other
one_jump = one_by (λ n. (jump_row n).base) jump_names jump_found

pub jump_whole : (name : JumpName) → (jump_row name).base % 256 ≡ 0
jump_whole jump.Bc = refl
jump_whole _ = refl

plain_found : (name : PlainName) → found_by (λ n. (plain_row n).base) (plain_row name).base plain_names ≡ Some name
plain_found plain.Eint = refl
plain_found _ = refl

pub one_plain : (name other : PlainName) → (plain_row name).base ≡ (plain_row other).base → name ≡ other
one_plain = one_by (λ n. (plain_row n).base) plain_names plain_found
