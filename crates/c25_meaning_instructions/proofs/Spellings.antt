-- No two spellings have the same letters.
use Rattle.std.proofs.Common.{◌≡◌, ℕ, ◌+◌, ◌*◌, List, [], ◌∷◌, map, Some, refl, sym, ap, ◌∙◌}
use Rattle.std.specs.Char.{to_ascii_lowercase}
use Rattle.c25_meaning_instructions.specs.Table.{spelling_text, SameLetters}
use Rattle.c25_meaning_instructions.specs.declared.mnemonic.Mnemonic.TheVariants as family
use Rattle.c25_meaning_instructions.specs.declared.mnemonic.Spelling.{Spelling}
use Rattle.c25_meaning_instructions.specs.declared.mnemonic.Spelling.TheVariants as spelling
use Rattle.c25_meaning_instructions.specs.declared.mnemonic.MemName.{MemName}
use Rattle.c25_meaning_instructions.specs.declared.mnemonic.MemName.TheVariants as mem
use Rattle.c25_meaning_instructions.specs.declared.mnemonic.ShiftedName.{ShiftedName}
use Rattle.c25_meaning_instructions.specs.declared.mnemonic.ShiftedName.TheVariants as shifted
use Rattle.c25_meaning_instructions.specs.declared.mnemonic.ArMemName.{ArMemName}
use Rattle.c25_meaning_instructions.specs.declared.mnemonic.ArMemName.TheVariants as ar_mem
use Rattle.c25_meaning_instructions.specs.declared.mnemonic.PortName.{PortName}
use Rattle.c25_meaning_instructions.specs.declared.mnemonic.PortName.TheVariants as port
use Rattle.c25_meaning_instructions.specs.declared.mnemonic.BitName.{BitName}
use Rattle.c25_meaning_instructions.specs.declared.mnemonic.BitName.TheVariants as bit
use Rattle.c25_meaning_instructions.specs.declared.mnemonic.ShortName.{ShortName}
use Rattle.c25_meaning_instructions.specs.declared.mnemonic.ShortName.TheVariants as short
use Rattle.c25_meaning_instructions.specs.declared.mnemonic.LongName.{LongName}
use Rattle.c25_meaning_instructions.specs.declared.mnemonic.LongName.TheVariants as long
use Rattle.c25_meaning_instructions.specs.declared.mnemonic.LongMemName.{LongMemName}
use Rattle.c25_meaning_instructions.specs.declared.mnemonic.LongMemName.TheVariants as long_mem
use Rattle.c25_meaning_instructions.specs.declared.mnemonic.JumpName.{JumpName}
use Rattle.c25_meaning_instructions.specs.declared.mnemonic.JumpName.TheVariants as jump
use Rattle.c25_meaning_instructions.specs.declared.mnemonic.PlainName.{PlainName}
use Rattle.c25_meaning_instructions.specs.declared.mnemonic.PlainName.TheVariants as plain
use Rattle.c25_meaning_instructions.proofs.Keys.{found_by, one_by}
use Rattle.c25_meaning_instructions.specs.Spellings.{spellings}

-- a text as one number
abbrev pub number : List ℕ → ℕ
number [] = 0
number (c ∷ cs) = c + 256 * number cs

-- the letters of a spelling, as one number
abbrev pub letters : Spelling → ℕ
letters s = number (map to_ascii_lowercase (spelling_text s))

mem_found : (name : MemName) → found_by letters (letters (spelling.Row (family.Mem name))) spellings ≡ Some (spelling.Row (family.Mem name))
unfolding spellings
mem_found mem.Mpy = refl
mem_found _ = refl

shifted_found : (name : ShiftedName) → found_by letters (letters (spelling.Row (family.Shifted name))) spellings ≡ Some (spelling.Row (family.Shifted name))
unfolding spellings
shifted_found shifted.Add = refl
shifted_found _ = refl

ar_mem_found : (name : ArMemName) → found_by letters (letters (spelling.Row (family.ArMem name))) spellings ≡ Some (spelling.Row (family.ArMem name))
unfolding spellings
ar_mem_found ar_mem.Lar = refl
ar_mem_found _ = refl

port_found : (name : PortName) → found_by letters (letters (spelling.Row (family.Port name))) spellings ≡ Some (spelling.Row (family.Port name))
unfolding spellings
port_found port.In = refl
port_found _ = refl

bit_found : (name : BitName) → found_by letters (letters (spelling.Row (family.Bit name))) spellings ≡ Some (spelling.Row (family.Bit name))
unfolding spellings
bit_found bit.Bit = refl

short_found : (name : ShortName) → found_by letters (letters (spelling.Row (family.Short name))) spellings ≡ Some (spelling.Row (family.Short name))
unfolding spellings
short_found short.Adrk = refl
short_found _ = refl

long_found : (name : LongName) → found_by letters (letters (spelling.Row (family.Long name))) spellings ≡ Some (spelling.Row (family.Long name))
unfolding spellings
long_found long.Lrlk = refl
long_found _ = refl

long_mem_found : (name : LongMemName) → found_by letters (letters (spelling.Row (family.LongMem name))) spellings ≡ Some (spelling.Row (family.LongMem name))
unfolding spellings
long_mem_found long_mem.Macd = refl
long_mem_found _ = refl

jump_found : (name : JumpName) → found_by letters (letters (spelling.Row (family.Jump name))) spellings ≡ Some (spelling.Row (family.Jump name))
unfolding spellings
jump_found jump.Bc = refl
jump_found _ = refl

plain_found : (name : PlainName) → found_by letters (letters (spelling.Row (family.Plain name))) spellings ≡ Some (spelling.Row (family.Plain name))
unfolding spellings
plain_found plain.Eint = refl
plain_found _ = refl

pub found : (s : Spelling) → found_by letters (letters s) spellings ≡ Some s
unfolding spellings
found (spelling.Row (family.Mem name)) = mem_found name
found (spelling.Row (family.Shifted name)) = shifted_found name
found (spelling.Row (family.ArMem name)) = ar_mem_found name
found (spelling.Row (family.Port name)) = port_found name
found (spelling.Row (family.Bit name)) = bit_found name
found (spelling.Row (family.Short name)) = short_found name
found (spelling.Row (family.Long name)) = long_found name
found (spelling.Row (family.LongMem name)) = long_mem_found name
found (spelling.Row (family.Jump name)) = jump_found name
found (spelling.Row (family.Plain name)) = plain_found name
found _ = refl

-- one text spells one thing
pub one_spelling : (text : List ℕ) (a b : Spelling) → SameLetters text (spelling_text a) → SameLetters text (spelling_text b) → a ≡ b
one_spelling text a b of_a of_b = one_by letters spellings found a b (ap number (sym of_a ∙ of_b))
