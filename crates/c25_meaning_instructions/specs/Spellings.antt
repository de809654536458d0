-- The names of the instructions, by families, and which instruction a mnemonic spells (SPRU014, "Instruction
-- Set Summary"; ZAC, NOP and LARP are other spellings of LACK, MAR and MAR).
use Rattle.std.specs.Prelude.{ℕ, List, [], ◌∷◌, ◌++◌, Option, map, find}
use Rattle.std.specs.Str.{str_eq_ignore_ascii_case}
use Rattle.c25_meaning_instructions.specs.Table.{spelling_text}
use Rattle.c25_meaning_instructions.specs.declared.mnemonic.Spelling.{Spelling}
use Rattle.c25_meaning_instructions.specs.declared.mnemonic.Spelling.TheVariants.{Row, Zac, Nop, Larp}
use Rattle.c25_meaning_instructions.specs.declared.mnemonic.Mnemonic.{Mnemonic}
use Rattle.c25_meaning_instructions.specs.declared.mnemonic.Mnemonic.TheVariants as family
use Rattle.c25_meaning_instructions.specs.declared.mnemonic.MemName.{MemName}
use Rattle.c25_meaning_instructions.specs.declared.mnemonic.MemName.TheVariants as mem
use Rattle.c25_meaning_instructions.specs.declared.mnemonic.ShiftedName.{ShiftedName}
use Rattle.c25_meaning_instructions.specs.declared.mnemonic.ShiftedName.TheVariants as shifted
use Rattle.c25_meaning_instructions.specs.declared.mnemonic.ArMemName.{ArMemName}
use Rattle.c25_meaning_instructions.specs.declared.mnemonic.ArMemName.TheVariants as ar_mem
use Rattle.c25_meaning_instructions.specs.declared.mnemonic.PortName.{PortName}
use Rattle.c25_meaning_instructions.specs.declared.mnemonic.PortName.TheVariants as port
use Rattle.c25_meaning_instructions.specs.declared.mnemonic.BitName.{BitName}
use Rattle.c25_meaning_instructions.specs.declared.mnemonic.BitName.TheVariants as bit
use Rattle.c25_meaning_instructions.specs.declared.mnemonic.ShortName.{ShortName}
use Rattle.c25_meaning_instructions.specs.declared.mnemonic.ShortName.TheVariants as short
use Rattle.c25_meaning_instructions.specs.declared.mnemonic.LongName.{LongName}
use Rattle.c25_meaning_instructions.specs.declared.mnemonic.LongName.TheVariants as long
use Rattle.c25_meaning_instructions.specs.declared.mnemonic.LongMemName.{LongMemName}
use Rattle.c25_meaning_instructions.specs.declared.mnemonic.LongMemName.TheVariants as long_mem
use Rattle.c25_meaning_instructions.specs.declared.mnemonic.JumpName.{JumpName}
use Rattle.c25_meaning_instructions.specs.declared.mnemonic.JumpName.TheVariants as jump
use Rattle.c25_meaning_instructions.specs.declared.mnemonic.PlainName.{PlainName}
use Rattle.c25_meaning_instructions.specs.declared.mnemonic.PlainName.TheVariants as plain

-- the instructions with a data word alone
abbrev pub mem_names : List MemName
mem_names = mem.Mpy ∷ mem.Sqra ∷ mem.Mpya ∷ mem.Mpys ∷ mem.Lt ∷ mem.Lta ∷ mem.Ltp ∷ mem.Ltd ∷ mem.Zalh ∷
    mem.Zals ∷ mem.Lact ∷ mem.Addc ∷ mem.Subh ∷ mem.Subs ∷ mem.Subt ∷ mem.Subc ∷ mem.Addh ∷ mem.Adds ∷
    mem.Addt ∷ mem.Rpt ∷ mem.Xor ∷ mem.Or ∷ mem.And ∷ mem.Subb ∷ mem.Lst ∷ mem.Lst1 ∷ mem.Ldp ∷ mem.Lph ∷
    mem.Pshd ∷ mem.Mar ∷ mem.Dmov ∷ mem.Bitt ∷ mem.Tblr ∷ mem.Tblw ∷ mem.Sqrs ∷ mem.Lts ∷ mem.Sst ∷ mem.Sst1 ∷
    mem.Popd ∷ mem.Zalr ∷ mem.Spl ∷ mem.Sph ∷ mem.Mpyu ∷ []

-- the instructions with a data word and a shift
abbrev pub shifted_names : List ShiftedName
shifted_names = shifted.Add ∷ shifted.Sub ∷ shifted.Lac ∷ shifted.Sacl ∷ shifted.Sach ∷ []

-- the instructions with an auxiliary register and a data word
abbrev pub ar_mem_names : List ArMemName
ar_mem_names = ar_mem.Lar ∷ ar_mem.Sar ∷ []

-- the instructions with a data word and a port
abbrev pub port_names : List PortName
port_names = port.In ∷ port.Out ∷ []

-- the instruction with a data word and a bit code
abbrev pub bit_names : List BitName
bit_names = bit.Bit ∷ []

-- the instructions with a short immediate number
abbrev pub short_names : List ShortName
short_names = short.Adrk ∷ short.Sbrk ∷ short.Lark ∷ short.Lack ∷ short.Rptk ∷ short.Addk ∷ short.Subk ∷
    short.Ldpk ∷ short.Mpyk ∷ []

-- the instructions with a long immediate number
abbrev pub long_names : List LongName
long_names = long.Lrlk ∷ long.Lalk ∷ long.Adlk ∷ long.Sblk ∷ long.Andk ∷ long.Ork ∷ long.Xork ∷ []

-- the instructions with an address in a second word and a data word
abbrev pub long_mem_names : List LongMemName
long_mem_names = long_mem.Macd ∷ long_mem.Mac ∷ long_mem.Blkp ∷ long_mem.Blkd ∷ []

-- the instructions with a program address and an indirect operand
abbrev pub jump_names : List JumpName
jump_names = jump.Bc ∷ jump.Bnc ∷ jump.Bv ∷ jump.Bgz ∷ jump.Blez ∷ jump.Blz ∷ jump.Bgez ∷ jump.Bnz ∷ jump.Bz ∷
    jump.Bnv ∷ jump.Bbz ∷ jump.Bbnz ∷ jump.Bioz ∷ jump.Banz ∷ jump.Call ∷ jump.B ∷ []

-- the instructions of one word that have neither a data word nor a number of 8 bits or more
abbrev pub plain_names : List PlainName
plain_names = plain.Eint ∷ plain.Dint ∷ plain.Rovm ∷ plain.Sovm ∷ plain.Cnfd ∷ plain.Cnfp ∷ plain.Rsxm ∷
    plain.Ssxm ∷ plain.Rxf ∷ plain.Sxf ∷ plain.Pac ∷ plain.Apac ∷ plain.Spac ∷ plain.Sfl ∷ plain.Sfr ∷
    plain.Abs ∷ plain.Push ∷ plain.Pop ∷ plain.Trap ∷ plain.Idle ∷ plain.Rtxm ∷ plain.Stxm ∷ plain.Neg ∷
    plain.Cala ∷ plain.Bacc ∷ plain.Ret ∷ plain.Cmpl ∷ plain.Rc ∷ plain.Sc ∷ plain.Rtc ∷ plain.Stc ∷
    plain.Rol ∷ plain.Ror ∷ plain.Rfsm ∷ plain.Sfsm ∷ plain.Rhm ∷ plain.Shm ∷ plain.Spm ∷ plain.Fort ∷
    plain.Cmpr ∷ plain.Norm ∷ []

-- all 130 rows of the opcode table
abbrev pub rows : List Mnemonic
rows =
    map family.Mem mem_names
    ++ map family.Shifted shifted_names
    ++ map family.ArMem ar_mem_names
    ++ map family.Port port_names
    ++ map family.Bit bit_names
    ++ map family.Short short_names
    ++ map family.Long long_names
    ++ map family.LongMem long_mem_names
    ++ map family.Jump jump_names
    ++ map family.Plain plain_names

-- all spellings: the rows of the table, and the three others
unfoldable pub spellings : List Spelling
spellings = map Row rows ++ Zac ∷ Nop ∷ Larp ∷ []

-- the spelling that a mnemonic is, in upper or lower case, if it is one
unfoldable pub spelling_of : List ℕ → Option Spelling
spelling_of word = find (λ s. str_eq_ignore_ascii_case word (spelling_text s)) spellings
