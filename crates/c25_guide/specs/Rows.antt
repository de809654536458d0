-- The rows of the instruction set in the form of the User's Guide (SPRU014, "Instruction Set Summary"): a mnemonic, and
-- from the seventh column on the sixteen bits of the first word, bit 15 first. 0 and 1 are bits; a letter's signs are
-- the binary digits of a number of the instruction, and I with the seven signs d is the operand in memory. A person with
-- the Guide can compare row by row.
use Rattle.std.specs.Prelude.{ℕ, List, codes}
use Rattle.c25_meaning_instructions.specs.declared.mnemonic.MemName.{MemName}
use Rattle.c25_meaning_instructions.specs.declared.mnemonic.MemName.TheVariants as mem
use Rattle.c25_meaning_instructions.specs.declared.mnemonic.ShiftedName.{ShiftedName}
use Rattle.c25_meaning_instructions.specs.declared.mnemonic.ShiftedName.TheVariants as shifted
use Rattle.c25_meaning_instructions.specs.declared.mnemonic.ArMemName.{ArMemName}
use Rattle.c25_meaning_instructions.specs.declared.mnemonic.ArMemName.TheVariants as ar_mem
use Rattle.c25_meaning_instructions.specs.declared.mnemonic.PortName.{PortName}
use Rattle.c25_meaning_instructions.specs.declared.mnemonic.PortName.TheVariants as port
use Rattle.c25_meaning_instructions.specs.declared.mnemonic.BitName.{BitName}
use Rattle.c25_meaning_instructions.specs.declared.mnemonic.BitName.TheVariants as bit
use Rattle.c25_meaning_instructions.specs.declared.mnemonic.ShortName.{ShortName}
use Rattle.c25_meaning_instructions.specs.declared.mnemonic.ShortName.TheVariants as short
use Rattle.c25_meaning_instructions.specs.declared.mnemonic.LongName.{LongName}
use Rattle.c25_meaning_instructions.specs.declared.mnemonic.LongName.TheVariants as long
use Rattle.c25_meaning_instructions.specs.declared.mnemonic.LongMemName.{LongMemName}
use Rattle.c25_meaning_instructions.specs.declared.mnemonic.LongMemName.TheVariants as long_mem
use Rattle.c25_meaning_instructions.specs.declared.mnemonic.JumpName.{JumpName}
use Rattle.c25_meaning_instructions.specs.declared.mnemonic.JumpName.TheVariants as jump
use Rattle.c25_meaning_instructions.specs.declared.mnemonic.PlainName.{PlainName}
use Rattle.c25_meaning_instructions.specs.declared.mnemonic.PlainName.TheVariants as plain

-- the rows with a data word alone
abbrev pub mem_text : MemName → List ℕ
mem_text mem.Mpy = codes "MPY   00111000Iddddddd"
mem_text mem.Sqra = codes "SQRA  00111001Iddddddd"
mem_text mem.Mpya = codes "MPYA  00111010Iddddddd"
mem_text mem.Mpys = codes "MPYS  00111011Iddddddd"
mem_text mem.Lt = codes "LT    00111100Iddddddd"
mem_text mem.Lta = codes "LTA   00111101Iddddddd"
mem_text mem.Ltp = codes "LTP   00111110Iddddddd"
mem_text mem.Ltd = codes "LTD   00111111Iddddddd"
mem_text mem.Zalh = codes "ZALH  01000000Iddddddd"
mem_text mem.Zals = codes "ZALS  01000001Iddddddd"
mem_text mem.Lact = codes "LACT  01000010Iddddddd"
mem_text mem.Addc = codes "ADDC  01000011Iddddddd"
mem_text mem.Subh = codes "SUBH  01000100Iddddddd"
mem_text mem.Subs = codes "SUBS  01000101Iddddddd"
mem_text mem.Subt = codes "SUBT  01000110Iddddddd"
mem_text mem.Subc = codes "SUBC  01000111Iddddddd"
mem_text mem.Addh = codes "ADDH  01001000Iddddddd"
mem_text mem.Adds = codes "ADDS  01001001Iddddddd"
mem_text mem.Addt = codes "ADDT  01001010Iddddddd"
mem_text mem.Rpt = codes "RPT   01001011Iddddddd"
mem_text mem.Xor = codes "XOR   01001100Iddddddd"
mem_text mem.Or = codes "OR    01001101Iddddddd"
mem_text mem.And = codes "AND   01001110Iddddddd"
mem_text mem.Subb = codes "SUBB  01001111Iddddddd"
mem_text mem.Lst = codes "LST   01010000Iddddddd"
mem_text mem.Lst1 = codes "LST1  01010001Iddddddd"
mem_text mem.Ldp = codes "LDP   01010010Iddddddd"
mem_text mem.Lph = codes "LPH   01010011Iddddddd"
mem_text mem.Pshd = codes "PSHD  01010100Iddddddd"
mem_text mem.Mar = codes "MAR   01010101Iddddddd"
mem_text mem.Dmov = codes "DMOV  01010110Iddddddd"
mem_text mem.Bitt = codes "BITT  01010111Iddddddd"
mem_text mem.Tblr = codes "TBLR  01011000Iddddddd"
mem_text mem.Tblw = codes "TBLW  01011001Iddddddd"
mem_text mem.Sqrs = codes "SQRS  01011010Iddddddd"
mem_text mem.Lts = codes "LTS   01011011Iddddddd"
mem_text mem.Sst = codes "SST   01111000Iddddddd"
mem_text mem.Sst1 = codes "SST1  01111001Iddddddd"
mem_text mem.Popd = codes "POPD  01111010Iddddddd"
mem_text mem.Zalr = codes "ZALR  01111011Iddddddd"
mem_text mem.Spl = codes "SPL   01111100Iddddddd"
mem_text mem.Sph = codes "SPH   01111101Iddddddd"
mem_text mem.Mpyu = codes "MPYU  11001111Iddddddd"

-- the rows with a data word and a shift s
abbrev pub shifted_text : ShiftedName → List ℕ
shifted_text shifted.Add = codes "ADD   0000ssssIddddddd"
shifted_text shifted.Sub = codes "SUB   0001ssssIddddddd"
shifted_text shifted.Lac = codes "LAC   0010ssssIddddddd"
shifted_text shifted.Sacl = codes "SACL  01100sssIddddddd"
shifted_text shifted.Sach = codes "SACH  01101sssIddddddd"

-- the rows with an auxiliary register r and a data word
abbrev pub ar_mem_text : ArMemName → List ℕ
ar_mem_text ar_mem.Lar = codes "LAR   00110rrrIddddddd"
ar_mem_text ar_mem.Sar = codes "SAR   01110rrrIddddddd"

-- the rows with a data word and a port p
abbrev pub port_text : PortName → List ℕ
port_text port.In = codes "IN    1000ppppIddddddd"
port_text port.Out = codes "OUT   1110ppppIddddddd"

-- the row with a data word and a bit code b
abbrev pub bit_text : BitName → List ℕ
bit_text bit.Bit = codes "BIT   1001bbbbIddddddd"

-- the rows with a constant in the first word: k, or c where it has a sign; LARK has a register r too
abbrev pub short_text : ShortName → List ℕ
short_text short.Adrk = codes "ADRK  01111110kkkkkkkk"
short_text short.Sbrk = codes "SBRK  01111111kkkkkkkk"
short_text short.Lark = codes "LARK  11000rrrkkkkkkkk"
short_text short.Lack = codes "LACK  11001010kkkkkkkk"
short_text short.Rptk = codes "RPTK  11001011kkkkkkkk"
short_text short.Addk = codes "ADDK  11001100kkkkkkkk"
short_text short.Subk = codes "SUBK  11001101kkkkkkkk"
short_text short.Ldpk = codes "LDPK  1100100kkkkkkkkk"
short_text short.Mpyk = codes "MPYK  101ccccccccccccc"

-- the rows with a constant of 16 bits in a second word, and a shift s or, in LRLK, a register r
abbrev pub long_text : LongName → List ℕ
long_text long.Lrlk = codes "LRLK  11010rrr00000000"
long_text long.Lalk = codes "LALK  1101ssss00000001"
long_text long.Adlk = codes "ADLK  1101ssss00000010"
long_text long.Sblk = codes "SBLK  1101ssss00000011"
long_text long.Andk = codes "ANDK  1101ssss00000100"
long_text long.Ork = codes "ORK   1101ssss00000101"
long_text long.Xork = codes "XORK  1101ssss00000110"

-- the rows with a data word, and an address in a second word
abbrev pub long_mem_text : LongMemName → List ℕ
long_mem_text long_mem.Macd = codes "MACD  01011100Iddddddd"
long_mem_text long_mem.Mac = codes "MAC   01011101Iddddddd"
long_mem_text long_mem.Blkp = codes "BLKP  11111100Iddddddd"
long_mem_text long_mem.Blkd = codes "BLKD  11111101Iddddddd"

-- the rows with a program address in a second word, and an indirect operand, whose seven bits are d
abbrev pub jump_text : JumpName → List ℕ
jump_text jump.Bc = codes "BC    010111101ddddddd"
jump_text jump.Bnc = codes "BNC   010111111ddddddd"
jump_text jump.Bv = codes "BV    111100001ddddddd"
jump_text jump.Bgz = codes "BGZ   111100011ddddddd"
jump_text jump.Blez = codes "BLEZ  111100101ddddddd"
jump_text jump.Blz = codes "BLZ   111100111ddddddd"
jump_text jump.Bgez = codes "BGEZ  111101001ddddddd"
jump_text jump.Bnz = codes "BNZ   111101011ddddddd"
jump_text jump.Bz = codes "BZ    111101101ddddddd"
jump_text jump.Bnv = codes "BNV   111101111ddddddd"
jump_text jump.Bbz = codes "BBZ   111110001ddddddd"
jump_text jump.Bbnz = codes "BBNZ  111110011ddddddd"
jump_text jump.Bioz = codes "BIOZ  111110101ddddddd"
jump_text jump.Banz = codes "BANZ  111110111ddddddd"
jump_text jump.Call = codes "CALL  111111101ddddddd"
jump_text jump.B = codes "B     111111111ddddddd"

-- the rows without a data word; SPM, FORT and CMPR have a number k, NORM has a change m
abbrev pub plain_text : PlainName → List ℕ
plain_text plain.Eint = codes "EINT  1100111000000000"
plain_text plain.Dint = codes "DINT  1100111000000001"
plain_text plain.Rovm = codes "ROVM  1100111000000010"
plain_text plain.Sovm = codes "SOVM  1100111000000011"
plain_text plain.Cnfd = codes "CNFD  1100111000000100"
plain_text plain.Cnfp = codes "CNFP  1100111000000101"
plain_text plain.Rsxm = codes "RSXM  1100111000000110"
plain_text plain.Ssxm = codes "SSXM  1100111000000111"
plain_text plain.Rxf = codes "RXF   1100111000001100"
plain_text plain.Sxf = codes "SXF   1100111000001101"
plain_text plain.Pac = codes "PAC   1100111000010100"
plain_text plain.Apac = codes "APAC  1100111000010101"
plain_text plain.Spac = codes "SPAC  1100111000010110"
plain_text plain.Sfl = codes "SFL   1100111000011000"
plain_text plain.Sfr = codes "SFR   1100111000011001"
plain_text plain.Abs = codes "ABS   1100111000011011"
plain_text plain.Push = codes "PUSH  1100111000011100"
plain_text plain.Pop = codes "POP   1100111000011101"
plain_text plain.Trap = codes "TRAP  1100111000011110"
plain_text plain.Idle = codes "IDLE  1100111000011111"
plain_text plain.Rtxm = codes "RTXM  1100111000100000"
plain_text plain.Stxm = codes "STXM  1100111000100001"
plain_text plain.Neg = codes "NEG   1100111000100011"
plain_text plain.Cala = codes "CALA  1100111000100100"
plain_text plain.Bacc = codes "BACC  1100111000100101"
plain_text plain.Ret = codes "RET   1100111000100110"
plain_text plain.Cmpl = codes "CMPL  1100111000100111"
plain_text plain.Rc = codes "RC    1100111000110000"
plain_text plain.Sc = codes "SC    1100111000110001"
plain_text plain.Rtc = codes "RTC   1100111000110010"
plain_text plain.Stc = codes "STC   1100111000110011"
plain_text plain.Rol = codes "ROL   1100111000110100"
plain_text plain.Ror = codes "ROR   1100111000110101"
plain_text plain.Rfsm = codes "RFSM  1100111000110110"
plain_text plain.Sfsm = codes "SFSM  1100111000110111"
plain_text plain.Rhm = codes "RHM   1100111000111000"
plain_text plain.Shm = codes "SHM   1100111000111001"
plain_text plain.Spm = codes "SPM   11001110000010kk"
plain_text plain.Fort = codes "FORT  110011100000111k"
plain_text plain.Cmpr = codes "CMPR  11001110010100kk"
plain_text plain.Norm = codes "NORM  110011101mmm0010"
