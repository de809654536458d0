-- Which fields of the status words each instruction affects, as the page of each says ("Affects C", "Affects OV"; SPRU014,
-- "Assembly Language Instructions"). All fields that no line names stay as they are.
use Rattle.std.specs.Prelude.{◌≡◌, ◌≢◌, IsOkAnd, ℕ, Bool, true, false, ◌||◌, List, [], ◌∷◌, Option, None, Some, if◌then◌else◌}
use Rattle.c25_meaning_instructions.specs.declared.insn.Insn.{Insn}
use Rattle.c25_meaning_instructions.specs.declared.insn.Insn.TheVariants as insn
use Rattle.c25_meaning_instructions.specs.declared.insn.Addr.{Addr}
use Rattle.c25_meaning_instructions.specs.declared.insn.Addr.TheVariants.{Direct, Indirect}
use Rattle.c25_meaning_instructions.specs.declared.mnemonic.MemName.{MemName}
use Rattle.c25_meaning_instructions.specs.declared.mnemonic.MemName.TheVariants as mem
use Rattle.c25_meaning_instructions.specs.declared.mnemonic.ShiftedName.{ShiftedName}
use Rattle.c25_meaning_instructions.specs.declared.mnemonic.ShiftedName.TheVariants as shifted
use Rattle.c25_meaning_instructions.specs.declared.mnemonic.BitName.{BitName}
use Rattle.c25_meaning_instructions.specs.declared.mnemonic.BitName.TheVariants as bit
use Rattle.c25_meaning_instructions.specs.declared.mnemonic.ShortName.{ShortName}
use Rattle.c25_meaning_instructions.specs.declared.mnemonic.ShortName.TheVariants as short
use Rattle.c25_meaning_instructions.specs.declared.mnemonic.LongName.{LongName}
use Rattle.c25_meaning_instructions.specs.declared.mnemonic.LongName.TheVariants as long
use Rattle.c25_meaning_instructions.specs.declared.mnemonic.LongMemName.{LongMemName}
use Rattle.c25_meaning_instructions.specs.declared.mnemonic.LongMemName.TheVariants as long_mem
use Rattle.c25_meaning_instructions.specs.declared.mnemonic.JumpName.{JumpName}
use Rattle.c25_meaning_instructions.specs.declared.mnemonic.JumpName.TheVariants as jump
use Rattle.c25_meaning_instructions.specs.declared.mnemonic.PlainName.{PlainName}
use Rattle.c25_meaning_instructions.specs.declared.mnemonic.PlainName.TheVariants as plain
use Rattle.c25_meaning_instructions.specs.declared.mnemonic.Mnemonic.{Mnemonic}
use Rattle.c25_meaning_instructions.specs.declared.mnemonic.Mnemonic.TheVariants as family
use Rattle.c25_meaning_instructions.specs.Table.{mnemonic_of}
use Rattle.c25_meaning_processor.specs.Effect.{effect}
use Rattle.c25_meaning_processor.specs.State.{World}
use Rattle.c25_meaning_processor.specs.declared.registers.Registers.{Registers}
use Rattle.c25_guide.specs.StatusWords.{pm_number}

-- the fields of ST0 and ST1
pub data Flag : Type 0 where
  ARP : Flag
  OV : Flag
  OVM : Flag
  INTM : Flag
  DP : Flag
  ARB : Flag
  CNF : Flag
  TC : Flag
  SXM : Flag
  C : Flag
  HM : Flag
  FSM : Flag
  XF : Flag
  FO : Flag
  TXM : Flag
  PM : Flag

-- whether two fields are the same
abbrev pub same : Flag → Flag → Bool
same ARP ARP = true
same OV OV = true
same OVM OVM = true
same INTM INTM = true
same DP DP = true
same ARB ARB = true
same CNF CNF = true
same TC TC = true
same SXM SXM = true
same C C = true
same HM HM = true
same FSM FSM = true
same XF XF = true
same FO FO = true
same TXM TXM = true
same PM PM = true
same f g = false

-- whether a field is among others
abbrev pub among : Flag → List Flag → Bool
among f [] = false
among f (first ∷ flags) = same f first || among f flags

-- a flag of one bit as a number
abbrev pub one_if : Bool → ℕ
one_if set = if set then 1 else 0

-- the number of a field
abbrev pub number_of : Flag → Registers → ℕ
number_of ARP r = r.arp
number_of OV r = one_if r.acc.ov
number_of OVM r = one_if r.ovm
number_of INTM r = one_if r.intm
number_of DP r = r.dp
number_of ARB r = r.arb
number_of CNF r = one_if r.cnf
number_of TC r = one_if r.tc
number_of SXM r = one_if r.sxm
number_of C r = one_if r.acc.c
number_of HM r = one_if r.hm
number_of FSM r = one_if r.fsm
number_of XF r = one_if r.xf
number_of FO r = one_if r.fo
number_of TXM r = one_if r.txm
number_of PM r = pm_number r.pm

-- ---- what a row affects, whatever its operand in memory

abbrev pub mem_affects : MemName → List Flag
mem_affects mem.Sqra = C ∷ OV ∷ []
mem_affects mem.Mpya = C ∷ OV ∷ []
mem_affects mem.Mpys = C ∷ OV ∷ []
mem_affects mem.Lta = C ∷ OV ∷ []
mem_affects mem.Ltd = C ∷ OV ∷ []
mem_affects mem.Addc = C ∷ OV ∷ []
mem_affects mem.Subh = C ∷ OV ∷ []
mem_affects mem.Subs = C ∷ OV ∷ []
mem_affects mem.Subt = C ∷ OV ∷ []
mem_affects mem.Subc = C ∷ OV ∷ []
mem_affects mem.Addh = C ∷ OV ∷ []
mem_affects mem.Adds = C ∷ OV ∷ []
mem_affects mem.Addt = C ∷ OV ∷ []
mem_affects mem.Subb = C ∷ OV ∷ []
mem_affects mem.Lst = ARP ∷ OV ∷ OVM ∷ DP ∷ []
mem_affects mem.Lst1 = ARP ∷ ARB ∷ CNF ∷ TC ∷ SXM ∷ C ∷ HM ∷ FSM ∷ XF ∷ FO ∷ TXM ∷ PM ∷ []
mem_affects mem.Ldp = DP ∷ []
mem_affects mem.Bitt = TC ∷ []
mem_affects mem.Sqrs = C ∷ OV ∷ []
mem_affects mem.Lts = C ∷ OV ∷ []
mem_affects name = []

abbrev pub shifted_affects : ShiftedName → List Flag
shifted_affects shifted.Add = C ∷ OV ∷ []
shifted_affects shifted.Sub = C ∷ OV ∷ []
shifted_affects name = []

abbrev pub bit_affects : BitName → List Flag
bit_affects bit.Bit = TC ∷ []

abbrev pub short_affects : ShortName → List Flag
short_affects short.Addk = C ∷ OV ∷ []
short_affects short.Subk = C ∷ OV ∷ []
short_affects short.Ldpk = DP ∷ []
short_affects name = []

abbrev pub long_affects : LongName → List Flag
long_affects long.Adlk = C ∷ OV ∷ []
long_affects long.Sblk = C ∷ OV ∷ []
long_affects name = []

abbrev pub long_mem_affects : LongMemName → List Flag
long_mem_affects long_mem.Macd = C ∷ OV ∷ []
long_mem_affects long_mem.Mac = C ∷ OV ∷ []
long_mem_affects name = []

abbrev pub jump_affects : JumpName → List Flag
jump_affects jump.Bv = OV ∷ []
jump_affects jump.Bnv = OV ∷ []
jump_affects name = []

abbrev pub plain_affects : PlainName → List Flag
plain_affects plain.Eint = INTM ∷ []
plain_affects plain.Dint = INTM ∷ []
plain_affects plain.Rovm = OVM ∷ []
plain_affects plain.Sovm = OVM ∷ []
plain_affects plain.Cnfd = CNF ∷ []
plain_affects plain.Cnfp = CNF ∷ []
plain_affects plain.Rsxm = SXM ∷ []
plain_affects plain.Ssxm = SXM ∷ []
plain_affects plain.Rxf = XF ∷ []
plain_affects plain.Sxf = XF ∷ []
plain_affects plain.Apac = C ∷ OV ∷ []
plain_affects plain.Spac = C ∷ OV ∷ []
plain_affects plain.Sfl = C ∷ []
plain_affects plain.Sfr = C ∷ []
plain_affects plain.Abs = C ∷ OV ∷ []
plain_affects plain.Idle = INTM ∷ []
plain_affects plain.Rtxm = TXM ∷ []
plain_affects plain.Stxm = TXM ∷ []
plain_affects plain.Neg = C ∷ OV ∷ []
plain_affects plain.Rc = C ∷ []
plain_affects plain.Sc = C ∷ []
plain_affects plain.Rtc = TC ∷ []
plain_affects plain.Stc = TC ∷ []
plain_affects plain.Rol = C ∷ []
plain_affects plain.Ror = C ∷ []
plain_affects plain.Rfsm = FSM ∷ []
plain_affects plain.Sfsm = FSM ∷ []
plain_affects plain.Rhm = HM ∷ []
plain_affects plain.Shm = HM ∷ []
plain_affects plain.Spm = PM ∷ []
plain_affects plain.Fort = FO ∷ []
plain_affects plain.Cmpr = TC ∷ []
plain_affects plain.Norm = TC ∷ []
plain_affects name = []

-- what each row affects
abbrev pub row_affects : Mnemonic → List Flag
row_affects (family.Mem name) = mem_affects name
row_affects (family.Shifted name) = shifted_affects name
row_affects (family.ArMem name) = []
row_affects (family.Port name) = []
row_affects (family.Bit name) = bit_affects name
row_affects (family.Short name) = short_affects name
row_affects (family.Long name) = long_affects name
row_affects (family.LongMem name) = long_mem_affects name
row_affects (family.Jump name) = jump_affects name
row_affects (family.Plain name) = plain_affects name

-- an instruction of a row, and a state in which it changes a field
pub record Changes (row : Mnemonic) (f : Flag) : Type 0 where
  pub instruction : Insn
  pub registers : Registers
  pub world : World
  pub is_of_row : mnemonic_of instruction ≡ row
  pub changes : IsOkAnd (effect instruction 0 true registers world) (λ s. number_of f s.registers ≢ number_of f registers)

-- ---- what the next auxiliary register of an operand affects

-- ARP, and its old number goes to ARB; nothing where no next register is given
abbrev pub next_affects : Option ℕ → List Flag
next_affects None = []
next_affects (Some next) = ARP ∷ ARB ∷ []

abbrev pub operand_affects : Addr → List Flag
operand_affects (Direct low) = []
operand_affects (Indirect change next) = next_affects next

-- LST and LST1 ignore the next register, since they load ARP
abbrev pub mem_operand_affects : MemName → Addr → List Flag
mem_operand_affects mem.Lst a = []
mem_operand_affects mem.Lst1 a = []
mem_operand_affects name a = operand_affects a

-- whether an instruction affects a field
abbrev pub affects : Insn → Flag → Bool
affects (insn.Mem name a) f = among f (mem_affects name) || among f (mem_operand_affects name a)
affects (insn.Shifted name a s) f = among f (shifted_affects name) || among f (operand_affects a)
affects (insn.ArMem name r a) f = among f (operand_affects a)
affects (insn.Port name a p) f = among f (operand_affects a)
affects (insn.Bit name a b) f = among f (bit_affects name) || among f (operand_affects a)
affects (insn.Short name r k) f = among f (short_affects name)
affects (insn.Long name k high) f = among f (long_affects name)
affects (insn.LongMem name w a) f = among f (long_mem_affects name) || among f (operand_affects a)
affects (insn.Jump name w change next) f = among f (jump_affects name) || among f (next_affects next)
affects (insn.Plain name o) f = among f (plain_affects name)
