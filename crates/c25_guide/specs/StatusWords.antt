-- The status words as signs, bit 15 first (SPRU014, "Status Registers"): 1 is a bit, a letter's signs are the binary digits
-- of a field.
use Rattle.std.specs.Prelude.{ℕ, ◌+◌, ◌*◌, ◌/◌, ◌%◌, ◌^◌, ◌==◌, pos, Bool, List, [], ◌∷◌, length, codes, if◌then◌else◌}
use Rattle.c25_meaning_processor.specs.declared.accumulator.ProductShift.{ProductShift}
use Rattle.c25_meaning_processor.specs.declared.accumulator.ProductShift.TheVariants as shift
use Rattle.c25_meaning_processor.specs.declared.registers.Registers.{Registers}
use Rattle.c25_guide.specs.Patterns.{sign, count, Field, field}

-- ARP, OV, OVM, 1, INTM, DP
abbrev pub st0_signs : List ℕ
st0_signs = codes "aaavm1iddddddddd"

-- ARB, CNF, TC, SXM, C, 1, 1, HM, FSM, XF, FO, TXM, PM
abbrev pub st1_signs : List ℕ
st1_signs = codes "bbbntsc11hfxoypp"

-- a flag of one bit, with its letter
abbrev pub flag : List ℕ → Bool → Field
flag letter set = field letter (pos (if set then 1 else 0))

-- the number of PM
abbrev pub pm_number : ProductShift → ℕ
pm_number shift.None = 0
pm_number shift.Left1 = 1
pm_number shift.Left4 = 2
pm_number shift.Right6 = 3

-- the fields of ST0
abbrev pub st0_fields : Registers → List Field
st0_fields r =
    field (codes "a") (pos r.arp) ∷ flag (codes "v") r.acc.ov ∷ flag (codes "m") r.ovm ∷ flag (codes "i") r.intm
    ∷ field (codes "d") (pos r.dp) ∷ []

-- the fields of ST1
abbrev pub st1_fields : Registers → List Field
st1_fields r =
    field (codes "b") (pos r.arb) ∷ flag (codes "n") r.cnf ∷ flag (codes "t") r.tc ∷ flag (codes "s") r.sxm
    ∷ flag (codes "c") r.acc.c ∷ flag (codes "h") r.hm ∷ flag (codes "f") r.fsm ∷ flag (codes "x") r.xf
    ∷ flag (codes "o") r.fo ∷ flag (codes "y") r.txm ∷ field (codes "p") (pos (pm_number r.pm)) ∷ []

-- ---- loads

-- the number that stands at a letter's signs in a word
unfoldable pub number_at : ℕ → List ℕ → ℕ → ℕ
number_at letter [] word = 0
number_at letter (first ∷ signs) word =
    (if first == letter then word / 2 ^ length signs % 2 * 2 ^ count letter signs else 0) + number_at letter signs word

-- the field of a letter, given as a text of one, in a word that is loaded into ST0 or into ST1
abbrev pub in_st0 : List ℕ → ℕ → ℕ
in_st0 letter word = number_at (sign letter) st0_signs word

abbrev pub in_st1 : List ℕ → ℕ → ℕ
in_st1 letter word = number_at (sign letter) st1_signs word

-- PM of a number
abbrev pub pm_of : ℕ → ProductShift
pm_of n = if n == 0 then shift.None else (if n == 1 then shift.Left1 else (if n == 2 then shift.Left4 else shift.Right6))

-- LST: all fields of ST0 are loaded, but for INTM
abbrev pub loaded_st0 : ℕ → Registers → Registers
loaded_st0 word r =
    record r {
      arp = in_st0 (codes "a") word;
      acc = record r.acc { ov = in_st0 (codes "v") word == 1 };
      ovm = in_st0 (codes "m") word == 1;
      dp = in_st0 (codes "d") word;
    }

-- LST1: all fields of ST1 are loaded, and ARB into ARP too
abbrev pub loaded_st1 : ℕ → Registers → Registers
loaded_st1 word r =
    record r {
      arb = in_st1 (codes "b") word;
      arp = in_st1 (codes "b") word;
      cnf = in_st1 (codes "n") word == 1;
      tc = in_st1 (codes "t") word == 1;
      sxm = in_st1 (codes "s") word == 1;
      acc = record r.acc { c = in_st1 (codes "c") word == 1 };
      hm = in_st1 (codes "h") word == 1;
      fsm = in_st1 (codes "f") word == 1;
      xf = in_st1 (codes "x") word == 1;
      fo = in_st1 (codes "o") word == 1;
      txm = in_st1 (codes "y") word == 1;
      pm = pm_of (in_st1 (codes "p") word);
    }
