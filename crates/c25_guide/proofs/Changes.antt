-- Each row changes each field that it affects, in some state: for each of them a state is given, and the instruction is
-- run in it.
use Rattle.std.proofs.Common.{◌≡◌, ℕ, pos, Bool, true, false, None, Ok, Err, List, [], ◌∷◌, refl, arith}
use Rattle.std.specs.Prelude.{◌≢◌, ◌||◌, IsOkAnd, nat_eq}
use Rattle.std.proofs.lemmas.Bool.Decides.{nat_tests}
use Rattle.c25_meaning_instructions.specs.Table.{mnemonic_of}
use Rattle.c25_meaning_instructions.specs.declared.insn.Insn.{Insn}
use Rattle.c25_meaning_instructions.specs.declared.insn.Insn.TheVariants as insn
use Rattle.c25_meaning_instructions.specs.declared.insn.Addr.TheVariants.{Direct}
use Rattle.c25_meaning_instructions.specs.declared.insn.Change.TheVariants as change
use Rattle.c25_meaning_instructions.specs.declared.insn.PlainOperand.TheVariants as operand
use Rattle.c25_meaning_instructions.specs.declared.mnemonic.Mnemonic.{Mnemonic}
use Rattle.c25_meaning_instructions.specs.declared.mnemonic.Mnemonic.TheVariants as family
use Rattle.c25_meaning_instructions.specs.declared.mnemonic.MemName.TheVariants as mem
use Rattle.c25_meaning_instructions.specs.declared.mnemonic.ShiftedName.TheVariants as shifted
use Rattle.c25_meaning_instructions.specs.declared.mnemonic.BitName.TheVariants as bit
use Rattle.c25_meaning_instructions.specs.declared.mnemonic.ShortName.TheVariants as short
use Rattle.c25_meaning_instructions.specs.declared.mnemonic.LongName.TheVariants as long
use Rattle.c25_meaning_instructions.specs.declared.mnemonic.LongMemName.TheVariants as long_mem
use Rattle.c25_meaning_instructions.specs.declared.mnemonic.JumpName.TheVariants as jump
use Rattle.c25_meaning_instructions.specs.declared.mnemonic.PlainName.TheVariants as plain
use Rattle.c25_meaning_processor.specs.declared.accumulator.ProductShift.TheVariants as shift
use Rattle.c25_meaning_processor.specs.declared.registers.Registers.{Registers}
use Rattle.c25_meaning_processor.specs.Reset.{reset}
use Rattle.c25_meaning_processor.specs.State.{World, State, StepResult, data_at, program_at}
use Rattle.c25_meaning_processor.specs.Arithmetic.{scaled, sum, difference, absolute_value, negated, conditional_difference, normalized, left_once, right_once, rotated_left, rotated_right, product, shifted_product}
use Rattle.c25_meaning_processor.specs.Effect.{effect}
use Rattle.c25_guide.specs.Affects.{Flag, ARP, OV, OVM, INTM, DP, ARB, CNF, TC, SXM, C, HM, FSM, XF, FO, TXM, PM, same, among, number_of, row_affects, Changes}

-- ---- fields of a list

same_is : (f g : Flag) → same f g ≡ true → f ≡ g
same_is ARP ARP h = refl
same_is OV OV h = refl
same_is OVM OVM h = refl
same_is INTM INTM h = refl
same_is DP DP h = refl
same_is ARB ARB h = refl
same_is CNF CNF h = refl
same_is TC TC h = refl
same_is SXM SXM h = refl
same_is C C h = refl
same_is HM HM h = refl
same_is FSM FSM h = refl
same_is XF XF h = refl
same_is FO FO h = refl
same_is TXM TXM h = refl
same_is PM PM h = refl
same_is _ _ h = absurd (cc)

abbrev AllOf : (Flag → Type 0) → List Flag → Type 0
AllOf Q [] = Unit {0}
AllOf Q (f ∷ fs) = Q f × AllOf Q fs

carried : (Q : Flag → Type 0) (f g : Flag) → f ≡ g → Q g → Q f
carried Q f g e q = rw (e) q

first_or_rest : (b : Bool) (Q : Flag → Type 0) (g : Flag) (fs : List Flag) (f : Flag) → same f g ≡ b → (b || among f fs) ≡ true → Q g → (among f fs ≡ true → Q f) → Q f
first_or_rest true Q g fs f e h q rest = carried Q f g (same_is f g e) q
first_or_rest false Q g fs f e h q rest = rest h

of_list : (Q : Flag → Type 0) (fs : List Flag) (f : Flag) → among f fs ≡ true → AllOf Q fs → Q f
of_list Q [] f h a = absurd (cc)
of_list Q (g ∷ fs) f h a = first_or_rest (same f g) Q g fs f refl h a.0 (λ e. of_list Q fs f e a.1)

-- ---- states

-- all fields 1 or at their largest, with this ACC and this P
abbrev ones : ℕ → ℕ → Registers
ones acc p =
    record reset {
      acc = record { value = acc; ov = true; c = true };
      p = p;
      arp = 7;
      arb = 7;
      dp = 511;
      pm = shift.Right6;
      ovm = true;
      intm = true;
      cnf = true;
      sxm = true;
      tc = true;
      hm = true;
      fsm = true;
      xf = true;
      fo = true;
      txm = true;
    }

-- all fields 0, with this ACC and this P
abbrev noughts : ℕ → ℕ → Registers
noughts acc p =
    record reset {
      acc = record { value = acc; ov = false; c = false };
      p = p;
      arp = 0;
      arb = 0;
      dp = 0;
      pm = shift.None;
      ovm = false;
      intm = false;
      cnf = false;
      sxm = false;
      tc = false;
      hm = false;
      fsm = false;
      xf = false;
      fo = false;
      txm = false;
    }

-- each word of both memories is this one
abbrev full : ℕ → World
full word = record { words = λ address. word; program = λ address. word; marks = []; run_marks = []; samples = λ port. []; outputs = [] }

-- ---- rows

apart : (a b : ℕ) → nat_eq a b ≡ false → a ≢ b
apart a b h e = absurd (grind (arith, nat_tests))

differs : (f : Flag) (r : Registers) (t : StepResult) → IsOkAnd t (λ (s : State). nat_eq (number_of f s.registers) (number_of f r) ≡ false) → IsOkAnd t (λ (s : State). number_of f s.registers ≢ number_of f r)
differs f r (Ok s) h = apart _ _ h
differs f r (Err stop) h = h

witness : (f : Flag) (i : Insn) (r : Registers) (w : World) → IsOkAnd (effect i 0 true r w) (λ (s : State). nat_eq (number_of f s.registers) (number_of f r) ≡ false) → Changes (mnemonic_of i) f
witness f i r w h = record { instruction = i; registers = r; world = w; is_of_row = refl; changes = differs f r (effect i 0 true r w) h }

all_change : (row : Mnemonic) → AllOf (Changes row) (row_affects row)
unfolding effect reset data_at program_at scaled sum difference absolute_value negated conditional_difference normalized left_once right_once rotated_left rotated_right product shifted_product
all_change (family.Mem mem.Sqra) = (witness C (insn.Mem mem.Sqra (Direct 0)) (ones 0 0) (full 0) refl, (witness OV (insn.Mem mem.Sqra (Direct 0)) (noughts 0x7FFFFFFF 1) (full 0) refl, tt))
all_change (family.Mem mem.Mpya) = (witness C (insn.Mem mem.Mpya (Direct 0)) (ones 0 0) (full 0) refl, (witness OV (insn.Mem mem.Mpya (Direct 0)) (noughts 0x7FFFFFFF 1) (full 0) refl, tt))
all_change (family.Mem mem.Mpys) = (witness C (insn.Mem mem.Mpys (Direct 0)) (noughts 0 0) (full 0) refl, (witness OV (insn.Mem mem.Mpys (Direct 0)) (noughts 0x80000000 1) (full 0) refl, tt))
all_change (family.Mem mem.Lta) = (witness C (insn.Mem mem.Lta (Direct 0)) (ones 0 0) (full 0) refl, (witness OV (insn.Mem mem.Lta (Direct 0)) (noughts 0x7FFFFFFF 1) (full 0) refl, tt))
all_change (family.Mem mem.Ltd) = (witness C (insn.Mem mem.Ltd (Direct 0)) (ones 0 0) (full 0) refl, (witness OV (insn.Mem mem.Ltd (Direct 0)) (noughts 0x7FFFFFFF 1) (full 0) refl, tt))
all_change (family.Mem mem.Addc) = (witness C (insn.Mem mem.Addc (Direct 0)) (noughts 0xFFFFFFFF 0) (full 1) refl, (witness OV (insn.Mem mem.Addc (Direct 0)) (noughts 0x7FFFFFFF 0) (full 1) refl, tt))
all_change (family.Mem mem.Subh) = (witness C (insn.Mem mem.Subh (Direct 0)) (ones 0 0) (full 1) refl, (witness OV (insn.Mem mem.Subh (Direct 0)) (noughts 0x80000000 0) (full 1) refl, tt))
all_change (family.Mem mem.Subs) = (witness C (insn.Mem mem.Subs (Direct 0)) (ones 0 0) (full 1) refl, (witness OV (insn.Mem mem.Subs (Direct 0)) (noughts 0x80000000 0) (full 1) refl, tt))
all_change (family.Mem mem.Subt) = (witness C (insn.Mem mem.Subt (Direct 0)) (ones 0 0) (full 1) refl, (witness OV (insn.Mem mem.Subt (Direct 0)) (noughts 0x80000000 0) (full 1) refl, tt))
all_change (family.Mem mem.Subc) = (witness C (insn.Mem mem.Subc (Direct 0)) (ones 0 0) (full 1) refl, (witness OV (insn.Mem mem.Subc (Direct 0)) (noughts 0x80000000 0) (full 1) refl, tt))
all_change (family.Mem mem.Addh) = (witness C (insn.Mem mem.Addh (Direct 0)) (noughts 0xFFFFFFFF 0) (full 1) refl, (witness OV (insn.Mem mem.Addh (Direct 0)) (noughts 0x7FFFFFFF 0) (full 1) refl, tt))
all_change (family.Mem mem.Adds) = (witness C (insn.Mem mem.Adds (Direct 0)) (noughts 0xFFFFFFFF 0) (full 1) refl, (witness OV (insn.Mem mem.Adds (Direct 0)) (noughts 0x7FFFFFFF 0) (full 1) refl, tt))
all_change (family.Mem mem.Addt) = (witness C (insn.Mem mem.Addt (Direct 0)) (noughts 0xFFFFFFFF 0) (full 1) refl, (witness OV (insn.Mem mem.Addt (Direct 0)) (noughts 0x7FFFFFFF 0) (full 1) refl, tt))
all_change (family.Mem mem.Subb) = (witness C (insn.Mem mem.Subb (Direct 0)) (ones 0 0) (full 1) refl, (witness OV (insn.Mem mem.Subb (Direct 0)) (noughts 0x80000000 0) (full 1) refl, tt))
all_change (family.Mem mem.Sqrs) = (witness C (insn.Mem mem.Sqrs (Direct 0)) (noughts 0 0) (full 0) refl, (witness OV (insn.Mem mem.Sqrs (Direct 0)) (noughts 0x80000000 1) (full 0) refl, tt))
all_change (family.Mem mem.Lts) = (witness C (insn.Mem mem.Lts (Direct 0)) (noughts 0 0) (full 0) refl, (witness OV (insn.Mem mem.Lts (Direct 0)) (noughts 0x80000000 1) (full 0) refl, tt))
all_change (family.Mem mem.Lst) = (witness ARP (insn.Mem mem.Lst (Direct 0)) (ones 0 0) (full 0) refl, (witness OV (insn.Mem mem.Lst (Direct 0)) (ones 0 0) (full 0) refl, (witness OVM (insn.Mem mem.Lst (Direct 0)) (ones 0 0) (full 0) refl, (witness DP (insn.Mem mem.Lst (Direct 0)) (ones 0 0) (full 0) refl, tt))))
all_change (family.Mem mem.Lst1) = (witness ARP (insn.Mem mem.Lst1 (Direct 0)) (ones 0 0) (full 0) refl, (witness ARB (insn.Mem mem.Lst1 (Direct 0)) (ones 0 0) (full 0) refl, (witness CNF (insn.Mem mem.Lst1 (Direct 0)) (ones 0 0) (full 0) refl, (witness TC (insn.Mem mem.Lst1 (Direct 0)) (ones 0 0) (full 0) refl, (witness SXM (insn.Mem mem.Lst1 (Direct 0)) (ones 0 0) (full 0) refl, (witness C (insn.Mem mem.Lst1 (Direct 0)) (ones 0 0) (full 0) refl, (witness HM (insn.Mem mem.Lst1 (Direct 0)) (ones 0 0) (full 0) refl, (witness FSM (insn.Mem mem.Lst1 (Direct 0)) (ones 0 0) (full 0) refl, (witness XF (insn.Mem mem.Lst1 (Direct 0)) (ones 0 0) (full 0) refl, (witness FO (insn.Mem mem.Lst1 (Direct 0)) (ones 0 0) (full 0) refl, (witness TXM (insn.Mem mem.Lst1 (Direct 0)) (ones 0 0) (full 0) refl, (witness PM (insn.Mem mem.Lst1 (Direct 0)) (ones 0 0) (full 0) refl, tt))))))))))))
all_change (family.Mem mem.Ldp) = (witness DP (insn.Mem mem.Ldp (Direct 0)) (ones 0 0) (full 0) refl, tt)
all_change (family.Mem mem.Bitt) = (witness TC (insn.Mem mem.Bitt (Direct 0)) (ones 0 0) (full 0) refl, tt)
all_change (family.Mem _) = tt
all_change (family.Shifted shifted.Add) = (witness C (insn.Shifted shifted.Add (Direct 0) 0) (noughts 0xFFFFFFFF 0) (full 1) refl, (witness OV (insn.Shifted shifted.Add (Direct 0) 0) (noughts 0x7FFFFFFF 0) (full 1) refl, tt))
all_change (family.Shifted shifted.Sub) = (witness C (insn.Shifted shifted.Sub (Direct 0) 0) (ones 0 0) (full 1) refl, (witness OV (insn.Shifted shifted.Sub (Direct 0) 0) (noughts 0x80000000 0) (full 1) refl, tt))
all_change (family.Shifted _) = tt
all_change (family.ArMem name) = tt
all_change (family.Port name) = tt
all_change (family.Bit bit.Bit) = (witness TC (insn.Bit bit.Bit (Direct 0) 0) (ones 0 0) (full 0) refl, tt)
all_change (family.Short short.Addk) = (witness C (insn.Short short.Addk 0 (pos 1)) (noughts 0xFFFFFFFF 0) (full 1) refl, (witness OV (insn.Short short.Addk 0 (pos 1)) (noughts 0x7FFFFFFF 0) (full 1) refl, tt))
all_change (family.Short short.Subk) = (witness C (insn.Short short.Subk 0 (pos 1)) (ones 0 0) (full 1) refl, (witness OV (insn.Short short.Subk 0 (pos 1)) (noughts 0x80000000 0) (full 1) refl, tt))
all_change (family.Short short.Ldpk) = (witness DP (insn.Short short.Ldpk 0 (pos 0)) (ones 0 0) (full 0) refl, tt)
all_change (family.Short _) = tt
all_change (family.Long long.Adlk) = (witness C (insn.Long long.Adlk 1 0) (noughts 0xFFFFFFFF 0) (full 1) refl, (witness OV (insn.Long long.Adlk 1 0) (noughts 0x7FFFFFFF 0) (full 1) refl, tt))
all_change (family.Long long.Sblk) = (witness C (insn.Long long.Sblk 1 0) (ones 0 0) (full 1) refl, (witness OV (insn.Long long.Sblk 1 0) (noughts 0x80000000 0) (full 1) refl, tt))
all_change (family.Long _) = tt
all_change (family.LongMem long_mem.Macd) = (witness C (insn.LongMem long_mem.Macd 0 (Direct 0)) (ones 0 0) (full 0) refl, (witness OV (insn.LongMem long_mem.Macd 0 (Direct 0)) (noughts 0x7FFFFFFF 1) (full 0) refl, tt))
all_change (family.LongMem long_mem.Mac) = (witness C (insn.LongMem long_mem.Mac 0 (Direct 0)) (ones 0 0) (full 0) refl, (witness OV (insn.LongMem long_mem.Mac 0 (Direct 0)) (noughts 0x7FFFFFFF 1) (full 0) refl, tt))
all_change (family.LongMem _) = tt
all_change (family.Jump jump.Bv) = (witness OV (insn.Jump jump.Bv 0 change.Keep None) (ones 0 0) (full 0) refl, tt)
all_change (family.Jump jump.Bnv) = (witness OV (insn.Jump jump.Bnv 0 change.Keep None) (ones 0 0) (full 0) refl, tt)
all_change (family.Jump _) = tt
all_change (family.Plain plain.Apac) = (witness C (insn.Plain plain.Apac operand.Nothing) (ones 0 0) (full 0) refl, (witness OV (insn.Plain plain.Apac operand.Nothing) (noughts 0x7FFFFFFF 1) (full 0) refl, tt))
all_change (family.Plain plain.Spac) = (witness C (insn.Plain plain.Spac operand.Nothing) (noughts 0 0) (full 0) refl, (witness OV (insn.Plain plain.Spac operand.Nothing) (noughts 0x80000000 1) (full 0) refl, tt))
all_change (family.Plain plain.Abs) = (witness C (insn.Plain plain.Abs operand.Nothing) (ones 0 0) (full 0) refl, (witness OV (insn.Plain plain.Abs operand.Nothing) (noughts 0x80000000 0) (full 0) refl, tt))
all_change (family.Plain plain.Neg) = (witness C (insn.Plain plain.Neg operand.Nothing) (noughts 0 0) (full 0) refl, (witness OV (insn.Plain plain.Neg operand.Nothing) (noughts 0x80000000 0) (full 0) refl, tt))
all_change (family.Plain plain.Eint) = (witness INTM (insn.Plain plain.Eint operand.Nothing) (ones 0 0) (full 0) refl, tt)
all_change (family.Plain plain.Rovm) = (witness OVM (insn.Plain plain.Rovm operand.Nothing) (ones 0 0) (full 0) refl, tt)
all_change (family.Plain plain.Cnfd) = (witness CNF (insn.Plain plain.Cnfd operand.Nothing) (ones 0 0) (full 0) refl, tt)
all_change (family.Plain plain.Rsxm) = (witness SXM (insn.Plain plain.Rsxm operand.Nothing) (ones 0 0) (full 0) refl, tt)
all_change (family.Plain plain.Rxf) = (witness XF (insn.Plain plain.Rxf operand.Nothing) (ones 0 0) (full 0) refl, tt)
all_change (family.Plain plain.Sfl) = (witness C (insn.Plain plain.Sfl operand.Nothing) (ones 0 0) (full 0) refl, tt)
all_change (family.Plain plain.Sfr) = (witness C (insn.Plain plain.Sfr operand.Nothing) (ones 0 0) (full 0) refl, tt)
all_change (family.Plain plain.Idle) = (witness INTM (insn.Plain plain.Idle operand.Nothing) (ones 0 0) (full 0) refl, tt)
all_change (family.Plain plain.Rtxm) = (witness TXM (insn.Plain plain.Rtxm operand.Nothing) (ones 0 0) (full 0) refl, tt)
all_change (family.Plain plain.Rc) = (witness C (insn.Plain plain.Rc operand.Nothing) (ones 0 0) (full 0) refl, tt)
all_change (family.Plain plain.Rtc) = (witness TC (insn.Plain plain.Rtc operand.Nothing) (ones 0 0) (full 0) refl, tt)
all_change (family.Plain plain.Rol) = (witness C (insn.Plain plain.Rol operand.Nothing) (ones 0 0) (full 0) refl, tt)
all_change (family.Plain plain.Ror) = (witness C (insn.Plain plain.Ror operand.Nothing) (ones 0 0) (full 0) refl, tt)
all_change (family.Plain plain.Rfsm) = (witness FSM (insn.Plain plain.Rfsm operand.Nothing) (ones 0 0) (full 0) refl, tt)
all_change (family.Plain plain.Rhm) = (witness HM (insn.Plain plain.Rhm operand.Nothing) (ones 0 0) (full 0) refl, tt)
all_change (family.Plain plain.Dint) = (witness INTM (insn.Plain plain.Dint operand.Nothing) (noughts 0 0) (full 0) refl, tt)
all_change (family.Plain plain.Sovm) = (witness OVM (insn.Plain plain.Sovm operand.Nothing) (noughts 0 0) (full 0) refl, tt)
all_change (family.Plain plain.Cnfp) = (witness CNF (insn.Plain plain.Cnfp operand.Nothing) (noughts 0 0) (full 0) refl, tt)
all_change (family.Plain plain.Ssxm) = (witness SXM (insn.Plain plain.Ssxm operand.Nothing) (noughts 0 0) (full 0) refl, tt)
all_change (family.Plain plain.Sxf) = (witness XF (insn.Plain plain.Sxf operand.Nothing) (noughts 0 0) (full 0) refl, tt)
all_change (family.Plain plain.Stxm) = (witness TXM (insn.Plain plain.Stxm operand.Nothing) (noughts 0 0) (full 0) refl, tt)
all_change (family.Plain plain.Sc) = (witness C (insn.Plain plain.Sc operand.Nothing) (noughts 0 0) (full 0) refl, tt)
all_change (family.Plain plain.Stc) = (witness TC (insn.Plain plain.Stc operand.Nothing) (noughts 0 0) (full 0) refl, tt)
all_change (family.Plain plain.Sfsm) = (witness FSM (insn.Plain plain.Sfsm operand.Nothing) (noughts 0 0) (full 0) refl, tt)
all_change (family.Plain plain.Shm) = (witness HM (insn.Plain plain.Shm operand.Nothing) (noughts 0 0) (full 0) refl, tt)
all_change (family.Plain plain.Spm) = (witness PM (insn.Plain plain.Spm (operand.Number 0)) (ones 0 0) (full 0) refl, tt)
all_change (family.Plain plain.Fort) = (witness FO (insn.Plain plain.Fort (operand.Number 0)) (ones 0 0) (full 0) refl, tt)
all_change (family.Plain plain.Cmpr) = (witness TC (insn.Plain plain.Cmpr (operand.Number 1)) (ones 0 0) (full 0) refl, tt)
all_change (family.Plain plain.Norm) = (witness TC (insn.Plain plain.Norm (operand.Change change.Keep)) (ones 1 0) (full 0) refl, tt)
all_change (family.Plain _) = tt

pub changes : (row : Mnemonic) (f : Flag) → among f (row_affects row) ≡ true → Changes row f
changes row f h = of_list (Changes row) (row_affects row) f h (all_change row)
