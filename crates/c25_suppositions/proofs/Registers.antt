-- DP, the current auxiliary register and CNF of registers as they are shown.
use Rattle.std.proofs.Common.{◌≡◌, ℕ, ◌/◌, ◌%◌, ◌<◌, ◌≤◌, ◌==◌, Bool, true, false, refl, ap, ◌∙◌, arith}
use Rattle.std.specs.Prelude.{slice_index}
use Rattle.c25_meaning_processor.specs.Arithmetic.{bit, shift_number}
use Rattle.c25_meaning_processor.specs.declared.accumulator.ProductShift.{ProductShift}
use Rattle.c25_meaning_processor.specs.declared.accumulator.ProductShift.TheVariants as shift
use Rattle.c25_meaning_processor.specs.declared.registers.Registers.{Registers}
use Rattle.c25_meaning_processor.specs.declared.registers.Regs.{Regs}
use Rattle.c25_meaning_processor.specs.Status.{regs_of, st0, st1}

bit_small : (b : Bool) → bit b ≤ 1
bit_small true = omega arith
bit_small false = omega arith

bit_one : (b : Bool) → (bit b == 1) ≡ b
bit_one true = refl
bit_one false = refl

shift_small : (p : ProductShift) → shift_number p ≤ 3
shift_small shift.None = omega arith
shift_small shift.Left1 = omega arith
shift_small shift.Left4 = omega arith
shift_small shift.Right6 = omega arith

st0_page : (r : Registers) → r.dp < 512 → st0 r % 512 ≡ r.dp
unfolding st0
st0_page r small = omega (arith, small)

st0_arp : (r : Registers) → r.dp < 512 → st0 r / 8192 ≡ r.arp
unfolding st0
st0_arp r small =
    let ov = bit_small r.acc.ov in
    let ovm = bit_small r.ovm in
    let intm = bit_small r.intm in
    omega (arith, small, ov, ovm, intm)

st1_bit : (r : Registers) → st1 r / 4096 % 2 ≡ bit r.cnf
unfolding st1
st1_bit r =
    let cnf = bit_small r.cnf in
    let tc = bit_small r.tc in
    let sxm = bit_small r.sxm in
    let c = bit_small r.acc.c in
    let hm = bit_small r.hm in
    let fsm = bit_small r.fsm in
    let xf = bit_small r.xf in
    let fo = bit_small r.fo in
    let txm = bit_small r.txm in
    let pm = shift_small r.pm in
    omega (arith, cnf, tc, sxm, c, hm, fsm, xf, fo, txm, pm)

module _ (regs : Regs) (r : Registers) (shown : regs ≡ regs_of r) where
  pub page_shown : r.dp < 512 → regs.st0 % 512 ≡ r.dp
  page_shown small = ap (λ (x : Regs). x.st0 % 512) shown ∙ st0_page r small

  pub current_shown : r.dp < 512 → slice_index regs.ar (regs.st0 / 8192) ≡ slice_index r.ar r.arp
  current_shown small = ap (λ (x : Regs). slice_index x.ar (x.st0 / 8192)) shown ∙ ap (λ (n : ℕ). slice_index r.ar n) (st0_arp r small)

  pub cnf_shown : (regs.st1 / 4096 % 2 == 1) ≡ r.cnf
  cnf_shown = ap (λ (x : Regs). x.st1 / 4096 % 2 == 1) shown ∙ ap (λ (n : ℕ). n == 1) (st1_bit r) ∙ bit_one r.cnf
