-- Interrupts that are off are not taken.
use Rattle.std.proofs.Common.{◌≡◌, ◌∙◌, ℕ, ◌+◌, ◌*◌, ◌/◌, ◌%◌, ◌^◌, ◌<◌, ◌≤◌, ◌==◌, Bool, true, false, not, ◌&&◌, ◌||◌, if◌then◌else◌, Option, Some, None, ap, arith, refl, sym, subst}
use Rattle.c25_meaning_processor.specs.Arithmetic.{bit}
use Rattle.c25_meaning_processor.specs.Run.{Reaches, Signals}
use Rattle.c25_meaning_processor.specs.State.{State, World, data_at}
use Rattle.c25_meaning_processor.specs.Status.{is_set, st0}
use Rattle.c25_meaning_processor.specs.Step.{begun, has, interrupted, latched, taken_under, vectored}
use Rattle.c25_meaning_processor.specs.WordStep.{WordStep}
use Rattle.c25_meaning_processor.specs.declared.lines.Lines.{Lines}
use Rattle.c25_meaning_processor.specs.declared.registers.Registers.{Registers}
use Rattle.c25_unused_inputs.specs.Requests.{bit_of}
use Rattle.c25_unused_inputs.specs.Taking.{entered, taken_by, taken_of, takes, vector_of}
use Rattle.c25_unused_inputs.specs.Watched.{StaysOff, intm, is_enabled, is_unmasked}
use Rattle.c25_unused_inputs.specs.declared.requests.InterruptLine.{InterruptLine}
use Rattle.c25_unused_inputs.specs.declared.requests.InterruptLine.TheVariants as line

-- ---- IMR

-- data word 4 is not one of block B0, so that it is read under any CNF
pub mask_read : (cnf : Bool) (w : World) → data_at cnf w 4 ≡ w.words 4
unfolding data_at
mask_read true w = refl
mask_read false w = refl

-- ---- what a step begins with

under_is : (mask : ℕ) (r : Registers) → taken_under mask r ≡ entered (taken_of r.latched.0 mask) r
unfolding taken_under
under_is mask r = first (has r.latched.0 1 && has mask 1)
  where
    third : (b : Bool) → (if b then vectored 4 6 r else r) ≡ entered (if b then Some line.Int2 else None) r
    third true = refl
    third false = refl

    second : (b : Bool) → (if b then vectored 2 4 r else (if has r.latched.0 4 && has mask 4 then vectored 4 6 r else r))
        ≡ entered (if b then Some line.Int1 else (if has r.latched.0 4 && has mask 4 then Some line.Int2 else None)) r
    second true = refl
    second false = third (has r.latched.0 4 && has mask 4)

    first : (b : Bool) → (if b then vectored 1 2 r else (if has r.latched.0 2 && has mask 2 then vectored 2 4 r else (if has r.latched.0 4 && has mask 4 then vectored 4 6 r else r)))
        ≡ entered (if b then Some line.Int0 else (if has r.latched.0 2 && has mask 2 then Some line.Int1 else (if has r.latched.0 4 && has mask 4 then Some line.Int2 else None))) r
    first true = refl
    first false = second (has r.latched.0 2 && has mask 2)

pub begun_is : (lines : Lines) (s : State) → begun lines s ≡ entered (takes lines s) (latched lines s.registers)
begun_is lines s = by (r.repeating || r.shadowed || r.intm)
  where
    r : Registers
    r = latched lines s.registers

    by : (b : Bool) → (if b then r else taken_under (s.world.words 4) r) ≡ entered (if b then None else taken_of r.latched.0 (s.world.words 4)) r
    by true = refl
    by false = under_is (s.world.words 4) r

-- ---- INTM

tenth : (a b c i d n : ℕ) → n ≡ a * 8192 + b * 4096 + c * 2048 + 1024 + i * 512 + d → i ≤ 1 → d < 512 → n / 512 % 2 ≡ i
tenth a b c i d n is few small = omega (arith, is, few, small)

intm_set : (r : Registers) → r.dp < 512 → (i : Bool) → r.intm ≡ i → is_set (st0 r) 9 ≡ i
unfolding st0
intm_set r small true e =
    ap (λ x. x == 1) (tenth r.arp (bit r.acc.ov) (bit r.ovm) 1 r.dp (st0 r) (ap (λ b. r.arp * 8192 + bit r.acc.ov * 4096 + bit r.ovm * 2048 + 1024 + bit b * 512 + r.dp) e) (omega arith) small)
intm_set r small false e =
    ap (λ x. x == 1) (tenth r.arp (bit r.acc.ov) (bit r.ovm) 0 r.dp (st0 r) (ap (λ b. r.arp * 8192 + bit r.acc.ov * 4096 + bit r.ovm * 2048 + 1024 + bit b * 512 + r.dp) e) (omega arith) small)

-- ---- a line that is off

last_false : (a b c : Bool) → (a || b || c) ≡ false → c ≡ false
last_false true b c e = absurd cc
last_false false true c e = absurd cc
last_false false false c e = e

and_right : (a b : Bool) → (a && b) ≡ true → b ≡ true
and_right true b e = e
and_right false b e = absurd cc

taken_has : (lines mask : ℕ) (of : InterruptLine) → taken_of lines mask ≡ Some of → has mask (bit_of of) ≡ true
taken_has lines mask of = first (has lines 1 && has mask 1) refl
  where
    third : (b : Bool) → (has lines 4 && has mask 4) ≡ b → (if b then Some line.Int2 else None) ≡ Some of → has mask (bit_of of) ≡ true
    third true e is = let same : line.Int2 ≡ of = cc in ap (λ (l : InterruptLine). has mask (bit_of l)) (sym same) ∙ and_right (has lines 4) (has mask 4) e
    third false e is = absurd cc

    second : (b : Bool) → (has lines 2 && has mask 2) ≡ b → (if b then Some line.Int1 else (if has lines 4 && has mask 4 then Some line.Int2 else None)) ≡ Some of → has mask (bit_of of) ≡ true
    second true e is = let same : line.Int1 ≡ of = cc in ap (λ (l : InterruptLine). has mask (bit_of l)) (sym same) ∙ and_right (has lines 2) (has mask 2) e
    second false e is = third (has lines 4 && has mask 4) refl is

    first : (b : Bool) → (has lines 1 && has mask 1) ≡ b
        → (if b then Some line.Int0 else (if has lines 2 && has mask 2 then Some line.Int1 else (if has lines 4 && has mask 4 then Some line.Int2 else None))) ≡ Some of → has mask (bit_of of) ≡ true
    first true e is = let same : line.Int0 ≡ of = cc in ap (λ (l : InterruptLine). has mask (bit_of l)) (sym same) ∙ and_right (has lines 1) (has mask 1) e
    first false e is = second (has lines 2 && has mask 2) refl is

on_of : (unmasked i : Bool) → unmasked ≡ true → i ≡ false → (unmasked && not i) ≡ false → ⊥
on_of true false u o e = absurd cc
on_of true true u o e = absurd cc
on_of false i u o e = absurd cc

pub step_off : (lines : Lines) (s : State) (of : InterruptLine) → s.registers.dp < 512 → is_enabled (bit_of of) s ≡ false → takes lines s ≡ Some of → ⊥
step_off lines s of small off = by (r.repeating || r.shadowed || r.intm) refl
  where
    r : Registers
    r = latched lines s.registers

    by : (b : Bool) → (r.repeating || r.shadowed || r.intm) ≡ b → (if b then None else taken_of r.latched.0 (s.world.words 4)) ≡ Some of → ⊥
    by true e is = absurd cc
    by false e is =
        on_of (is_unmasked (bit_of of) s) (intm s) (taken_has r.latched.0 (s.world.words 4) of is)
        (intm_set s.registers small false (last_false r.repeating r.shadowed r.intm e)) off

pub run_off : (signals : Signals) (of : InterruptLine) (from n j : ℕ) (s u : State) → StaysOff signals (bit_of of) from n s → from ≤ j → j < n → Reaches WordStep signals 0 j s u → u.registers.dp < 512
    → takes (signals.lines j) u ≡ Some of → ⊥
run_off signals of from n j s u off after before reached small = step_off (signals.lines j) u of small (off j u after before reached)
