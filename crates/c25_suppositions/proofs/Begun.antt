-- What a step leaves of the registers before its instruction acts: all but PC, the stack and what interrupts and repeats keep.
use Rattle.std.proofs.Common.{◌≡◌, ℕ, ◌+◌, ◌-◌, ◌%◌, ◌^◌, Bool, true, false, ◌&&◌, ◌||◌, if◌then◌else◌, Some, refl, sym, ap, ◌∙◌}
use Rattle.std.specs.Prelude.{nat_lt}
use Rattle.c25_meaning_instructions.specs.declared.insn.Addr.{Addr}
use Rattle.c25_meaning_instructions.specs.declared.insn.Addr.TheVariants.{Direct, Indirect}
use Rattle.c25_meaning_instructions.specs.declared.insn.Insn.{Insn}
use Rattle.c25_meaning_instructions.specs.Table.{size_of}
use Rattle.c25_meaning_pages.specs.KnownAfter.{written_address}
use Rattle.c25_meaning_processor.specs.declared.lines.Lines.{Lines}
use Rattle.c25_meaning_processor.specs.declared.registers.Registers.{Registers}
use Rattle.c25_meaning_processor.specs.Operand.{address_of}
use Rattle.c25_meaning_processor.specs.State.{State}
use Rattle.c25_meaning_processor.specs.Step.{advanced, begun, has, interrupted, latched, taken_under, vectored}
use Rattle.c25_pages.proofs.Words.{written_as}
use Rattle.c25_pages.specs.Written.{place_written, writes}
use Rattle.c25_pages.specs.declared.written.Written.{Written}
use Rattle.c25_pages.specs.declared.written.Written.TheVariants.{After, Nothing, Operand, Status}

-- two states of the registers have the same DP, auxiliary registers, ARP, CNF and accumulator
pub record Alike (r x : Registers) : Type 0 where
  pub dp : r.dp ≡ x.dp
  pub ar : r.ar ≡ x.ar
  pub arp : r.arp ≡ x.arp
  pub cnf : r.cnf ≡ x.cnf
  pub acc : r.acc ≡ x.acc

itself : (r : Registers) → Alike r r
itself r = record { dp = refl; ar = refl; arp = refl; cnf = refl; acc = refl }

-- ---- an interrupt

taken_as : (mask : ℕ) (r : Registers) → Alike r (taken_under mask r)
unfolding taken_under
taken_as mask r = first (has r.latched.0 1 && has mask 1)
  where
    third : (b : Bool) → Alike r (if b then vectored 4 6 r else r)
    third true = record { dp = refl; ar = refl; arp = refl; cnf = refl; acc = refl }
    third false = itself r

    second : (b : Bool) → Alike r (if b then vectored 2 4 r else (if has r.latched.0 4 && has mask 4 then vectored 4 6 r else r))
    second true = record { dp = refl; ar = refl; arp = refl; cnf = refl; acc = refl }
    second false = third (has r.latched.0 4 && has mask 4)

    first : (b : Bool) → Alike r (if b then vectored 1 2 r else (if has r.latched.0 2 && has mask 2 then vectored 2 4 r else (if has r.latched.0 4 && has mask 4 then vectored 4 6 r else r)))
    first true = record { dp = refl; ar = refl; arp = refl; cnf = refl; acc = refl }
    first false = second (has r.latched.0 2 && has mask 2)

interrupted_as : (mask : ℕ) (r : Registers) → Alike r (interrupted mask r)
interrupted_as mask r = go (r.repeating || r.shadowed || r.intm)
  where
    go : (b : Bool) → Alike r (if b then r else taken_under mask r)
    go true = itself r
    go false = taken_as mask r

pub begun_as : (lines : Lines) (s : State) → Alike s.registers (begun lines s)
begun_as lines s =
    let h = interrupted_as (s.world.words 4) (latched lines s.registers) in
    record { dp = h.dp; ar = h.ar; arp = h.arp; cnf = h.cnf; acc = h.acc }

-- where the processor sleeps in a step, no interrupt was taken, and PC is as it was
abbrev Stays : Registers → Registers → Type 0
Stays r x = x.asleep ≡ true → x.pc ≡ r.pc

taken_stays : (mask : ℕ) (r : Registers) → Stays r (taken_under mask r)
unfolding taken_under
taken_stays mask r = first (has r.latched.0 1 && has mask 1)
  where
    third : (b : Bool) → Stays r (if b then vectored 4 6 r else r)
    third true = λ e. absurd (cc)
    third false = λ e. refl

    second : (b : Bool) → Stays r (if b then vectored 2 4 r else (if has r.latched.0 4 && has mask 4 then vectored 4 6 r else r))
    second true = λ e. absurd (cc)
    second false = third (has r.latched.0 4 && has mask 4)

    first : (b : Bool) → Stays r (if b then vectored 1 2 r else (if has r.latched.0 2 && has mask 2 then vectored 2 4 r else (if has r.latched.0 4 && has mask 4 then vectored 4 6 r else r)))
    first true = λ e. absurd (cc)
    first false = second (has r.latched.0 2 && has mask 2)

interrupted_stays : (mask : ℕ) (r : Registers) → Stays r (interrupted mask r)
interrupted_stays mask r = go (r.repeating || r.shadowed || r.intm)
  where
    go : (b : Bool) → Stays r (if b then r else taken_under mask r)
    go true = λ e. refl
    go false = taken_stays mask r

pub asleep_stays : (lines : Lines) (s : State) → (begun lines s).asleep ≡ true → (begun lines s).pc ≡ s.registers.pc
asleep_stays lines s e = interrupted_stays (s.world.words 4) (latched lines s.registers) e

-- ---- an instruction

pub advanced_as : (size : ℕ) (r : Registers) → Alike r (advanced size r)
advanced_as size r = go (r.repeating && nat_lt 0 r.rptc)
  where
    go : (b : Bool) → Alike r (if b then record r { rptc = r.rptc - 1; repeated = (r.repeated + 1) % 2 ^ 16; shadowed = false } else record r { pc = (r.pc + size) % 2 ^ 16; repeating = false; repeated = 0; shadowed = false })
    go true = record { dp = refl; ar = refl; arp = refl; cnf = refl; acc = refl }
    go false = record { dp = refl; ar = refl; arp = refl; cnf = refl; acc = refl }

-- the address of an operand, and of the word that is written, is the same
address_same : (a : Addr) (r x : Registers) → Alike r x → address_of a r ≡ address_of a x
address_same (Direct low) r x h = rw h.dp refl
address_same (Indirect change next) r x h = rw h.ar (rw h.arp refl)

place_same : (w : Written) (r x : Registers) → Alike r x → place_written w r ≡ place_written w x
place_same Nothing r x h = refl
place_same (Operand a) r x h = ap Some (address_same a r x h)
place_same (After a) r x h = ap (λ (n : ℕ). Some ((n + 1) % 2 ^ 16)) (address_same a r x h)
place_same (Status (Direct low)) r x h = refl
place_same (Status (Indirect change next)) r x h = ap Some (address_same (Indirect change next) r x h)

-- the word that the instruction of a step writes is the one that it would write with the registers before the step
pub written_same : (i : Insn) (lines : Lines) (s : State) → written_address i (advanced (size_of i) (begun lines s)) ≡ place_written (writes i) s.registers
written_same i lines s =
    let r = begun lines s in
    written_as i (advanced (size_of i) r)
    ∙ sym (place_same (writes i) r (advanced (size_of i) r) (advanced_as (size_of i) r))
    ∙ sym (place_same (writes i) s.registers r (begun_as lines s))
