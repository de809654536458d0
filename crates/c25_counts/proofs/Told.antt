-- What the next step tells of the branch before it.
use Rattle.std.proofs.Common.{◌≡◌, ◌∙◌, ℕ, arith, ap, sym, refl, Bool, true, false, not, ◌&&◌, ◌||◌, if◌then◌else◌, List, Option, None, Some}
use Rattle.std.proofs.lemmas.Bool.Decides.{nat_tests}
use Rattle.std.specs.Prelude.{nat_le, nat_lt}
use Rattle.c25_count_laws.specs.Counts.{acts_at, goes_on}
use Rattle.c25_counts.specs.Counting.{ends_in, is_hidden, owed, passed}
use Rattle.c25_meaning_processor.specs.Run.{Signals}
use Rattle.c25_meaning_processor.specs.State.{State}
use Rattle.c25_meaning_processor.specs.Step.{has, latched, taken_under, vectored}
use Rattle.c25_meaning_processor.specs.declared.registers.Registers.{Registers}

if_none : (b : Bool) → ◌≡◌ {A = Option ℕ} (if b then None else None) None
if_none true = refl
if_none false = refl

-- ---- what is owed

-- nothing is owed where all is counted
pub none_owed : (ends : List Bool) (last : Option ℕ) (pc : ℕ) → last ≡ None → owed ends last pc ≡ None
none_owed ends last pc e = ap (λ (l : Option ℕ). if ends_in ends pc then goes_on l pc else None) e ∙ if_none (ends_in ends pc)

-- nothing is owed where no branch ends
pub no_end_owed : (ends : List Bool) (last : Option ℕ) (pc : ℕ) → ends_in ends pc ≡ false → owed ends last pc ≡ None
no_end_owed ends last pc e = ap (λ (b : Bool). if b then goes_on last pc else None) e

-- ---- where the next instruction acts

module _ (ends : List Bool) (last : Option ℕ) where
  abbrev after : Registers → Option ℕ
  after r = if r.asleep then None else Some r.pc

  -- the next step says nothing where all is counted
  pub none_passed : (o : Option ℕ) → last ≡ None → passed ends last o ≡ None
  none_passed None e = refl
  none_passed (Some acting) e = ap (λ (x : Option ℕ). if nat_lt 6 acting then x else None) (none_owed ends last acting e) ∙ if_none (nat_lt 6 acting)

  -- nor at an address where no branch ends
  none_at : (r : Registers) → ends_in ends r.pc ≡ false → passed ends last (after r) ≡ None
  none_at r e = go r.asleep
    where
      go : (b : Bool) → passed ends last (if b then None else Some r.pc) ≡ None
      go true = refl
      go false = ap (λ (x : Option ℕ). if nat_lt 6 r.pc then x else None) (no_end_owed ends last r.pc e) ∙ if_none (nat_lt 6 r.pc)

  -- nor at a vector
  none_taken : (mask : ℕ) (r : Registers) → ends_in ends r.pc ≡ false → passed ends last (after (taken_under mask r)) ≡ None
  unfolding taken_under
  none_taken mask r e = first (has r.latched.0 1 && has mask 1)
    where
      third : (b : Bool) → passed ends last (after (if b then vectored 4 6 r else r)) ≡ None
      third true = refl
      third false = none_at r e

      second : (b : Bool) → passed ends last (after (if b then vectored 2 4 r else (if has r.latched.0 4 && has mask 4 then vectored 4 6 r else r))) ≡ None
      second true = refl
      second false = third (has r.latched.0 4 && has mask 4)

      first : (b : Bool) → passed ends last (after (if b then vectored 1 2 r else (if has r.latched.0 2 && has mask 2 then vectored 2 4 r else (if has r.latched.0 4 && has mask 4 then vectored 4 6 r else r)))) ≡ None
      first true = refl
      first false = second (has r.latched.0 2 && has mask 2)

  in_sight : (asleep masked low : Bool) → (asleep || not masked || low) ≡ false → (asleep ≡ false) × (masked ≡ true) × (low ≡ false)
  in_sight true masked low e = absurd (cc)
  in_sight false false low e = absurd (cc)
  in_sight false true true e = absurd (cc)
  in_sight false true false e = (refl, refl, refl)

  untaken : (repeating shadowed masked : Bool) (r s : Registers) → masked ≡ true → (if repeating || shadowed || masked then r else s) ≡ r
  untaken true shadowed masked r s e = refl
  untaken false true masked r s e = refl
  untaken false false true r s e = refl
  untaken false false false r s e = absurd (cc)

  -- where the run goes on, the next step says what passed in the last one
  pub told : (signals : Signals) (k : ℕ) (v : State) → (ends_in ends v.registers.pc && is_hidden v.registers) ≡ false → passed ends last (acts_at signals k v) ≡ owed ends last v.registers.pc
  told signals k v goes = go (ends_in ends r.pc) refl goes
    where
      r : Registers
      r = latched (signals.lines k) v.registers

      none_begun : (b : Bool) → ends_in ends r.pc ≡ false → passed ends last (after (if b then r else taken_under (v.world.words 4) r)) ≡ None
      none_begun true e = none_at r e
      none_begun false e = none_taken (v.world.words 4) r e

      go : (b : Bool) → ends_in ends r.pc ≡ b → (b && is_hidden r) ≡ false → passed ends last (acts_at signals k v) ≡ owed ends last r.pc
      go false e clear = none_begun (r.repeating || r.shadowed || r.intm) e ∙ sym (no_end_owed ends last r.pc e)
      go true e clear =
          let seen = in_sight r.asleep r.intm (nat_le r.pc 6) clear in
          let low = seen.2 in
          let high : nat_lt 6 r.pc ≡ true = grind (arith, nat_tests) in
          ap (λ (x : Registers). passed ends last (after x)) (untaken r.repeating r.shadowed r.intm r (taken_under (v.world.words 4) r) seen.1)
          ∙ ap (λ (b : Bool). passed ends last (if b then None else Some r.pc)) seen.0
          ∙ ap (λ (b : Bool). if b then owed ends last r.pc else None) high
