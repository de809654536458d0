-- Which supposition a state does not meet, by what is tested.
use Rattle.std.proofs.Common.{◌≡◌, ℕ, ◌%◌, ◌^◌, Bool, true, false, not, ◌&&◌, ◌||◌, if◌then◌else◌, Option, None, Some, refl, sym, ap, ap₂, ◌∙◌, subst}
use Rattle.c25_core.specs.Acting.{acting}
use Rattle.c25_meaning_instructions.specs.declared.insn.Insn.{Insn}
use Rattle.c25_meaning_instructions.specs.Table.{size_of}
use Rattle.c25_meaning_pages.specs.Known.{Knowledge}
use Rattle.c25_meaning_pages.specs.KnownAfter.{written_address}
use Rattle.c25_meaning_pages.specs.Supposed.{IsSupposed, LetsNoOther, goes_by_accumulator}
use Rattle.c25_meaning_processor.specs.declared.accumulator.Acc.{Acc}
use Rattle.c25_meaning_processor.specs.declared.lines.Lines.{Lines}
use Rattle.c25_meaning_processor.specs.State.{State}
use Rattle.c25_meaning_processor.specs.Statements.{Statements, standing}
use Rattle.c25_meaning_processor.specs.Step.{advanced, begun, has}
use Rattle.c25_pages.specs.Written.{place_written, writes}
use Rattle.c25_suppositions.specs.declared.breach.Breach.{Breach}
use Rattle.c25_suppositions.specs.declared.breach.Breach.TheVariants.{OtherLine, WritesSpared, GoesElsewhere}
use Rattle.c25_suppositions.specs.Breaches.{Acting, IsBreach, IsBreachBy, IsFound, IsJudged, IsSparedWritten, IsWrongTarget, lets_line, lets_no_other}
use Rattle.c25_suppositions.proofs.Begun.{asleep_stays, begun_as, written_same}

-- ---- interrupt lines

and_true : (x y : Bool) → (x && y) ≡ true → (x ≡ true) × (y ≡ true)
and_true true y e = (refl, e)
and_true false y e = absurd (cc)

let_through : (x y : Bool) → (not x || y) ≡ true → x ≡ true → y ≡ true
let_through true y e q = e
let_through false y e q = absurd (cc)

may_let : (x y : Bool) → (x ≡ true → y ≡ true) → (not x || y) ≡ true
may_let true y h = h refl
may_let false y h = refl

both_true : (x y : Bool) → x ≡ true → y ≡ true → (x && y) ≡ true
both_true true y a b = b
both_true false y a b = absurd (cc)

true_not_false : true ≡ false → ⊥
true_not_false e = absurd (cc)

module _ (kn : Knowledge) (mask : ℕ) where
  abbrev lets : ℕ → Bool
  lets line = lets_line kn.lines mask line

  pub lets_true : lets_no_other kn.lines mask ≡ true → LetsNoOther kn mask
  lets_true e =
      let p = and_true (lets 1 && lets 2) (lets 4) e in
      let q = and_true (lets 1) (lets 2) p.0 in (
        let_through (has mask 1) (has kn.lines 1) q.0,
        let_through (has mask 2) (has kn.lines 2) q.1,
        let_through (has mask 4) (has kn.lines 4) p.1,
      )

  pub lets_false : lets_no_other kn.lines mask ≡ false → LetsNoOther kn mask → ⊥
  lets_false e h =
      let a = may_let (has mask 1) (has kn.lines 1) h.0 in
      let b = may_let (has mask 2) (has kn.lines 2) h.1 in
      let c = may_let (has mask 4) (has kn.lines 4) h.2 in
      true_not_false (sym (both_true (lets 1 && lets 2) (lets 4) (both_true (lets 1) (lets 2) a b) c) ∙ e)

-- ---- whether an instruction acts

module _ (lines : Lines) (s : State) where
  pub acting_is : (address : ℕ) → Some address ≡ acting lines s → ((begun lines s).asleep ≡ false) × ((begun lines s).pc ≡ address)
  acting_is address e = go (begun lines s).asleep refl e
    where
      go : (b : Bool) → (begun lines s).asleep ≡ b → Some address ≡ (if b then None else Some (begun lines s).pc) → ((begun lines s).asleep ≡ false) × ((begun lines s).pc ≡ address)
      go true q f = absurd (cc)
      go false q f = (q, cc)

  pub none_acts : None ≡ acting lines s → (begun lines s).asleep ≡ true
  none_acts e = go (begun lines s).asleep refl e
    where
      go : (b : Bool) → (begun lines s).asleep ≡ b → None ≡ (if b then None else Some (begun lines s).pc) → (begun lines s).asleep ≡ true
      go true q f = q
      go false q f = absurd (cc)

  pub pc_asleep : None ≡ acting lines s → s.registers.pc ≡ (begun lines s).pc
  pc_asleep e = sym (asleep_stays lines s (none_acts e))

-- ---- the instruction that acts

module _ (ss : Statements) (kn : Knowledge) (lines : Lines) (s : State) where
  module _ (address : ℕ) (awake : (begun lines s).asleep ≡ false) (at : (begun lines s).pc ≡ address) where
    here : standing ss (begun lines s).cnf s.world (begun lines s).pc ≡ standing ss s.registers.cnf s.world address
    here = ap₂ (λ (b : Bool) (p : ℕ). standing ss b s.world p) (sym (begun_as lines s).cnf) at

    -- the instruction that acts is the one that was found there
    is_found : (o : Option Insn) → o ≡ standing ss s.registers.cnf s.world address → (i : Insn) → Acting ss lines s i → o ≡ Some i
    is_found o e i a = e ∙ sym here ∙ a.stands

    acts_here : (i : Insn) → Some i ≡ standing ss s.registers.cnf s.world address → Acting ss lines s i
    acts_here i e = record { awake = awake; stands = here ∙ sym e }

    value : (begun lines s).acc.value ≡ s.registers.acc.value
    value = ap (λ (a : Acc). a.value) (sym (begun_as lines s).acc)

    pub nothing_found : None ≡ standing ss s.registers.cnf s.world address → IsFound ss kn lines s None
    nothing_found e = (
      λ i word a. absurd (let is = is_found None e i a in cc),
      λ i a. absurd (let is = is_found None e i a in cc),
    )

    module _ (i : Insn) (stands : Some i ≡ standing ss s.registers.cnf s.world address) where
      same_insn : (j : Insn) → Acting ss lines s j → i ≡ j
      same_insn j a = let is = is_found (Some i) stands j a in cc

      pub word_found : (word : ℕ) → IsSparedWritten (kn.spared address) (place_written (writes i) s.registers) (Some word) → IsFound ss kn lines s (Some (WritesSpared word))
      word_found word h = record { insn = i; acts = acts_here i stands; spared = ap kn.spared at ∙ h.0; written = written_same i lines s ∙ h.1 }

      pub target_found : (target : ℕ) → IsWrongTarget (kn.may_go address) i s.registers.acc.value (Some target) → IsFound ss kn lines s (Some (GoesElsewhere target))
      target_found target h =
          record {
            insn = i;
            acts = acts_here i stands;
            goes = h.0;
            target_is = h.1 ∙ ap (λ (x : ℕ). x % 2 ^ 16) (sym value);
            elsewhere = ap (λ (p : ℕ). kn.may_go p target) at ∙ h.2;
          }

      pub none_found : IsSparedWritten (kn.spared address) (place_written (writes i) s.registers) None → IsWrongTarget (kn.may_go address) i s.registers.acc.value None → IsFound ss kn lines s None
      none_found spares goes = (
        λ j word a spared wrote.
            spares word (sym (ap kn.spared at) ∙ spared)
            (sym (written_same i lines s) ∙ subst (λ (x : Insn). written_address x (advanced (size_of x) (begun lines s)) ≡ Some word) (sym (same_insn j a)) wrote),
        λ j a g.
            ap₂ kn.may_go at (ap (λ (x : ℕ). x % 2 ^ 16) value) ∙ goes (subst (λ (x : Insn). goes_by_accumulator x ≡ true) (sym (same_insn j a)) g),
      )

      pub found_by : (o : Option Breach) → IsBreachBy (kn.spared address) (place_written (writes i) s.registers) (kn.may_go address) i s.registers.acc.value o → IsFound ss kn lines s o
      found_by None h = none_found h.0 h.1
      found_by (Some OtherLine) h = absurd h
      found_by (Some (WritesSpared word)) h = word_found word h
      found_by (Some (GoesElsewhere target)) h = target_found target h

  -- ---- the state

  pub judged : LetsNoOther kn (s.world.words 4) → (o : Option Breach) → IsFound ss kn lines s o → IsJudged ss kn lines s o
  judged imr None h =
      record {
        lets = imr;
        spares = λ i word up stands spared wrote. h.0 i word (record { awake = up; stands = stands }) spared wrote;
        goes = λ i up stands g. h.1 i (record { awake = up; stands = stands }) g;
      }
  judged imr (Some breach) h = h

  pub judged_asleep : LetsNoOther kn (s.world.words 4) → None ≡ acting lines s → IsJudged ss kn lines s None
  judged_asleep imr e =
      let asleep = none_acts lines s e in
      record {
        lets = imr;
        spares = λ i word up stands spared wrote. absurd (cc);
        goes = λ i up stands g. absurd (cc);
      }

  -- a state that does not meet a supposition is not as supposed
  pub breach_is_one : (b : Breach) → IsBreach ss kn lines s b → IsSupposed ss kn lines s → ⊥
  breach_is_one OtherLine h supposed = h supposed.lets
  breach_is_one (WritesSpared word) h supposed = supposed.spares h.insn word h.acts.awake h.acts.stands h.spared h.written
  breach_is_one (GoesElsewhere target) h supposed =
      let goes = supposed.goes h.insn h.acts.awake h.acts.stands h.goes in
      let not_there : kn.may_go (begun lines s).pc ((begun lines s).acc.value % 2 ^ 16) ≡ false = subst (λ (x : ℕ). kn.may_go (begun lines s).pc x ≡ false) h.target_is h.elsewhere in
      true_not_false (sym goes ∙ not_there)
