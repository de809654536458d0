-- Steps that are printed one after another.
use Rattle.std.proofs.Common.{◌≡◌, ◌↔◌, inl, inr, ℕ, ◌+◌, ◌-◌, ◌≤◌, List, [], ◌∷◌, ◌++◌, length, Option, false, refl, ap, sym, subst, ◌∙◌, append_assoc, append-nil, arith}
use Rattle.std.proofs.KnownBytes.{Appends-nil, Appends-trans}
use Rattle.std.specs.Io.KnownBytes.{Appends}
use Rattle.c25_board.specs.declared.board.Outcome.{Outcome}
use Rattle.c25_board.specs.declared.board.Outcome.TheVariants as outcome
use Rattle.c25_chain.specs.OutcomeText.{end_text, outcome_of, outcome_text, steps_of}
use Rattle.c25_chain.specs.Run.{last_state}
use Rattle.c25_report.specs.Ending.{HasFront}
use Rattle.c25_run.specs.Printed.{BreaksOff, PrintsAll, PrintsFront, PrintsSome}
use Rattle.c25_meaning_processor.specs.declared.stop.Stop.{Stop}
use Rattle.c25_meaning_processor.specs.Run.{Ending, Left, Ran, Reaches, Runs, Signals}
use Rattle.c25_meaning_processor.specs.RunText.{output_line, outputs_text}
use Rattle.c25_meaning_processor.specs.State.{State}
use Rattle.c25_meaning_processor.specs.WordStep.{WordStep}
use Rattle.c25_run_laws.specs.Behind.{behind, end_behind}

-- ---- the laws that are cited

abbrev pub Joins : Type 0
Joins = (signals : Signals) (k m n : ℕ) (s t : State) (e : Ending) → Runs WordStep signals k m s (Ran t) → Runs WordStep signals (k + m) n t e ↔ Runs WordStep signals k (m + n) s e

abbrev pub GoBehind : Type 0
GoBehind = (outputs : List (ℕ × ℕ)) (signals : Signals) (k n : ℕ) (s : State) (e : Ending) → Runs WordStep signals k n s e → Runs WordStep signals k n (behind outputs s) (end_behind outputs e)

abbrev pub PutFew : Type 0
PutFew = (signals : Signals) (k n : ℕ) (s t : State) → Reaches WordStep signals k n s t → (more : List (ℕ × ℕ)) × (t.world.outputs ≡ s.world.outputs ++ more) × (length more ≤ n)

abbrev pub EndOnce : Type 0
EndOnce = (signals : Signals) (k n : ℕ) (s : State) (e f : Ending) → Runs WordStep signals k n s e → Runs WordStep signals k n s f → e ≡ f

-- ---- texts

outputs_joined : (xs ys : List (ℕ × ℕ)) → outputs_text (xs ++ ys) ≡ outputs_text xs ++ outputs_text ys
outputs_joined [] ys = refl
outputs_joined (x ∷ xs) ys = ap (λ (t : List ℕ). output_line x ++ t) (outputs_joined xs ys) ∙ sym (append_assoc (output_line x) (outputs_text xs) (outputs_text ys))

pub front_of_more : (text more : List ℕ) (old new : Option (List ℕ)) → HasFront text old new → HasFront (text ++ more) old new
front_of_more text more old new (front, rest, whole, written) = (front, rest ++ more, ap (λ (t : List ℕ). t ++ more) whole ∙ append_assoc front rest more, written)

pub front_behind : (text more : List ℕ) (old now new : Option (List ℕ)) → Appends old now text → HasFront more now new → HasFront (text ++ more) old new
front_behind text more old now new printed (front, rest, whole, written) =
    (text ++ front, rest, ap (λ (t : List ℕ). text ++ t) whole ∙ sym (append_assoc text front rest), Appends-trans old now new text front printed written)

-- ---- ends after other outputs

pub same_outcome : (o : List (ℕ × ℕ)) (e : Ending) → outcome_of (end_behind o e) ≡ outcome_of e
same_outcome o (Ran t) = refl
same_outcome o (Left j stop t) = refl

pub same_steps : (o : List (ℕ × ℕ)) (n : ℕ) (e : Ending) → steps_of n (end_behind o e) ≡ steps_of n e
same_steps o n (Ran t) = refl
same_steps o n (Left j stop t) = refl

pub last_behind : (o : List (ℕ × ℕ)) (e : Ending) → last_state (end_behind o e) ≡ behind o (last_state e)
last_behind o (Ran t) = refl
last_behind o (Left j stop t) = refl

pub behind_twice : (p q : List (ℕ × ℕ)) (t : State) → behind p (behind q t) ≡ behind (p ++ q) t
behind_twice p q t = ap (λ (o : List (ℕ × ℕ)). record t { world = record t.world { outputs = o } }) (sym (append_assoc p q t.world.outputs))

-- ---- no steps, and some

pub none_printed : (signals : Signals) (k : ℕ) (s : State) (old : Option (List ℕ)) → PrintsSome signals k 0 s outcome.Ran k s old old
none_printed signals k s old =
    record {
      end = Ran s;
      run = refl;
      outcome_is = refl;
      count = omega arith;
      outputs = [];
      left = refl;
      printed = Appends-nil old;
    }

module _ (joins : Joins) (go : GoBehind) (signals : Signals) (k m n : ℕ) (s t : State) (old now new : Option (List ℕ)) where
  some_behind : (x : State) (p : List (ℕ × ℕ)) (o : Outcome) (i : ℕ) (u : State) → Reaches WordStep signals k m s x → x ≡ behind p t → Appends old now (outputs_text p)
      → PrintsSome signals (k + m) n t o i u now new → PrintsSome signals k (m + n) s o i u old new
  some_behind x p o i u reached is printed h =
      let q = h.outputs in
      let e = h.end in
      let after : Runs WordStep signals (k + m) n x (end_behind p e) =
      subst (λ (y : State). Runs WordStep signals (k + m) n y (end_behind p e)) (sym is) (go p signals (k + m) n t e h.run) in
      let same : k + m + n ≡ k + (m + n) = omega arith in
      record {
        end = end_behind p e;
        run = (joins signals k m n s x (end_behind p e) reached).0 after;
        outcome_is = h.outcome_is ∙ sym (same_outcome p e);
        count = h.count ∙ ap (λ (j : ℕ). steps_of j e) same ∙ sym (same_steps p (k + (m + n)) e);
        outputs = p ++ q;
        left = last_behind p e ∙ ap (behind p) h.left ∙ behind_twice p q u;
        printed = subst (Appends old new) (sym (outputs_joined p q)) (Appends-trans old now new (outputs_text p) (outputs_text q) printed h.printed);
      }

  by_end : (e : Ending) (p : List (ℕ × ℕ)) (o : Outcome) (i : ℕ) (u : State) → Runs WordStep signals k m s e → outcome.Ran ≡ outcome_of e → last_state e ≡ behind p t → Appends old now (outputs_text p)
      → PrintsSome signals (k + m) n t o i u now new → PrintsSome signals k (m + n) s o i u old new
  by_end (Ran x) p o i u run ran is printed h = some_behind x p o i u run is printed h
  by_end (Left j stop x) p o i u run ran is printed h = absurd (let clash = ran in cc)

  -- some steps, and more after them
  pub more_printed : (j : ℕ) (o : Outcome) (i : ℕ) (u : State) → PrintsSome signals k m s outcome.Ran j t old now → PrintsSome signals (k + m) n t o i u now new → PrintsSome signals k (m + n) s o i u old new
  more_printed j o i u first h = by_end first.end first.outputs o i u first.run first.outcome_is first.left first.printed h

  broken_behind : (x : State) (p : List (ℕ × ℕ)) → Reaches WordStep signals k m s x → x ≡ behind p t → Appends old now (outputs_text p) → BreaksOff signals (k + m) n t now new → BreaksOff signals k (m + n) s old new
  broken_behind x p reached is printed h =
      let few = h.few in
      let after : Runs WordStep signals (k + m) h.done x (Ran (behind p h.reached)) =
      subst (λ (y : State). Runs WordStep signals (k + m) h.done y (Ran (behind p h.reached))) (sym is) (go p signals (k + m) h.done t (Ran h.reached) h.reaches) in
      record {
        done = m + h.done;
        few = omega (arith, few);
        reached = behind p h.reached;
        reaches = (joins signals k m h.done s x (Ran (behind p h.reached)) reached).0 after;
        front =
            subst (λ (t : List ℕ). HasFront t old new) (sym (outputs_joined p h.reached.world.outputs))
            (front_behind (outputs_text p) (outputs_text h.reached.world.outputs) old now new printed h.front);
      }

  broken_by_end : (e : Ending) (p : List (ℕ × ℕ)) → Runs WordStep signals k m s e → outcome.Ran ≡ outcome_of e → last_state e ≡ behind p t → Appends old now (outputs_text p) → BreaksOff signals (k + m) n t now new
      → BreaksOff signals k (m + n) s old new
  broken_by_end (Ran x) p run ran is printed h = broken_behind x p run is printed h
  broken_by_end (Left j stop x) p run ran is printed h = absurd (let clash = ran in cc)

  -- some steps, and some after them that break off
  pub then_broken : (j : ℕ) → PrintsSome signals k m s outcome.Ran j t old now → BreaksOff signals (k + m) n t now new → BreaksOff signals k (m + n) s old new
  then_broken j first h = broken_by_end first.end first.outputs first.run first.outcome_is first.left first.printed h

-- ---- fewer steps than were asked for

module _ (signals : Signals) (k m n : ℕ) (s : State) (more : m ≤ n) (old new : Option (List ℕ)) where
  pub wider_left : (e : Ending) (at : ℕ) (stop : Stop) → Runs WordStep signals k m s e → outcome.Left at stop ≡ outcome_of e → Runs WordStep signals k n s e
  wider_left (Ran x) at stop run left = absurd (let clash = left in cc)
  wider_left (Left j other x) at stop run left =
      let before = run.before in
      record { done = run.done; before = omega (arith, more, before); at = run.at; reached = run.reached; stops = run.stops }

  pub left_steps : (e : Ending) (at : ℕ) (stop : Stop) → outcome.Left at stop ≡ outcome_of e → steps_of (k + m) e ≡ steps_of (k + n) e
  left_steps (Ran x) at stop left = absurd (let clash = left in cc)
  left_steps (Left j other x) at stop left = refl

  -- a run that was left
  pub left_printed : (at : ℕ) (stop : Stop) (i : ℕ) (t : State) → PrintsSome signals k m s (outcome.Left at stop) i t old new → PrintsSome signals k n s (outcome.Left at stop) i t old new
  left_printed at stop i t h =
      record {
        end = h.end;
        run = wider_left h.end at stop h.run h.outcome_is;
        outcome_is = h.outcome_is;
        count = h.count ∙ left_steps h.end at stop h.outcome_is;
        outputs = h.outputs;
        left = h.left;
        printed = h.printed;
      }

  -- one that breaks off
  pub wider_broken : BreaksOff signals k m s old new → BreaksOff signals k n s old new
  wider_broken h =
      let few = h.few in
      record { done = h.done; few = omega (arith, few, more); reached = h.reached; reaches = h.reaches; front = h.front }

pub no_sink : (e : Ending) (at : ℕ) → outcome.SinkFault at ≡ outcome_of e → ⊥
no_sink (Ran x) at is = let clash = is in cc
no_sink (Left j stop x) at is = let clash = is in cc

-- no run has met a sink that refuses
pub never_sunk : {P : Type 0} (signals : Signals) (k n : ℕ) (s : State) (at i : ℕ) (t : State) (old new : Option (List ℕ)) → PrintsSome signals k n s (outcome.SinkFault at) i t old new → P
never_sunk signals k n s at i t old new h = absurd (no_sink h.end at h.outcome_is)

-- ---- the whole text

module _ (signals : Signals) (n : ℕ) (s : State) (o : Outcome) (j : ℕ) (t : State) (old now new : Option (List ℕ)) (none : t.world.outputs ≡ []) (h : PrintsSome signals 0 n s o j t old now) where
  steps_are : j ≡ steps_of n h.end
  steps_are = let zero_plus : 0 + n ≡ n = omega arith in h.count ∙ ap (λ (x : ℕ). steps_of x h.end) zero_plus

  outputs_are : outputs_text (last_state h.end).world.outputs ≡ outputs_text h.outputs
  outputs_are = ap outputs_text (ap (λ (x : State). x.world.outputs) h.left ∙ ap (λ (x : List (ℕ × ℕ)). h.outputs ++ x) none ∙ append-nil h.outputs)

  whole_is : end_text n h.end ≡ outputs_text h.outputs ++ outcome_text o j
  whole_is =
      ap (λ (x : List ℕ). x ++ outcome_text (outcome_of h.end) (steps_of n h.end)) outputs_are
      ∙ ap (λ (x : Outcome). outputs_text h.outputs ++ outcome_text x (steps_of n h.end)) (sym h.outcome_is)
      ∙ ap (λ (x : ℕ). outputs_text h.outputs ++ outcome_text o x) (sym steps_are)

  pub all_printed : Appends now new (outcome_text o j) → PrintsAll false signals n s o j t old new
  all_printed told =
      record {
        end = h.end;
        run = h.run;
        outcome_is = h.outcome_is;
        count = steps_are;
        outputs = h.outputs;
        left = h.left;
        text = end_text n h.end;
        text_is = refl;
        printed = subst (Appends old new) (sym whole_is) (Appends-trans old now new (outputs_text h.outputs) (outcome_text o j) h.printed told);
      }

  pub end_broken : HasFront (outcome_text o j) now new → PrintsFront false signals n s old new
  end_broken told =
      inr (
        h.end,
        h.run,
        (
          end_text n h.end,
          refl,
          subst (λ (x : List ℕ). HasFront x old new) (sym whole_is) (front_behind (outputs_text h.outputs) (outcome_text o j) old now new h.printed told),
        ),
      )

-- ---- fronts of a run that ends

module _ (joins : Joins) (put : PutFew) (once : EndOnce) (signals : Signals) (n : ℕ) (s : State) (old new : Option (List ℕ)) where
  -- what an end has put out since a state that was reached
  since : (k m : ℕ) (x : State) (e : Ending) → Runs WordStep signals k m x e → (more : List (ℕ × ℕ)) × ((last_state e).world.outputs ≡ x.world.outputs ++ more)
  since k m x (Ran t) run = let grown = put signals k m x t run in (grown.0, grown.1)
  since k m x (Left j stop t) run = let grown = put signals k run.done x t run.reached in (grown.0, grown.1)

  of_some : (e : Ending) (more : List (ℕ × ℕ)) (b : BreaksOff signals 0 n s old new) → (last_state e).world.outputs ≡ b.reached.world.outputs ++ more → HasFront (end_text n e) old new
  of_some e more b grown =
      let told = outcome_text (outcome_of e) (steps_of n e) in
      let all : outputs_text (last_state e).world.outputs ≡ outputs_text b.reached.world.outputs ++ outputs_text more =
      ap outputs_text grown ∙ outputs_joined b.reached.world.outputs more in
      subst (λ (x : List ℕ). HasFront x old new)
      (sym (ap (λ (x : List ℕ). x ++ told) all ∙ append_assoc (outputs_text b.reached.world.outputs) (outputs_text more) told))
      (front_of_more (outputs_text b.reached.world.outputs) (outputs_text more ++ told) old new b.front)

  pub front_of_end : (e : Ending) → Runs WordStep signals 0 n s e → PrintsFront false signals n s old new → HasFront (end_text n e) old new
  front_of_end e run (inl b) =
      let few = b.few in
      let whole : n ≡ b.done + (n - b.done) = omega (arith, few) in
      let rest = (joins signals 0 b.done (n - b.done) s b.reached e b.reaches).1 (subst (λ (x : ℕ). Runs WordStep signals 0 x s e) whole run) in
      let grown = since (0 + b.done) (n - b.done) b.reached e rest in
      of_some e grown.0 b grown.1
  front_of_end e run (inr (end, ran, (text, is, front))) =
      subst (λ (x : Ending). HasFront (end_text n x) old new) (once signals 0 n s end e ran run) (subst (λ (x : List ℕ). HasFront x old new) is front)
