-- Steps that are printed one after another, each output after the number of its step.
use Rattle.std.proofs.Common.{◌≡◌, ◌∙◌, inl, inr, ℕ, zero, suc, ◌+◌, ◌-◌, ◌≤◌, add-one, add-zero, arith, ap, refl, sym, subst, Bool, true, false, List, [], ◌∷◌, ◌++◌, append_assoc, append-nil, Option, Ok}
use Rattle.std.proofs.KnownBytes.{Appends-nil, Appends-trans}
use Rattle.std.specs.Io.KnownBytes.{Appends}
use Rattle.c25_board.specs.declared.board.Outcome.{Outcome}
use Rattle.c25_board.specs.declared.board.Outcome.TheVariants as outcome
use Rattle.c25_chain.specs.OutcomeText.{outcome_of, outcome_text, steps_of}
use Rattle.c25_chain.specs.Run.{last_state}
use Rattle.c25_report.specs.Ending.{HasFront}
use Rattle.c25_meaning_processor.specs.declared.stop.Stop.{Stop}
use Rattle.c25_meaning_processor.specs.Run.{Ending, Left, Ran, Reaches, Runs, Signals}
use Rattle.c25_meaning_processor.specs.Signals.{signals_of}
use Rattle.c25_meaning_processor.specs.State.{State}
use Rattle.c25_meaning_processor.specs.WordStep.{WordStep}
use Rattle.c25_meaning_processor.specs.declared.schedule.ScheduleEntry.{ScheduleEntry}
use Rattle.c25_run_laws.specs.Behind.{behind, end_behind}
use Rattle.c25_run.proofs.Joined.{GoBehind, Joins, behind_twice, front_behind, front_of_more, last_behind, left_steps, no_sink, same_outcome, same_steps, wider_left}
use Rattle.c25_run.proofs.Looped.{ran_steps}
use Rattle.c25_run.specs.Printed.{PrintsAll, PrintsFront, PrintsLines, PutsLines, TimedBreaksOff, TimedSome}
use Rattle.c25_run.specs.Timed.{PutIn, PutTo, TimedOutput, at_step, timed_line, timed_text}

pub timed_joined : (xs ys : List TimedOutput) → timed_text (xs ++ ys) ≡ timed_text xs ++ timed_text ys
timed_joined [] ys = refl
timed_joined (x ∷ xs) ys = ap (λ (t : List ℕ). timed_line x ++ t) (timed_joined xs ys) ∙ sym (append_assoc (timed_line x) (timed_text xs) (timed_text ys))

one_step : (signals : Signals) (k : ℕ) (s t : State) → Reaches WordStep signals k 1 s t → WordStep (signals.lines k) (signals.bio k) s (Ok t)
one_step signals k s t (u, same, leads) =
    subst (λ (x : ℕ). WordStep (signals.lines x) (signals.bio x) s (Ok t)) (add-zero k)
    (subst (λ (v : State). WordStep (signals.lines (k + 0)) (signals.bio (k + 0)) v (Ok t)) (sym same) leads)

no_front : (xs ys : List (ℕ × ℕ)) → xs ++ ys ≡ [] → xs ≡ []
no_front [] ys e = refl
no_front (x ∷ xs) ys e = absurd (cc)

-- ---- no steps, and one more

none_timed : (signals : Signals) (s : State) (j : ℕ) (old : Option (List ℕ)) (lines : List ℕ) → j ≡ 0 → lines ≡ [] → TimedSome signals 0 s outcome.Ran j s old old lines
none_timed signals s j old lines first none =
    record {
      end = Ran s;
      run = refl;
      outcome_is = refl;
      count = omega (arith, first);
      outputs = [];
      left = refl;
      timed = [];
      put = (refl, refl);
      front = [];
      printed = Appends-nil old;
      text_is = sym none;
    }

module _ (joins : Joins) (go : GoBehind) (signals : Signals) (m : ℕ) (s t : State) (old now : Option (List ℕ)) (lines : List ℕ) (empty : t.world.outputs ≡ []) where
  put_more : (x y u : State) (p q : List (ℕ × ℕ)) (timed : List TimedOutput) → PutIn WordStep signals 0 m s timed x → x ≡ behind p t → Reaches WordStep signals (0 + m) 1 t y → y ≡ behind q u → u.world.outputs ≡ []
      → PutIn WordStep signals 0 (m + 1) s (timed ++ at_step (0 + m) q) (behind p y)
  put_more x y u p q timed put is led ends none =
      let one = one_step signals (0 + m) (behind p t) (behind p y) (go p signals (0 + m) 1 t (Ran y) led) in
      let new : y.world.outputs ≡ q = ap (λ (z : State). z.world.outputs) ends ∙ ap (λ (os : List (ℕ × ℕ)). q ++ os) none ∙ append-nil q in
      let own : p ++ t.world.outputs ≡ p = ap (λ (os : List (ℕ × ℕ)). p ++ os) empty ∙ append-nil p in
      let grew : p ++ y.world.outputs ≡ (p ++ t.world.outputs) ++ q = ap (λ (os : List (ℕ × ℕ)). p ++ os) new ∙ ap (λ (os : List (ℕ × ℕ)). os ++ q) (sym own) in
      subst (λ (i : ℕ). PutIn WordStep signals 0 i s (timed ++ at_step (0 + m) q) (behind p y)) (sym (add-one m))
      (behind p t, timed, q, subst (λ (z : State). PutIn WordStep signals 0 m s timed z) is put, one, grew, refl)

  put_end : (e : Ending) (x u : State) (p q : List (ℕ × ℕ)) (timed : List TimedOutput) → PutIn WordStep signals 0 m s timed x → x ≡ behind p t → Runs WordStep signals (0 + m) 1 t e → last_state e ≡ behind q u → u.world.outputs ≡ []
      → PutTo WordStep signals (m + 1) s (timed ++ at_step (0 + m) q) (end_behind p e)
  put_end (Ran y) x u p q timed put is run ends none = put_more x y u p q timed put is run ends none
  put_end (Left j stop y) x u p q timed put is run ends none =
      let before = run.before in
      let at = run.at in
      let nothing : run.done ≡ 0 = omega (arith, before) in
      let here : j ≡ m = omega (arith, at, nothing) in
      let same : t ≡ y = subst (λ (i : ℕ). Reaches WordStep signals (0 + m) i t y) nothing run.reached in
      let silent : q ≡ [] = no_front q u.world.outputs (sym (ap (λ (z : State). z.world.outputs) ends) ∙ sym (ap (λ (z : State). z.world.outputs) same) ∙ empty) in
      let all : timed ++ at_step (0 + m) q ≡ timed = ap (λ (os : List (ℕ × ℕ)). timed ++ at_step (0 + m) os) silent ∙ append-nil timed in
      subst (λ (i : ℕ). PutIn WordStep signals 0 i s (timed ++ at_step (0 + m) q) (behind p y)) (sym here)
      (subst (λ (ts : List TimedOutput). PutIn WordStep signals 0 m s ts (behind p y)) (sym all)
      (subst (λ (z : State). PutIn WordStep signals 0 m s timed (behind p z)) same (subst (λ (z : State). PutIn WordStep signals 0 m s timed z) is put)))

  by_end : (f : Ending) (p : List (ℕ × ℕ)) (timed : List TimedOutput) (front : List ℕ) → Runs WordStep signals 0 m s f → outcome.Ran ≡ outcome_of f → last_state f ≡ behind p t → PutTo WordStep signals m s timed f
      → Appends old now front → timed_text timed ≡ front ++ lines
      → (o : Outcome) (i : ℕ) (u : State) (more : List ℕ) → u.world.outputs ≡ [] → PutsLines signals (0 + m) t o i u lines more → TimedSome signals (m + 1) s o i u old now more
  by_end (Left j stop x) p timed front run ran is put printed text o i u more none h = absurd (let clash = ran in cc)
  by_end (Ran x) p timed front run ran is put printed text o i u more none h =
      let q = h.outputs in
      let e = h.end in
      let after : Runs WordStep signals (0 + m) 1 x (end_behind p e) =
      subst (λ (y : State). Runs WordStep signals (0 + m) 1 y (end_behind p e)) (sym is) (go p signals (0 + m) 1 t e h.run) in
      let same : 0 + m + 1 ≡ 0 + (m + 1) = omega arith in
      let last = timed_text (at_step (0 + m) q) in
      record {
        end = end_behind p e;
        run = (joins signals 0 m 1 s x (end_behind p e) run).0 after;
        outcome_is = h.outcome_is ∙ sym (same_outcome p e);
        count = h.count ∙ ap (λ (j : ℕ). steps_of j e) same ∙ sym (same_steps p (0 + (m + 1)) e);
        outputs = p ++ q;
        left = last_behind p e ∙ ap (behind p) h.left ∙ behind_twice p q u;
        timed = timed ++ at_step (0 + m) q;
        put = put_end e x u p q timed put is h.run h.left none;
        front = front;
        printed = printed;
        text_is = timed_joined timed (at_step (0 + m) q) ∙ ap (λ (t : List ℕ). t ++ last) text ∙ append_assoc front lines last ∙ ap (λ (t : List ℕ). front ++ t) (sym h.lines);
      }

  more_timed : (j : ℕ) (o : Outcome) (i : ℕ) (u : State) (more : List ℕ) → TimedSome signals m s outcome.Ran j t old now lines → u.world.outputs ≡ [] → PutsLines signals (0 + m) t o i u lines more → TimedSome signals (m + 1) s o i u old now more
  more_timed j o i u more first none h = by_end first.end first.outputs first.timed first.front first.run first.outcome_is first.left first.put first.printed first.text_is o i u more none h

-- ---- lines that are printed

flushed : (signals : Signals) (n : ℕ) (s : State) (o : Outcome) (j : ℕ) (t : State) (old now new : Option (List ℕ)) (lines rest : List ℕ) → TimedSome signals n s o j t old now lines → PrintsLines lines rest now new → TimedSome signals n s o j t old new rest
flushed signals n s o j t old now new lines rest h p =
    record {
      end = h.end;
      run = h.run;
      outcome_is = h.outcome_is;
      count = h.count;
      outputs = h.outputs;
      left = h.left;
      timed = h.timed;
      put = h.put;
      front = h.front ++ p.front;
      printed = Appends-trans old now new h.front p.front h.printed p.printed;
      text_is = h.text_is ∙ ap (λ (x : List ℕ). h.front ++ x) p.lines ∙ sym (append_assoc h.front p.front rest);
    }

module _ (signals : Signals) (m n : ℕ) (s : State) (few : m ≤ n) (old now : Option (List ℕ)) (lines : List ℕ) where
  put_wider : (e : Ending) (at : ℕ) (stop : Stop) (timed : List TimedOutput) → outcome.Left at stop ≡ outcome_of e → PutTo WordStep signals m s timed e → PutTo WordStep signals n s timed e
  put_wider (Ran x) at stop timed left put = absurd (let clash = left in cc)
  put_wider (Left j other x) at stop timed left put = put

  -- a run that was left
  left_timed : (at : ℕ) (stop : Stop) (i : ℕ) (t : State) → TimedSome signals m s (outcome.Left at stop) i t old now lines → TimedSome signals n s (outcome.Left at stop) i t old now lines
  left_timed at stop i t h =
      record {
        end = h.end;
        run = wider_left signals 0 m n s few old now h.end at stop h.run h.outcome_is;
        outcome_is = h.outcome_is;
        count = h.count ∙ left_steps signals 0 m n s few old now h.end at stop h.outcome_is;
        outputs = h.outputs;
        left = h.left;
        timed = h.timed;
        put = put_wider h.end at stop h.timed h.outcome_is h.put;
        front = h.front;
        printed = h.printed;
        text_is = h.text_is;
      }

  broken_by_end : (new : Option (List ℕ)) (e : Ending) (timed : List TimedOutput) (front : List ℕ) → outcome.Ran ≡ outcome_of e → PutTo WordStep signals m s timed e → Appends old now front → timed_text timed ≡ front ++ lines
      → HasFront lines now new → TimedBreaksOff signals n s old new
  broken_by_end new (Left j stop x) timed front ran put printed text h = absurd (let clash = ran in cc)
  broken_by_end new (Ran x) timed front ran put printed text h =
      record { done = m; few = few; reached = x; timed = timed; put = put; front = subst (λ (x : List ℕ). HasFront x old new) (sym text) (front_behind front lines old now new printed h) }

  -- a run whose lines break off
  broken_timed : (new : Option (List ℕ)) (j : ℕ) (t : State) → TimedSome signals m s outcome.Ran j t old now lines → HasFront lines now new → TimedBreaksOff signals n s old new
  broken_timed new j t h front = broken_by_end new h.end h.timed h.front h.outcome_is h.put h.printed h.text_is front

-- ---- a board's steps, one after the other

pub ran_count : (signals : Signals) (k : ℕ) (s : State) (o : Outcome) (j : ℕ) (t : State) (before after : List ℕ) → PutsLines signals k s o j t before after → o ≡ outcome.Ran → j ≡ k + 1
ran_count signals k s o j t before after h is = h.count ∙ go h.end (sym is ∙ h.outcome_is)
  where
    go : (e : Ending) → outcome.Ran ≡ outcome_of e → steps_of (k + 1) e ≡ k + 1
    go (Ran x) ran = refl
    go (Left i stop x) ran = absurd (let clash = ran in cc)

pub begun_timed : (given : List ScheduleEntry) (s : State) (j : ℕ) (old : Option (List ℕ)) (lines : List ℕ) → j ≡ 0 → lines ≡ [] → TimedSome (signals_of given) 0 s outcome.Ran j s old old lines
begun_timed given s j old lines first none = none_timed (signals_of given) s j old lines first none

module _ (joins : Joins) (go : GoBehind) (given es : List ScheduleEntry) (m j : ℕ) (s t : State) (old now : Option (List ℕ)) (lines : List ℕ)
    (same : es ≡ given) (empty : t.world.outputs ≡ []) (first : TimedSome (signals_of given) m s outcome.Ran j t old now lines) where
  done : j ≡ 0 + m
  done = first.count ∙ ran_steps first.end m first.outcome_is

  one_at : (o p : Outcome) (i : ℕ) (u : State) (more : List ℕ) → p ≡ o → u.world.outputs ≡ [] → PutsLines (signals_of es) j t p i u lines more → TimedSome (signals_of given) (m + 1) s o i u old now more
  one_at o p i u more is none h =
      let under = subst (λ (x : List ScheduleEntry). PutsLines (signals_of x) j t p i u lines more) same h in
      let told = subst (λ (x : Outcome). PutsLines (signals_of given) j t x i u lines more) is under in
      more_timed joins go (signals_of given) m s t old now lines empty j o i u more first none (subst (λ (x : ℕ). PutsLines (signals_of given) x t o i u lines more) done told)

  pub more_at : (p : Outcome) (i : ℕ) (u : State) (more rest : List ℕ) (new : Option (List ℕ)) → p ≡ outcome.Ran → u.world.outputs ≡ [] → PutsLines (signals_of es) j t p i u lines more → PrintsLines more rest now new
      → TimedSome (signals_of given) (m + 1) s outcome.Ran i u old new rest
  more_at p i u more rest new is none h printed = flushed (signals_of given) (m + 1) s outcome.Ran i u old now new more rest (one_at outcome.Ran p i u more is none h) printed

  pub left_at : (all at : ℕ) (stop : Stop) (p : Outcome) (i : ℕ) (u : State) (more : List ℕ) → m + 1 ≤ all → p ≡ outcome.Left at stop → u.world.outputs ≡ [] → PutsLines (signals_of es) j t p i u lines more
      → TimedSome (signals_of given) all s (outcome.Left at stop) i u old now more
  left_at all at stop p i u more few is none h = left_timed (signals_of given) (m + 1) all s few old now more at stop i u (one_at (outcome.Left at stop) p i u more is none h)

  pub broken_at : (all : ℕ) (p : Outcome) (i : ℕ) (u : State) (more : List ℕ) (new : Option (List ℕ)) → m + 1 ≤ all → p ≡ outcome.Ran → u.world.outputs ≡ [] → PutsLines (signals_of es) j t p i u lines more → HasFront more now new
      → TimedBreaksOff (signals_of given) all s old new
  broken_at all p i u more new few is none h front = broken_timed (signals_of given) (m + 1) all s few old now more new i u (one_at outcome.Ran p i u more is none h) front

  pub sunk_at : {P : Type 0} (at : ℕ) (p : Outcome) (i : ℕ) (u : State) (more : List ℕ) → p ≡ outcome.SinkFault at → PutsLines (signals_of es) j t p i u lines more → P
  sunk_at at p i u more is h = absurd (no_sink h.end at (sym is ∙ h.outcome_is))

pub all_at : (given : List ScheduleEntry) (m n : ℕ) (s : State) (j : ℕ) (t : State) (old now : Option (List ℕ)) (lines : List ℕ) → m ≡ n → TimedSome (signals_of given) m s outcome.Ran j t old now lines
    → TimedSome (signals_of given) n s outcome.Ran j t old now lines
all_at given m n s j t old now lines is h = subst (λ (x : ℕ). TimedSome (signals_of given) x s outcome.Ran j t old now lines) is h

-- ---- the whole text

module _ (signals : Signals) (n : ℕ) (s : State) (o : Outcome) (j : ℕ) (t : State) (old now : Option (List ℕ)) (lines : List ℕ) (h : TimedSome signals n s o j t old now lines) where
  steps_are : j ≡ steps_of n h.end
  steps_are = let zero_plus : 0 + n ≡ n = omega arith in h.count ∙ ap (λ (x : ℕ). steps_of x h.end) zero_plus

  abbrev told : List ℕ
  told = outcome_text (outcome_of h.end) (steps_of n h.end)

  told_is : outcome_text o j ≡ told
  told_is = ap (λ (x : Outcome). outcome_text x j) h.outcome_is ∙ ap (λ (x : ℕ). outcome_text (outcome_of h.end) x) steps_are

  all_lines : (rest : List ℕ) (mid : Option (List ℕ)) → PrintsLines lines rest now mid → rest ≡ [] → Appends old mid (timed_text h.timed)
  all_lines rest mid p none =
      subst (Appends old mid) (sym (h.text_is ∙ ap (λ (x : List ℕ). h.front ++ x) (p.lines ∙ ap (λ (x : List ℕ). p.front ++ x) none ∙ append-nil p.front)))
      (Appends-trans old now mid h.front p.front h.printed p.printed)

  pub all_timed : (rest : List ℕ) (mid new : Option (List ℕ)) → PrintsLines lines rest now mid → rest ≡ [] → Appends mid new (outcome_text o j) → PrintsAll true signals n s o j t old new
  all_timed rest mid new p none last =
      record {
        end = h.end;
        run = h.run;
        outcome_is = h.outcome_is;
        count = steps_are;
        outputs = h.outputs;
        left = h.left;
        text = timed_text h.timed ++ told;
        text_is = (h.timed, h.put, refl);
        printed = Appends-trans old mid new (timed_text h.timed) told (all_lines rest mid p none) (subst (Appends mid new) told_is last);
      }

  pub lines_broken : (new : Option (List ℕ)) → HasFront lines now new → PrintsFront true signals n s old new
  lines_broken new front =
      inr (
        h.end,
        h.run,
        (
          timed_text h.timed ++ told,
          (h.timed, h.put, refl),
          front_of_more (timed_text h.timed) told old new (subst (λ (x : List ℕ). HasFront x old new) (sym h.text_is) (front_behind h.front lines old now new h.printed front)),
        ),
      )

  pub end_broken : (rest : List ℕ) (mid new : Option (List ℕ)) → PrintsLines lines rest now mid → rest ≡ [] → HasFront (outcome_text o j) mid new → PrintsFront true signals n s old new
  end_broken rest mid new p none front =
      inr (
        h.end,
        h.run,
        (
          timed_text h.timed ++ told,
          (h.timed, h.put, refl),
          front_behind (timed_text h.timed) told old mid new (all_lines rest mid p none) (subst (λ (x : List ℕ). HasFront x mid new) told_is front),
        ),
      )
