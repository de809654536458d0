-- Steps of a board, counted one after the other.
use Rattle.std.proofs.Common.{◌≡◌, ◌∙◌, ℕ, zero, suc, ◌+◌, ◌-◌, ◌<◌, ◌≤◌, ◌==◌, ◌&&◌, arith, ap, sym, subst, refl, Bool, true, false, if◌then◌else◌, List, Option, None, Some, Ok}
use Rattle.std.proofs.Math.Nat.{le-min}
use Rattle.std.specs.Prelude.{◌^◌, min, replicate, slice_index}
use Rattle.c25_board.specs.Observed.{IsSeenTo}
use Rattle.c25_board.specs.declared.run_to.Halted.{Halted}
use Rattle.c25_board.specs.declared.run_to.Halted.TheVariants as halted
use Rattle.c25_core.specs.Seen.{Sees}
use Rattle.c25_core.specs.Sink.{HasFailed}
use Rattle.c25_count_laws.specs.Counts.{Counted, CountsRuns, Event, acts, acts_at, ends_at, goes_on, one_at, passes}
use Rattle.c25_counts.specs.Counting.{AreEnds, CountsSteps, count_in, ends_in, is_hidden, owed, passed}
use Rattle.c25_counts.specs.Seen.{AreCounts, CountsOn, IsSettled, SeesStep, ends, is_over, passes_with}
use Rattle.c25_counts.specs.declared.counts.Counts.{Counts}
use Rattle.c25_counts.proofs.Told.{none_owed, none_passed, told}
use Rattle.c25_meaning_processor.specs.Run.{Left, Ran, Signals}
use Rattle.c25_meaning_processor.specs.Signals.{signals_of}
use Rattle.c25_meaning_processor.specs.State.{State}
use Rattle.c25_meaning_processor.specs.WordStep.{WordStep}
use Rattle.c25_meaning_processor.specs.declared.schedule.ScheduleEntry.{ScheduleEntry}

-- a sink that has failed has failed some times
fails_some : (failed fails : ℕ) → HasFailed failed fails → fails ≡ 0 → ⊥
fails_some failed fails counted none =
    let some : 1 ≤ min (failed + 1) (2 ^ 64 - 1) = le-min (omega arith) (omega arith) in
    omega (arith, some, counted, none)

one_at_most : (o : Option ℕ) (address : ℕ) → one_at o address ≤ 1
one_at_most None address = omega arith
one_at_most (Some here) address = go (here == address)
  where
    go : (b : Bool) → (if b then 1 else 0) ≤ 1
    go true = omega arith
    go false = omega arith

true_not_false : true ≡ false → ⊥
true_not_false e = absurd (cc)

-- a count that has other names for the same numbers
counted_as : (event : Event) (signals : Signals) (k : ℕ) (s t : State) (count other : ℕ → ℕ) → ((a : ℕ) → other a ≡ count a) → Counted event WordStep signals 0 k s count t → Counted event WordStep signals 0 k s other t
counted_as event signals zero s t count other same (here, none) = (here, λ a. same a ∙ none a)
counted_as event signals (suc k) s t count other same (u, before, counted, leads, sums) = (u, before, counted, leads, λ a. same a ∙ sums a)

module _ (signals : Signals) (s : State) (branches : List ℕ) where
  -- one more step is seen, which says what passed in the step before
  one_more : (k : ℕ) (u t : State) (before after : Counts) → suc k < 2 ^ 32 → AreCounts signals k s branches before u → WordStep (signals.lines k) (signals.bio k) u (Ok t)
      → SeesStep before (acts_at signals k u) after → passed before.ends.items before.last (acts_at signals k u) ≡ owed before.ends.items before.last u.registers.pc → AreCounts signals (suc k) s branches after t
  one_more k u t before after room h leads (acting, passing, ends_same, last) told =
      let here : k ≡ 0 + k = omega arith in
      let led = subst (λ (x : ℕ). WordStep (signals.lines x) (signals.bio x) u (Ok t)) here leads in
      let pc = t.registers.pc in
      let more : (a : ℕ) → count_in after.acts.items a ≡ count_in before.acts.items a + one_at (acts signals k u t) a =
      λ a. acting a (let f = h.few a in let one = one_at_most (acts signals k u t) a in omega (arith, f, one, room)) in
      let settled : (a : ℕ) → count_in after.passes.items a ≡ passes_with before u.registers.pc a =
      λ a. passing a (let f = h.few_passes a in let same = ap (λ (o : Option ℕ). one_at o a) told in omega (arith, f, same, room)) ∙ ap (λ (o : Option ℕ). count_in before.passes.items a + one_at o a) told in
      let event : owed after.ends.items after.last pc ≡ passes branches signals k u t =
      ap (λ (es : List Bool). if ends_in es pc then goes_on after.last pc else None) ends_same
      ∙ ap (λ (b : Bool). if b then goes_on after.last pc else None) (h.ends pc)
      ∙ ap (λ (o : Option ℕ). if ends_at branches pc then goes_on o pc else None) last in
      let more_passes : (a : ℕ) → passes_with after pc a ≡ passes_with before u.registers.pc a + one_at (passes branches signals k u t) a =
      λ a. ap (λ (n : ℕ). n + one_at (owed after.ends.items after.last pc) a) (settled a) ∙ ap (λ (o : Option ℕ). passes_with before u.registers.pc a + one_at o a) event in
      record {
        acts =
            (u, count_in before.acts.items, h.acts, led, subst (λ (x : ℕ). (a : ℕ) → count_in after.acts.items a ≡ count_in before.acts.items a + one_at (acts signals x u t) a) here more);
        passes =
            (u, passes_with before u.registers.pc, h.passes, led, subst (λ (x : ℕ). (a : ℕ) → passes_with after pc a ≡ passes_with before u.registers.pc a + one_at (passes branches signals x u t) a) here more_passes);
        few = λ a. let f = h.few a in let m = more a in let one = one_at_most (acts signals k u t) a in omega (arith, f, m, one);
        few_passes = λ a. let f = h.few_passes a in let m = more_passes a in let one = one_at_most (passes branches signals k u t) a in omega (arith, f, m, one);
        ends = λ at. ap (λ (es : List Bool). ends_in es at) ends_same ∙ h.ends at;
      }

  module _ (k : ℕ) (u : State) (q : Counts) (from : AreCounts signals k s branches q u) (counted : q.last ≡ None) where
    -- the next step says what passed in the last one, where all was counted first or the run has not ended
    next_told : (m : ℕ) (v : State) (r : Counts) → Sees SeesStep ends signals k m false u q v r → passed r.ends.items r.last (acts_at signals (k + m) v) ≡ owed r.ends.items r.last v.registers.pc
    next_told zero v r (same, alike, ran) =
        let none : r.last ≡ None = ap (λ (c : Counts). c.last) (sym alike) ∙ counted in
        none_passed r.ends.items r.last (acts_at signals (k + 0) v) none ∙ sym (none_owed r.ends.items r.last v.registers.pc none)
    next_told (suc m) v r (w, o, seen, leads, (acting, passing, ends_same, last), ended) =
        told r.ends.items r.last signals (k + suc m) v (ap (λ (es : List Bool). ends_in es v.registers.pc && is_hidden v.registers) ends_same ∙ ended)

    -- steps that are seen
    seen_on : (m : ℕ) (last : Bool) (t : State) (p : Counts) → k + m < 2 ^ 32 → Sees SeesStep ends signals k m last u q t p → AreCounts signals (k + m) s branches p t
    seen_on zero last t p room (same, alike, ran) =
        let here : k ≡ k + 0 = omega arith in
        subst (λ (x : ℕ). AreCounts signals x s branches p t) here
        (subst (λ (x : State). AreCounts signals k s branches p x) same (subst (λ (x : Counts). AreCounts signals k s branches x u) alike from))
    seen_on (suc m) last t p room (v, r, seen, leads, sees, ended) =
        let here : suc (k + m) ≡ k + suc m = omega arith in
        subst (λ (x : ℕ). AreCounts signals x s branches p t) here
        (one_more (k + m) v t r p (omega (arith, room)) (seen_on m false v r (omega (arith, room)) seen) leads sees (next_told m v r seen))

    some_met : (m : ℕ) (t : State) (p : Counts) → Sees SeesStep ends signals k m true u q t p → 0 < m
    some_met zero t p (same, alike, ran) = absurd (cc)
    some_met (suc m) t p h = omega arith

    -- what passed in the last step is counted too
    settled_on : (j : ℕ) (t : State) (p after : Counts) → j < 2 ^ 32 → AreCounts signals j s branches p t → IsSettled p t.registers.pc after → AreCounts signals j s branches after t
    settled_on j t p after room h (passing, acts_same, ends_same, last) =
        let pc = t.registers.pc in
        let acts_kept : (a : ℕ) → count_in after.acts.items a ≡ count_in p.acts.items a = λ a. ap (λ (cs : List ℕ). count_in cs a) acts_same in
        let none : owed after.ends.items after.last pc ≡ None = none_owed after.ends.items after.last pc last in
        let kept : (a : ℕ) → passes_with after pc a ≡ passes_with p pc a =
        λ a.
        let more = passing a (let f = h.few_passes a in omega (arith, f, room)) in
        let nothing = ap (λ (o : Option ℕ). one_at o a) none in
        omega (arith, more, nothing) in
        record {
          acts = counted_as acts signals j s t (count_in p.acts.items) (count_in after.acts.items) acts_kept h.acts;
          passes = counted_as (passes branches) signals j s t (passes_with p pc) (passes_with after pc) kept h.passes;
          few = λ a. let f = h.few a in let same = acts_kept a in omega (arith, f, same);
          few_passes = λ a. let f = h.few_passes a in let same = kept a in omega (arith, f, same);
          ends = λ at. ap (λ (es : List Bool). ends_in es at) ends_same ∙ h.ends at;
        }

    -- an answer, and what passed then
    pub counted_on : (most j failed fails pc : ℕ) (t : State) (p after : Counts) (h : Halted) → k + most < 2 ^ 32 → pc ≡ t.registers.pc → IsSettled p pc after
        → IsSeenTo SeesStep ends signals k most u q h j t p failed fails → CountsOn signals k most s branches h j t after failed fails
    counted_on most j failed fails pc t p after halted.Ran room here settled (seen, at, same) =
        let all = settled_on (k + most) t p after room (seen_on most false t p room seen) (subst (λ (x : ℕ). IsSettled p x after) here settled) in
        (at, subst (λ (x : ℕ). AreCounts signals x s branches after t) (sym at) all)
    counted_on most j failed fails pc t p after halted.Met room here settled (done, few, seen, at, same) =
        let some = some_met done t p seen in
        let below : k + done < 2 ^ 32 = omega (arith, few, room) in
        let all = settled_on (k + done) t p after below (seen_on done true t p below seen) (subst (λ (x : ℕ). IsSettled p x after) here settled) in
        (omega (arith, some, at), omega (arith, few, at), subst (λ (x : ℕ). AreCounts signals x s branches after t) (sym at) all)
    counted_on most j failed fails pc t p after (halted.Left at stop) room here settled (done, few, number, seen, counted_to, stops, same) =
        let last : k + done ≡ j = sym number ∙ sym counted_to in
        let below : k + done < 2 ^ 32 = omega (arith, few, room) in
        let all = settled_on (k + done) t p after below (seen_on done false t p below seen) (subst (λ (x : ℕ). IsSettled p x after) here settled) in
        (omega (arith, few, last), sym counted_to, subst (λ (x : ℕ). AreCounts signals x s branches after t) last all, stops)
    counted_on most j failed fails pc t p after (halted.SinkFault at) room here settled (done, few, number, seen, counted_to, fault, puts) = fault

  -- counts of no step
  pub none_counted : (counts : Counts) → ((a : ℕ) → count_in counts.acts.items a ≡ 0) → ((a : ℕ) → count_in counts.passes.items a ≡ 0) → counts.last ≡ None → AreEnds branches counts.ends.items
      → AreCounts signals 0 s branches counts s
  none_counted counts acting passing last at =
      let pc = s.registers.pc in
      let none : owed counts.ends.items counts.last pc ≡ None = none_owed counts.ends.items counts.last pc last in
      let nothing : (a : ℕ) → passes_with counts pc a ≡ 0 = λ a. let n = passing a in let o = ap (λ (x : Option ℕ). one_at x a) none in omega (arith, n, o) in
      record {
        acts = (refl, acting);
        passes = (refl, nothing);
        few = λ a. let n = acting a in omega (arith, n);
        few_passes = λ a. let n = nothing a in omega (arith, n);
        ends = at;
      }

  module _ (of_runs : (event : Event) → CountsRuns event WordStep) (n : ℕ) where
    -- the passes of counts of which nothing is left to be counted
    all_passed : (k : ℕ) (t : State) (counts : Counts) → counts.last ≡ None → AreCounts signals k s branches counts t → Counted (passes branches) WordStep signals 0 k s (count_in counts.passes.items) t
    all_passed k t counts last h =
        let none : owed counts.ends.items counts.last t.registers.pc ≡ None = none_owed counts.ends.items counts.last t.registers.pc last in
        counted_as (passes branches) signals k s t (passes_with counts t.registers.pc) (count_in counts.passes.items)
        (λ a. let o = ap (λ (x : Option ℕ). one_at x a) none in omega (arith, o))
        h.passes

    -- all steps are counted
    pub all_counted : (k : ℕ) (t : State) (counts : Counts) → k ≡ n → counts.last ≡ None → AreCounts signals k s branches counts t → CountsSteps signals n s branches counts.acts.items counts.passes.items
    all_counted k t counts all last h =
        let here = subst (λ (x : ℕ). AreCounts signals x s branches counts t) all h in
        record {
          end = Ran t;
          run = (of_runs acts).reaches signals 0 n s t (count_in counts.acts.items) here.acts;
          acts = here.acts;
          passes = all_passed n t counts last here;
        }

    -- the steps up to an end are counted
    pub run_counted : (k most j failed fails : ℕ) (t : State) (counts : Counts) (h : Halted) → k + most ≡ n → fails ≡ 0 → is_over h ≡ true → counts.last ≡ None
        → CountsOn signals k most s branches h j t counts failed fails → CountsSteps signals n s branches counts.acts.items counts.passes.items
    run_counted k most j failed fails t counts halted.Ran within taken over last (at, here) = all_counted j t counts (omega (arith, at, within)) last here
    run_counted k most j failed fails t counts halted.Met within taken over last h = absurd (true_not_false (sym over))
    run_counted k most j failed fails t counts (halted.Left at stop) within taken over last (few, same, here, stops) =
        let there = subst (λ (x : ℕ). AreCounts signals x s branches counts t) (sym same) here in
        record {
          end = Left at stop t;
          run =
              record {
                done = j;
                before = omega (arith, few, within);
                at = omega (arith, same);
                reached = (of_runs acts).reaches signals 0 j s t (count_in counts.acts.items) here.acts;
                stops = stops;
              };
          acts = there.acts;
          passes = all_passed at t counts last there;
        }
    run_counted k most j failed fails t counts (halted.SinkFault at) within taken over last fault = absurd (fails_some failed fails fault taken)

-- ---- boards

-- no more steps are done than asked for
pub seen_within : (signals : Signals) (k n : ℕ) (s : State) (o : Counts) (h : Halted) (j : ℕ) (t : State) (p : Counts) (failed fails : ℕ) → IsSeenTo SeesStep ends signals k n s o h j t p failed fails → j ≤ k + n
seen_within signals k n s o halted.Ran j t p failed fails (seen, at, same) = omega (arith, at)
seen_within signals k n s o halted.Met j t p failed fails (done, few, seen, at, same) = omega (arith, few, at)
seen_within signals k n s o (halted.Left at stop) j t p failed fails (done, few, number, seen, counted_to, rest, same) = omega (arith, few, number, counted_to)
seen_within signals k n s o (halted.SinkFault at) j t p failed fails (done, few, number, seen, counted_to, rest, same) = omega (arith, few, number, counted_to)

some_done : (signals : Signals) (k done : ℕ) (s : State) (o : Counts) (t : State) (p : Counts) → Sees SeesStep ends signals k done true s o t p → 0 < done
some_done signals k zero s o t p (same, alike, ran) = absurd (cc)
some_done signals k (suc done) s o t p h = omega arith

-- where there may be more to do, some steps are done
pub seen_more : (signals : Signals) (k n : ℕ) (s : State) (o : Counts) (h : Halted) (j : ℕ) (t : State) (p : Counts) (failed fails : ℕ) → is_over h ≡ false → IsSeenTo SeesStep ends signals k n s o h j t p failed fails → k < j
seen_more signals k n s o halted.Ran j t p failed fails over h = absurd (true_not_false over)
seen_more signals k n s o halted.Met j t p failed fails over (done, few, seen, at, same) = let some = some_done signals k done s o t p seen in omega (arith, some, at)
seen_more signals k n s o (halted.Left at stop) j t p failed fails over h = absurd (true_not_false over)
seen_more signals k n s o (halted.SinkFault at) j t p failed fails over h = absurd (true_not_false over)

module _ (first now : List ScheduleEntry) (same : now ≡ first) (s : State) (branches : List ℕ) where
  -- counts that go on, by the schedule that a board had first
  pub went_on : (k most j failed fails : ℕ) (counts new : Counts) (t u : State) (h : Halted)
      → ((s : State) (branches : List ℕ) → AreCounts (signals_of now) k s branches counts t → CountsOn (signals_of now) k most s branches h j u new failed fails)
      → AreCounts (signals_of first) k s branches counts t → CountsOn (signals_of first) k most s branches h j u new failed fails
  went_on k most j failed fails counts new t u h goes from =
      subst (λ (es : List ScheduleEntry). CountsOn (signals_of es) k most s branches h j u new failed fails) same
      (goes s branches (subst (λ (es : List ScheduleEntry). AreCounts (signals_of es) k s branches counts t) (sym same) from))

-- where there may be more to do, the steps so far are counted
pub still_counted : (signals : Signals) (k most j failed fails : ℕ) (s t : State) (branches : List ℕ) (counts : Counts) (h : Halted) → is_over h ≡ false → CountsOn signals k most s branches h j t counts failed fails
    → AreCounts signals j s branches counts t
still_counted signals k most j failed fails s t branches counts halted.Ran over h = absurd (true_not_false over)
still_counted signals k most j failed fails s t branches counts halted.Met over h = h.2
still_counted signals k most j failed fails s t branches counts (halted.Left at stop) over h = absurd (true_not_false over)
still_counted signals k most j failed fails s t branches counts (halted.SinkFault at) over h = absurd (true_not_false over)

-- a list of zeros has no other count
pub none_in : (n address : ℕ) → slice_index (replicate n 0) address ≡ 0
none_in zero address = refl
none_in (suc n) zero = refl
none_in (suc n) (suc address) = none_in n address
