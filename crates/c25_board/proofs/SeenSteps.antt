-- Steps that an observer looks at, one after another, and runs of them that end at a breakpoint.
use Rattle.std.proofs.Common.{◌≡◌, ◌∙◌, ℕ, zero, suc, ◌+◌, ◌<◌, ◌≤◌, arith, add-one, add-zero, Bool, true, false, List, Option, None, Some, IfNone, IfSome, Ok, Err, refl, sym, ap, subst}
use Rattle.std.specs.Prelude.{OnSome}
use Rattle.c25_meaning_processor.specs.Goes as goes
use Rattle.c25_meaning_processor.specs.Goes.{is_met}
use Rattle.c25_meaning_processor.specs.Run.{Signals}
use Rattle.c25_meaning_processor.specs.Signals.{signals_of}
use Rattle.c25_meaning_processor.specs.State.{State}
use Rattle.c25_meaning_processor.specs.WordStep.{WordStep}
use Rattle.c25_meaning_processor.specs.declared.lines.Lines.{Lines}
use Rattle.c25_meaning_processor.specs.declared.schedule.ScheduleEntry.{ScheduleEntry}
use Rattle.c25_meaning_processor.specs.declared.stop.Stop.{Stop}
use Rattle.c25_core.specs.Acting.{acting}
use Rattle.c25_core.specs.Prepared.{no_line}
use Rattle.c25_core.specs.Quick.{Stops, without_lines}
use Rattle.c25_core.specs.Seen.{Sees}
use Rattle.c25_core.specs.Sink.{HasFailed}
use Rattle.c25_core.specs.declared.bus.Halt.{Halt}
use Rattle.c25_core.specs.declared.bus.Halt.TheVariants as halt
use Rattle.c25_board.specs.Observed.{IsSeenTo, halted_at}
use Rattle.c25_board.specs.Run.{Puts, StepsOnce}
use Rattle.c25_board.specs.RunTo.{IsRunTo}
use Rattle.c25_board.specs.Timed.{AreQuiet}
use Rattle.c25_board.proofs.Runs.{halted_once}
use Rattle.c25_board.specs.declared.run_to.Halted.{Halted}
use Rattle.c25_board.specs.declared.run_to.Halted.TheVariants as halted

true_not_false : true ≡ false → ⊥
true_not_false e = absurd (cc)

-- what holds unless the next step halted holds where the run was ended
pub ended_steady : (o : Option Halt) (ended : Bool) (P : Type 0) → ended ≡ true → OnSome o (ended ≡ false) → IfNone o P → P
ended_steady None ended P is goes_on given = given
ended_steady (Some h) ended P is goes_on given = absurd (true_not_false (sym is ∙ goes_on))

-- a step without lines that halts among quiet ones is that step of the schedule
pub halts_here : (signals : Signals) (k n done j failed fails : ℕ) (level : Bool) (o : Option Halt) (s : State) → AreQuiet signals k n level → j ≡ k + done → OnSome o (done < n)
    → IfSome o (λ h. Stops level s h failed fails) → IfSome o (λ h. StepsOnce signals j s (Err h) s failed fails)
halts_here signals k n done j failed fails level None s quiet at few stops = tt
halts_here signals k n done j failed fails level (Some h) s quiet at few stops =
    let here = quiet j (omega (arith, at)) (omega (arith, at, few)) in
    halted_once signals j no_line level s h s.registers s.world failed fails (sym here.0) (sym here.1) refl stops

module _ {O : Type 0} (tells : O → Option ℕ → O → Type 0) (ends : O → State → Bool) where
  -- steps without lines are those of a schedule that has nothing for them
  pub quiet_seen : (signals : Signals) (k n done : ℕ) (level last : Bool) (s t : State) (o p : O) → AreQuiet signals k n level → done ≤ n → Sees tells ends (without_lines level) 0 done last s o t p → Sees tells ends signals k done last s o t p
  quiet_seen signals k n zero level last s t o p quiet most seen = seen
  quiet_seen signals k n (suc done) level last s t o p quiet most (u, q, seen, steps, as_told, as_ended) =
      let here = quiet (k + done) (omega arith) (omega (arith, most)) in (
        u,
        q,
        quiet_seen signals k n done level false s u o q quiet (omega (arith, most)) seen,
        subst (λ (b : Bool). WordStep (signals.lines (k + done)) b u (Ok t)) (sym here.1) (subst (λ (l : Lines). WordStep l level u (Ok t)) (sym here.0) steps),
        subst (λ (l : Lines). tells q (acting l u) p) (sym here.0) as_told,
        as_ended,
      )

  joined : (signals : Signals) (k m n : ℕ) (last : Bool) (s t u : State) (o p q : O) → Sees tells ends signals k m false s o t p → Sees tells ends signals (k + m) n last t p u q → Sees tells ends signals k (m + n) last s o u q
  joined signals k m zero last s t u o p q first (same, alike, none) =
      let more : m + 0 ≡ m = omega arith in
      rw more
      (subst (λ (b : Bool). Sees tells ends signals k m b s o u q) (sym none)
      (subst (λ (x : O). Sees tells ends signals k m false s o u x) alike (subst (λ (x : State). Sees tells ends signals k m false s o x p) same first)))
  joined signals k m (suc n) last s t u o p q first (v, r, seen, steps, as_told, as_ended) =
      let more : m + suc n ≡ suc (m + n) = omega arith in
      let at : k + m + n ≡ k + (m + n) = omega arith in
      rw more (
        v,
        r,
        joined signals k m n false s t v o p r first seen,
        subst (λ (j : ℕ). WordStep (signals.lines j) (signals.bio j) v (Ok u)) at steps,
        subst (λ (j : ℕ). tells r (acting (signals.lines j) v) q) at as_told,
        as_ended,
      )

  -- so many more, by the same schedule
  pub more_seen : (now_entries entries : List ScheduleEntry) (k done now more : ℕ) (last : Bool) (s u t : State) (o q p : O) → now_entries ≡ entries → now ≡ k + done → Sees tells ends (signals_of entries) k done false s o u q
      → Sees tells ends (signals_of now_entries) now more last u q t p → Sees tells ends (signals_of entries) k (done + more) last s o t p
  more_seen now_entries entries k done now more last s u t o q p same at first then =
      joined (signals_of entries) k done more last s u t o q p first
      (subst (λ (j : ℕ). Sees tells ends (signals_of entries) j more last u q t p) at (subst (λ (es : List ScheduleEntry). Sees tells ends (signals_of es) now more last u q t p) same then))

  -- one step
  pub one_seen : (signals : Signals) (k : ℕ) (last : Bool) (s t : State) (o p : O) (acts : Option ℕ) → WordStep (signals.lines k) (signals.bio k) s (Ok t) → acts ≡ acting (signals.lines k) s → tells o acts p → last ≡ ends o t
      → Sees tells ends signals k 1 last s o t p
  one_seen signals k last s t o p acts steps is as_told as_ended = (
    s,
    o,
    (refl, refl, refl),
    subst (λ (j : ℕ). WordStep (signals.lines j) (signals.bio j) s (Ok t)) (sym (add-zero k)) steps,
    subst (λ (j : ℕ). tells o (acting (signals.lines j) s) p) (sym (add-zero k)) (subst (λ (a : Option ℕ). tells o a p) is as_told),
    sym as_ended,
  )

  -- the next step halts
  module _ (now_entries entries : List ScheduleEntry) (k n done now j at failed before fails : ℕ) (s u t : State) (o q p : O) (same : now_entries ≡ entries) (there : now ≡ k + done) (few : done < n) (seen : Sees tells ends (signals_of entries) k done false s o u q) (kept : p ≡ q) (steady : before ≡ failed) (counted : j ≡ now) (is : at ≡ j) where
    number : at ≡ k + done
    number = is ∙ counted ∙ there

    left_seen : t ≡ u → Sees tells ends (signals_of entries) k done false s o t p
    left_seen stays =
        subst (λ (x : O). Sees tells ends (signals_of entries) k done false s o t x) (sym kept)
        (subst (λ (x : State). Sees tells ends (signals_of entries) k done false s o x q) (sym stays) seen)

    stops_seen : (stop : Stop) → StepsOnce (signals_of now_entries) now u (Err (halt.Stop stop)) t before fails → IsSeenTo tells ends (signals_of entries) k n s o (halted.Left at stop) j t p failed fails
    stops_seen stop (stops, stays, same_fails) = (
      done,
      few,
      number,
      left_seen stays,
      sym is,
      subst (λ (x : State). WordStep ((signals_of entries).lines at) ((signals_of entries).bio at) x (Err stop)) (sym stays)
          (subst (λ (i : ℕ). WordStep ((signals_of entries).lines i) ((signals_of entries).bio i) u (Err stop)) (sym (is ∙ counted))
          (subst (λ (es : List ScheduleEntry). WordStep ((signals_of es).lines now) ((signals_of es).bio now) u (Err stop)) same stops)),
      same_fails ∙ steady,
    )

    fails_seen : StepsOnce (signals_of now_entries) now u (Err halt.Sink) t before fails → IsSeenTo tells ends (signals_of entries) k n s o (halted.SinkFault at) j t p failed fails
    fails_seen (stays, fault, puts) = (
      done,
      few,
      number,
      left_seen stays,
      sym is,
      subst (λ (x : ℕ). HasFailed x fails) steady fault,
      subst (λ (x : State). Puts (signals_of entries) at x) (sym stays)
          (subst (λ (i : ℕ). Puts (signals_of entries) i u) (sym (is ∙ counted)) (subst (λ (es : List ScheduleEntry). Puts (signals_of es) now u) same puts)),
    )

    pub halts_seen : (h : Halt) → StepsOnce (signals_of now_entries) now u (Err h) t before fails → IsSeenTo tells ends (signals_of entries) k n s o (halted_at h at) j t p failed fails
    halts_seen (halt.Stop stop) stops = stops_seen stop stops
    halts_seen halt.Sink stops = fails_seen stops

  -- ---- an observer that stays as it is

  module _ (keeps : (o p : O) (acts : Option ℕ) → tells o acts p → p ≡ o) where
    pub stays_same : (signals : Signals) (k n : ℕ) (last : Bool) (s t : State) (o p : O) → Sees tells ends signals k n last s o t p → p ≡ o
    stays_same signals k zero last s t o p (same, alike, none) = sym alike
    stays_same signals k (suc n) last s t o p (u, q, seen, steps, as_told, as_ended) = keeps q p (acting (signals.lines (k + n)) u) as_told ∙ stays_same signals k n false s u o q seen

    -- and that ends the run at breakpoints
    module _ (breaks : List ℕ) (first : O) (meets : (s : State) → ends first s ≡ is_met breaks s) (signals : Signals) where
      tested : (k n : ℕ) (last : Bool) (s u t : State) (q : O) → Sees tells ends signals k n false s first u q → ends q t ≡ last → is_met breaks t ≡ last
      tested k n last s u t q seen as_ended = sym (meets t) ∙ ap (λ x. ends x t) (sym (stays_same signals k n false s u first q seen)) ∙ as_ended

      passes : (k n : ℕ) (s t : State) (p : O) → Sees tells ends signals k n false s first t p → goes.Passes WordStep signals breaks k n s t
      passes k zero s t p (same, alike, none) = same
      passes k (suc n) s t p (u, q, seen, steps, as_told, as_ended) = (u, passes k n s u q seen, steps, tested k n false s u t q seen as_ended)

      meets_there : (k n done j : ℕ) (s t : State) (p : O) → done ≤ n → j ≡ k + done → Sees tells ends signals k done true s first t p → goes.Meets WordStep signals breaks k n s j t
      meets_there k n zero j s t p few at (same, alike, none) = absurd (true_not_false none)
      meets_there k n (suc done) j s t p few at (u, q, seen, steps, as_told, as_ended) =
          record {
            done = done;
            before = omega (arith, few);
            at = omega (arith, at);
            last = u;
            passed = passes k done s u q seen;
            steps = steps;
            met = tested k done true s u t q seen as_ended;
          }

      pub seen_to : (k n j failed fails : ℕ) (s t : State) (p : O) (h : Halted) → IsSeenTo tells ends signals k n s first h j t p failed fails → IsRunTo signals breaks k n s h j t failed fails
      seen_to k n j failed fails s t p halted.Ran (seen, at, same) = ((passes k n s t p seen, at), same)
      seen_to k n j failed fails s t p halted.Met (done, few, seen, at, same) = (meets_there k n done j s t p few at seen, same)
      seen_to k n j failed fails s t p (halted.Left at stop) (done, few, number, seen, counted, stops, same) = (
        record {
          done = done;
          before = few;
          at = counted ∙ number;
          passed = passes k done s t p seen;
          stops = subst (λ (i : ℕ). WordStep (signals.lines i) (signals.bio i) t (Err stop)) (sym counted) stops;
        },
        sym counted,
        same,
      )
      seen_to k n j failed fails s t p (halted.SinkFault at) (done, few, number, seen, counted, fault, puts) = (done, few, number, passes k done s t p seen, counted, fault, puts)
