-- A run whose states are as supposed, with one step more.
use Rattle.std.proofs.Common.{◌≡◌, ℕ, suc, ◌+◌, ◌<◌, ◌≤◌, Err, sym, ◌∙◌, subst, arith, ⊎_elim, List}
use Rattle.std.proofs.lemmas.Bool.{cases_lt}
use Rattle.c25_board.specs.Run.{IsRun, Puts}
use Rattle.c25_board.specs.declared.board.Outcome.TheVariants as outcome
use Rattle.c25_core.specs.Sink.{HasFailed}
use Rattle.c25_meaning_pages.specs.Known.{Knowledge}
use Rattle.c25_meaning_pages.specs.Supposed.{AreSupposed, IsSupposed, LetsNoOther}
use Rattle.c25_meaning_processor.specs.declared.schedule.ScheduleEntry.{ScheduleEntry}
use Rattle.c25_meaning_processor.specs.declared.stop.Stop.{Stop}
use Rattle.c25_meaning_processor.specs.Run.{Ran, Reaches, Signals, run_of}
use Rattle.c25_meaning_processor.specs.Signals.{signals_of}
use Rattle.c25_meaning_processor.specs.State.{State}
use Rattle.c25_meaning_processor.specs.Statements.{RunsAsStatements, Statements, statement_step}
use Rattle.c25_meaning_processor.specs.WordStep.{WordStep}
use Rattle.c25_suppositions.specs.Breaches.{IsBreach}
use Rattle.c25_suppositions.specs.Checked.{IsUnsupposed, WasSupposed, begun_steps}
use Rattle.c25_suppositions.specs.declared.breach.Breach.{Breach}

module _ (ss : Statements) (kn : Knowledge) (signals : Signals) (s : State) where
  pub none_supposed : AreSupposed ss kn signals 0 0 s
  none_supposed = λ j t below ran. absurd (omega (arith, below))

  -- the states so far, and the one that is reached, are as supposed
  pub one_supposed : RunsAsStatements ss s → (done : ℕ) (t : State) → Reaches WordStep signals 0 done s t → AreSupposed ss kn signals 0 done s → IsSupposed ss kn (signals.lines done) t → AreSupposed ss kn signals 0 (done + 1) s
  one_supposed alike done t reached before now = λ j u below ran.
      ⊎_elim
      (λ earlier. before j u earlier ran)
      (λ later.
      let at : j ≡ done = omega (arith, below, later) in
      let number : done ≡ 0 + j = omega (arith, at) in
      let ends : Ran t ≡ run_of (statement_step ss) signals 0 done s = (alike signals 0 done (Ran t)).0 reached in
      let there : run_of (statement_step ss) signals 0 done s ≡ Ran u = subst (λ (x : ℕ). run_of (statement_step ss) signals 0 x s ≡ Ran u) at ran in
      let same : t ≡ u = let e = ends ∙ there in cc in
      subst (λ (x : ℕ). IsSupposed ss kn (signals.lines x) u) number (subst (λ (x : State). IsSupposed ss kn (signals.lines done) x) same now))
      (cases_lt j done)

-- a run goes on by one step that halts
module _ (now_entries entries : List ScheduleEntry) (same : now_entries ≡ entries) (n done now failed before fails j at : ℕ) (s u t : State) (counted : now ≡ done) (below : done < n) (reached : Reaches WordStep (signals_of entries) 0 done s u) (steady : before ≡ failed) where
  pub left_later : (stop : Stop) → IsRun (signals_of now_entries) now 1 u (outcome.Left at stop) j t before fails → IsRun (signals_of entries) 0 n s (outcome.Left at stop) j t failed fails
  left_later stop (leaves, is, as_before) =
      let few = leaves.before in
      let number = leaves.at in
      let none : leaves.done ≡ 0 = omega (arith, few) in
      let here : at ≡ 0 + done = omega (arith, number, counted, none) in
      let stays : u ≡ t = subst (λ (m : ℕ). Reaches WordStep (signals_of now_entries) now m u t) none leaves.reached in (
        record {
          done = done;
          before = below;
          at = here;
          reached = subst (λ (x : State). Reaches WordStep (signals_of entries) 0 done s x) stays reached;
          stops = subst (λ (es : List ScheduleEntry). WordStep ((signals_of es).lines at) ((signals_of es).bio at) t (Err stop)) same leaves.stops;
        },
        is,
        as_before ∙ steady,
      )

  pub fault_later : IsRun (signals_of now_entries) now 1 u (outcome.SinkFault at) j t before fails → IsRun (signals_of entries) 0 n s (outcome.SinkFault at) j t failed fails
  fault_later (more, few, number, stays_by, is, fault, puts) =
      let none : more ≡ 0 = omega (arith, few) in
      let stays : u ≡ t = subst (λ (m : ℕ). Reaches WordStep (signals_of now_entries) now m u t) none stays_by in (
        done,
        below,
        omega (arith, number, counted, none),
        subst (λ (x : State). Reaches WordStep (signals_of entries) 0 done s x) stays reached,
        is,
        subst (λ (x : ℕ). HasFailed x fails) steady fault,
        subst (λ (es : List ScheduleEntry). Puts (signals_of es) at t) same puts,
      )

-- the state in which a step that halts began is the one before it
pub left_there : (signals : Signals) (k at j : ℕ) (stop : Stop) (failed fails : ℕ) (u t : State) → IsRun signals k 1 u (outcome.Left at stop) j t failed fails → (u ≡ t) × (j ≡ k)
left_there signals k at j stop failed fails u t (leaves, is, as_before) =
    let few = leaves.before in
    let number = leaves.at in
    let none : leaves.done ≡ 0 = omega (arith, few) in
    (subst (λ (m : ℕ). Reaches WordStep signals k m u t) none leaves.reached, omega (arith, is, number, none))

pub fault_there : (signals : Signals) (k at j failed fails : ℕ) (u t : State) → IsRun signals k 1 u (outcome.SinkFault at) j t failed fails → (u ≡ t) × (j ≡ k)
fault_there signals k at j failed fails u t (more, few, number, stays_by, is, fault, puts) =
    let none : more ≡ 0 = omega (arith, few) in
    (subst (λ (m : ℕ). Reaches WordStep signals k m u t) none stays_by, omega (arith, is, number, none))

module _ (ss : Statements) (kn : Knowledge) (now_entries entries : List ScheduleEntry) (same : now_entries ≡ entries) (n done now : ℕ) (counted : now ≡ done) (s t : State) (reached : Reaches WordStep (signals_of entries) 0 done s t) (supposed : AreSupposed ss kn (signals_of entries) 0 done s) where
  -- a step that is done, whose state was as supposed
  pub done_more : RunsAsStatements ss s → IsSupposed ss kn ((signals_of now_entries).lines now) t → AreSupposed ss kn (signals_of entries) 0 (done + 1) s
  done_more alike judged =
      one_supposed ss kn (signals_of entries) s alike done t reached supposed
      (subst (λ (k : ℕ). IsSupposed ss kn ((signals_of entries).lines k) t) counted (subst (λ (es : List ScheduleEntry). IsSupposed ss kn ((signals_of es).lines now) t) same judged))

  -- a step whose state is not as supposed
  pub unsupposed_there : done ≤ n → (breach : Breach) → IsBreach ss kn ((signals_of now_entries).lines now) t breach → IsUnsupposed ss kn (signals_of entries) n s breach now t
  unsupposed_there most breach is =
      record {
        few = omega (arith, counted, most);
        reached = subst (λ (k : ℕ). Reaches WordStep (signals_of entries) 0 k s t) (sym counted) reached;
        before = subst (λ (k : ℕ). AreSupposed ss kn (signals_of entries) 0 k s) (sym counted) supposed;
        breaks = subst (λ (es : List ScheduleEntry). IsBreach ss kn ((signals_of es).lines now) t breach) same is;
      }

-- all steps are done, and IMR lets no other line through in the last state
pub ran_supposed : (ss : Statements) (kn : Knowledge) (signals : Signals) (n done j : ℕ) (s t : State) → n ≡ done → j ≡ done → AreSupposed ss kn signals 0 done s → LetsNoOther kn (t.world.words 4) → WasSupposed ss kn signals s (begun_steps outcome.Ran j) t
ran_supposed ss kn signals n done j s t all counted supposed lets =
    record { states = subst (λ (k : ℕ). AreSupposed ss kn signals 0 k s) (sym counted) supposed; last = lets }

-- the step that halts was begun in a state as supposed
pub halted_supposed : (ss : Statements) (kn : Knowledge) (signals : Signals) (done now j : ℕ) (s u t : State) → now ≡ done → (u ≡ t) × (j ≡ now) → AreSupposed ss kn signals 0 (done + 1) s → LetsNoOther kn (u.world.words 4) → WasSupposed ss kn signals s (suc j) t
halted_supposed ss kn signals done now j s u t counted there supposed lets =
    let stays = there.0 in
    let number = there.1 in
    let more : suc j ≡ done + 1 = omega (arith, number, counted) in
    record {
      states = subst (λ (k : ℕ). AreSupposed ss kn signals 0 k s) (sym more) supposed;
      last = subst (λ (x : State). LetsNoOther kn (x.world.words 4)) stays lets;
    }
