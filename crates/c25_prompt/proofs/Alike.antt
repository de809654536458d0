-- Two kinds of step that have the same results wherever the words are an image of the statements: a prompt over
-- the one answers as over the other.
use Rattle.std.proofs.Common.{◌≡◌, ◌↔◌, ℕ, zero, suc, ◌+◌, ◌-◌, Bool, true, false, List, [], Option, Some, None, Ok, Err, refl, sym, ap, subst, arith}
use Rattle.c25_meaning_debugger.proofs.Alike.{Stays, Turns}
use Rattle.c25_meaning_debugger.specs.Debugger.{Point, Steps, tried}
use Rattle.c25_meaning_linking.specs.Linking.{ImageData}
use Rattle.c25_meaning_processor.specs.Goes as goes
use Rattle.c25_meaning_processor.specs.Run as run
use Rattle.c25_meaning_processor.specs.Run.{Reaches, Signals, Stepping, ending_after}
use Rattle.c25_meaning_processor.specs.Set.{can_set}
use Rattle.c25_meaning_processor.specs.State.{State, StepResult}
use Rattle.c25_meaning_processor.specs.Statements.{IsImageOf, Statements, statement_step}
use Rattle.c25_meaning_processor.specs.WordStep.{WordStep}
use Rattle.c25_meaning_processor.specs.declared.lines.Lines.{Lines}
use Rattle.c25_meaning_processor.specs.declared.script.Cmd.{Cmd}
use Rattle.c25_meaning_processor.specs.declared.script.Cmd.TheVariants as cmd
use Rattle.c25_meaning_processor.specs.declared.stop.Stop.{Stop}
use Rattle.c25_prompt.specs.Prompt as prompts
use Rattle.c25_prompt.specs.Prompt.{NextAfter, Nexts, PromptAnswers, PromptPoint, RunsTo, ScriptAnswers, Went, WentOn, WentOver, WentPast, WentTo, next_goes_on, return_address, returns_to, with_goal}
use Rattle.c25_prompt.specs.Outputs.{AreOutputs, PutOut}
use Rattle.c25_prompt.specs.Past.{EndsThere, IsHits, IsStop, Meets, StopsLast}
use Rattle.c25_prompt.specs.Runs.{Goes, Passes}
use Rattle.c25_prompt.specs.Trace.{IsTrace, Jumps}
use Rattle.c25_prompt.specs.declared.ended.Ended.{Ended}
use Rattle.c25_prompt.specs.declared.ended.Ended.TheVariants as ended
use Rattle.c25_prompt_lines.specs.declared.command.PromptCommand.{PromptCommand}
use Rattle.c25_prompt_lines.specs.declared.command.PromptCommand.TheVariants as prompt
use Rattle.c25_prompt_texts.specs.declared.jumps.Jump.{Jump}
use Rattle.c25_prompt_texts.specs.declared.outputs.TimedOutput.{TimedOutput}
use Rattle.c25_run_laws.proofs.Image.{runs_alike, statements_stay}

module _ (ss : Statements) (one other : Stepping) (turns : Turns ss one other) (stays : Stays ss one) (signals : Signals) where
  -- the words of a state are an image of the statements
  abbrev IsThere : State → Type 0
  IsThere s = IsImageOf ss s.world

  reaches_turn : (k n : ℕ) (s t : State) → IsThere s → Reaches one signals k n s t → Reaches other signals k n s t × IsThere t
  reaches_turn k zero s t there same = (same, subst IsThere same there)
  reaches_turn k (suc n) s t there (u, reached, step) =
      let before = reaches_turn k n s u there reached in
      ((u, before.0, turns (signals.lines (k + n)) (signals.bio (k + n)) u (Ok t) before.1 step), stays (signals.lines (k + n)) (signals.bio (k + n)) u t before.1 step)

  -- a debugger's runs without watches
  unwatched_turn : (breaks : List ℕ) (k n : ℕ) (s t : State) → IsThere s → goes.Passes one signals breaks k n s t → goes.Passes other signals breaks k n s t × IsThere t
  unwatched_turn breaks k zero s t there same = (same, subst IsThere same there)
  unwatched_turn breaks k (suc n) s t there (u, passed, step, free) =
      let before = unwatched_turn breaks k n s u there passed in
      ((u, before.0, turns (signals.lines (k + n)) (signals.bio (k + n)) u (Ok t) before.1 step, free), stays (signals.lines (k + n)) (signals.bio (k + n)) u t before.1 step)

  halts_turn : (breaks : List ℕ) (k n : ℕ) (s : State) (h : goes.Halting) (j : ℕ) (t : State) → IsThere s → goes.Goes one signals breaks k n s h j t → goes.Goes other signals breaks k n s h j t
  halts_turn breaks k n s goes.Ran j t there (passed, at) = ((unwatched_turn breaks k n s t there passed).0, at)
  halts_turn breaks k n s goes.Met j t there m =
      let p = unwatched_turn breaks k m.done s m.last there m.passed in
      record { done = m.done; before = m.before; at = m.at; last = m.last; passed = p.0; steps = turns (signals.lines (k + m.done)) (signals.bio (k + m.done)) m.last (Ok t) p.1 m.steps; met = m.met }
  halts_turn breaks k n s (goes.Left stop) j t there m =
      let p = unwatched_turn breaks k m.done s t there m.passed in
      record { done = m.done; before = m.before; at = m.at; passed = p.0; stops = turns (signals.lines j) (signals.bio j) t (Err stop) p.1 m.stops }

  passes_turn : (breaks watches : List ℕ) (k n : ℕ) (s t : State) → IsThere s → Passes one signals breaks watches k n s t → Passes other signals breaks watches k n s t × IsThere t
  passes_turn breaks watches k zero s t there same = (same, subst IsThere same there)
  passes_turn breaks watches k (suc n) s t there (u, passed, step, free, left) =
      let before = passes_turn breaks watches k n s u there passed in
      ((u, before.0, turns (signals.lines (k + n)) (signals.bio (k + n)) u (Ok t) before.1 step, free, left), stays (signals.lines (k + n)) (signals.bio (k + n)) u t before.1 step)

  goes_turn : (breaks watches : List ℕ) (k n : ℕ) (s : State) (e : Ended) (j : ℕ) (t : State) → IsThere s → Goes one signals breaks watches k n s e j t → Goes other signals breaks watches k n s e j t × IsThere t
  goes_turn breaks watches k n s ended.Ran j t there (passed, at) =
      let p = passes_turn breaks watches k n s t there passed in
      ((p.0, at), p.1)
  goes_turn breaks watches k n s ended.Met j t there (u, m, left, met) =
      let p = passes_turn breaks watches k m.done s u there m.passed in (
        (u, record { done = m.done; before = m.before; at = m.at; passed = p.0; steps = turns (signals.lines (k + m.done)) (signals.bio (k + m.done)) u (Ok t) p.1 m.steps }, left, met),
        stays (signals.lines (k + m.done)) (signals.bio (k + m.done)) u t p.1 m.steps,
      )
  goes_turn breaks watches k n s (ended.Left stop) j t there m =
      let p = passes_turn breaks watches k m.done s t there m.passed in
      (record { done = m.done; before = m.before; at = m.at; passed = p.0; stops = turns (signals.lines j) (signals.bio j) t (Err stop) p.1 m.stops }, p.1)
  goes_turn breaks watches k n s (ended.Changed address old new) j t there (u, m, is, was, now) =
      let p = passes_turn breaks watches k m.done s u there m.passed in (
        (u, record { done = m.done; before = m.before; at = m.at; passed = p.0; steps = turns (signals.lines (k + m.done)) (signals.bio (k + m.done)) u (Ok t) p.1 m.steps }, is, was, now),
        stays (signals.lines (k + m.done)) (signals.bio (k + m.done)) u t p.1 m.steps,
      )
  goes_turn breaks watches k n s ended.Full j t there none = absurd none

  ends_turn : (breaks watches : List ℕ) (first : State) (e : Ended) (j : ℕ) (t : State) → IsThere first → EndsThere one signals breaks watches first e j t → EndsThere other signals breaks watches first e j t
  ends_turn breaks watches first e j t there h =
      let reached = reaches_turn 0 h.done first h.from there h.reached in
      record { done = h.done; from = h.from; at = h.at; reached = reached.0; goes = (goes_turn breaks watches h.done 1 h.from e j t reached.1 h.goes).0 }

  stop_turn : (breaks watches : List ℕ) (first : State) (e : Ended) (j : ℕ) (t : State) → IsThere first → IsStop one signals breaks watches first e j t → IsStop other signals breaks watches first e j t
  stop_turn breaks watches first ended.Ran j t there h = h
  stop_turn breaks watches first ended.Met j t there h = ends_turn breaks watches first ended.Met j t there h
  stop_turn breaks watches first (ended.Left stop) j t there h = absurd h
  stop_turn breaks watches first (ended.Changed address old new) j t there h = ends_turn breaks watches first (ended.Changed address old new) j t there h
  stop_turn breaks watches first ended.Full j t there h = absurd h

  last_turn : (breaks watches : List ℕ) (first : State) (n : ℕ) (e : Ended) (j : ℕ) (t : State) → IsThere first → StopsLast one signals breaks watches first n e j t → StopsLast other signals breaks watches first n e j t
  last_turn breaks watches first n e j t there h =
      let reached = reaches_turn 0 j first t there h.reached in
      record {
        before = h.before;
        reached = reached.0;
        stops = stop_turn breaks watches first e j t there h.stops;
        last = h.last;
        quiet = (passes_turn breaks watches j (n - j) t h.last reached.1 h.quiet).0;
      }

  meets_turn : (address k n : ℕ) (s : State) (count : ℕ) (t : State) → IsThere s → Meets one signals address k n s count t → Meets other signals address k n s count t × IsThere t
  meets_turn address k zero s count t there (same, none) = ((same, none), subst IsThere same there)
  meets_turn address k (suc n) s count t there (u, before, met, step, is) =
      let earlier = meets_turn address k n s before u there met in
      ((u, before, earlier.0, turns (signals.lines (k + n)) (signals.bio (k + n)) u (Ok t) earlier.1 step, is), stays (signals.lines (k + n)) (signals.bio (k + n)) u t earlier.1 step)

  hits_turn : (first : State) (address n : ℕ) (text : List ℕ) → IsThere first → IsHits one signals first address n text → IsHits other signals first address n text
  hits_turn first address n text there (count, last, met, is) = (count, last, (meets_turn address 0 n first count last there met).0, is)

  jumps_turn : (k n : ℕ) (s : State) (jumps : List Jump) (t : State) → IsThere s → Jumps one signals k n s jumps t → Jumps other signals k n s jumps t × IsThere t
  jumps_turn k zero s jumps t there (same, none) = ((same, none), subst IsThere same there)
  jumps_turn k (suc n) s jumps t there (u, before, jumped, step, is) =
      let earlier = jumps_turn k n s before u there jumped in
      ((u, before, earlier.0, turns (signals.lines (k + n)) (signals.bio (k + n)) u (Ok t) earlier.1 step, is), stays (signals.lines (k + n)) (signals.bio (k + n)) u t earlier.1 step)

  trace_turn : (image : ImageData) (first : State) (n most : ℕ) (text : List ℕ) → IsThere first → IsTrace one signals image first n most text → IsTrace other signals image first n most text
  trace_turn image first n most text there (jumps, last, jumped, is) = (jumps, last, (jumps_turn 0 n first jumps last there jumped).0, is)

  put_turn : (k n : ℕ) (s : State) (outputs : List TimedOutput) (t : State) → IsThere s → PutOut one signals k n s outputs t → PutOut other signals k n s outputs t × IsThere t
  put_turn k zero s outputs t there (same, none) = ((same, none), subst IsThere same there)
  put_turn k (suc n) s outputs t there (u, before, new, put, step, grew, is) =
      let earlier = put_turn k n s before u there put in
      ((u, before, new, earlier.0, turns (signals.lines (k + n)) (signals.bio (k + n)) u (Ok t) earlier.1 step, grew, is), stays (signals.lines (k + n)) (signals.bio (k + n)) u t earlier.1 step)

  outputs_turn : (first : State) (n most : ℕ) (text : List ℕ) → IsThere first → AreOutputs one signals first n most text → AreOutputs other signals first n most text
  outputs_turn first n most text there (outputs, last, put, is) = (outputs, last, (put_turn 0 n first outputs last there put).0, is)

  -- at a point the words are an image of the statements
  abbrev Stands : PromptPoint → Type 0
  Stands p = IsThere p.at.state

  went_turn : (breaks watches : List ℕ) (n : ℕ) (p : PromptPoint) (e : Ended) (q : PromptPoint) → Stands p → Went one signals breaks watches n p e q → Went other signals breaks watches n p e q × Stands q
  went_turn breaks watches n p e q there w =
      let g = goes_turn breaks watches p.at.steps (tried p.at.steps n) p.at.state e q.at.steps q.at.state there w.goes in
      (record { goes = g.0; breaks_left = w.breaks_left; once_left = w.once_left; counts_left = w.counts_left; same = w.same }, g.1)

  went_past_turn : (goal : Option ℕ) (meetings n : ℕ) (p : PromptPoint) (e : Ended) (q : PromptPoint) → Stands p → WentPast one signals goal meetings n p e q → WentPast other signals goal meetings n p e q × Stands q
  went_past_turn goal zero n p e q there (w, last) =
      let turned = went_turn (with_goal p.at.breaks goal) p.watches n p e q there w in
      ((turned.0, last), turned.1)
  went_past_turn goal (suc meetings) n p e q there (m, w, on, rest) =
      let turned = went_turn (with_goal p.at.breaks goal) p.watches n p ended.Met m there w in
      let more = went_past_turn goal meetings (n - (m.at.steps - p.at.steps)) m e q turned.1 rest in
      ((m, turned.0, on, more.0), more.1)

  went_on_turn : (goal : Option ℕ) (n : ℕ) (p : PromptPoint) (e : Ended) (q : PromptPoint) → Stands p → WentOn one signals goal n p e q → WentOn other signals goal n p e q × Stands q
  went_on_turn goal n p e q there (meetings, went) =
      let turned = went_past_turn goal meetings n p e q there went in
      ((meetings, turned.0), turned.1)

  went_to_turn : (can : Bool) (address n : ℕ) (p : PromptPoint) (e : Ended) (q : PromptPoint) → Stands p → WentTo one signals can address n p e q → WentTo other signals can address n p e q × Stands q
  went_to_turn true address n p e q there w = went_on_turn (Some address) n p e q there w
  went_to_turn false address n p e q there (full, same) = ((full, same), subst Stands (sym same) there)

  went_over_turn : (returns : Option ℕ) (p : PromptPoint) (e : Ended) (q : PromptPoint) → Stands p → WentOver one signals returns p e q → WentOver other signals returns p e q × Stands q
  went_over_turn None p e q there w = went_on_turn None 1 p e q there w
  went_over_turn (Some address) p e q there w = went_to_turn (can_set p.at.breaks address) address 4294967295 p e q there w

  runs_turn : (n : ℕ) (p : PromptPoint) (text : List ℕ) (q : PromptPoint) → Stands p → prompts.Runs one signals n p text q → prompts.Runs other signals n p text q
  runs_turn n p text q there r = record { end = r.end; went = (went_on_turn None n p r.end q there r.went).0; says = r.says }

  runs_to_turn : (address n : ℕ) (p : PromptPoint) (text : List ℕ) (q : PromptPoint) → Stands p → RunsTo one signals address n p text q → RunsTo other signals address n p text q
  runs_to_turn address n p text q there r = record { end = r.end; went = (went_to_turn (can_set p.at.breaks address) address n p r.end q there r.went).0; says = r.says }

  after_turn : (n : ℕ) (going : Bool) (e : Ended) (m : PromptPoint) (text : List ℕ) (q : PromptPoint) → ((x : PromptPoint) → Stands x → Nexts one signals n x text q → Nexts other signals n x text q) → Stands m
      → NextAfter going (λ x t y. Nexts one signals n x t y) e m text q → NextAfter going (λ x t y. Nexts other signals n x t y) e m text q
  after_turn n true e m text q rest there more = rest m there more
  after_turn n false e m text q rest there over = over

  nexts_turn : (n : ℕ) (p : PromptPoint) (text : List ℕ) (q : PromptPoint) → Stands p → Nexts one signals n p text q → Nexts other signals n p text q
  nexts_turn zero p text q there over = over
  nexts_turn (suc n) p text q there (i, e, m, stands, over, then) =
      let w = went_over_turn (returns_to i p.at.state.registers.pc) p e m there over in
      (i, e, m, stands, w.0, after_turn n (next_goes_on e i p m) e m text q (λ x stand more. nexts_turn n x text q stand more) w.1 then)

  steps_turn : (n : ℕ) (p : Point) (text : List ℕ) (q : Point) → IsThere p.state → Steps one signals [] n p text q → Steps other signals [] n p text q
  steps_turn n p text q there h = record { halting = h.halting; goes = halts_turn [] p.steps (tried p.steps n) p.state h.halting q.steps q.state there h.goes; same = h.same; text_is = h.text_is }

  script_turn : (image : ImageData) (c : Cmd) (p : PromptPoint) (text : List ℕ) (q : PromptPoint) → Stands p → ScriptAnswers one signals image c p text q → ScriptAnswers other signals image c p text q
  script_turn image (cmd.Step n) p text q there (s, once, watches, ignored) = (steps_turn n p.at text q.at there s, once, watches, ignored)
  script_turn image (cmd.Run n) p text q there r = runs_turn n p text q there r
  script_turn image (cmd.Clear address) p text q there h = h
  script_turn image (cmd.Break address) p text q there h = h
  script_turn image cmd.Regs p text q there h = h
  script_turn image (cmd.Data address n) p text q there h = h
  script_turn image (cmd.Prog address n) p text q there h = h
  script_turn image cmd.Stack p text q there h = h
  script_turn image cmd.Where p text q there h = h
  script_turn image (cmd.List n) p text q there h = h
  script_turn image cmd.Symbols p text q there h = h

  pub answers_turn : (image : ImageData) (first : State) (c : PromptCommand) (p q : PromptPoint) (text : List ℕ) → IsThere first → Stands p → PromptAnswers one signals image first c p text q → PromptAnswers other signals image first c p text q
  answers_turn image first (prompt.Script c) p q text begun there h = script_turn image c p text q there h
  answers_turn image first (prompt.Next n) p q text begun there h = nexts_turn n p text q there h
  answers_turn image first prompt.Finish p q text begun there h = runs_to_turn (return_address p.at.state) 4294967295 p text q there h
  answers_turn image first (prompt.Until address n) p q text begun there h = runs_to_turn address n p text q there h
  answers_turn image first (prompt.Watch address) p q text begun there h = h
  answers_turn image first (prompt.Unwatch address) p q text begun there h = h
  answers_turn image first (prompt.Once address) p q text begun there h = h
  answers_turn image first (prompt.Ignore address n) p q text begun there h = h
  answers_turn image first prompt.Ignored p q text begun there h = h
  answers_turn image first (prompt.Back n) p q text begun there h =
      record { steps = h.steps; reached = (reaches_turn 0 q.at.steps first q.at.state begun h.reached).0; breaks = h.breaks; once = h.once; watches = h.watches; ignored = h.ignored; says = h.says }
  answers_turn image first prompt.BackTo p q text begun there h =
      record { end = h.end; stops = last_turn p.at.breaks p.watches first (p.at.steps - 1) h.end q.at.steps q.at.state begun h.stops; breaks = h.breaks; once = h.once; watches = h.watches; ignored = h.ignored; says = h.says }
  answers_turn image first (prompt.Hits address) p q text begun there (h, same) = (hits_turn first address p.at.steps text begun h, same)
  answers_turn image first (prompt.Trace most) p q text begun there (h, same) = (trace_turn image first p.at.steps most text begun h, same)
  answers_turn image first prompt.Inputs p q text begun there h = h
  answers_turn image first (prompt.ListFrom address n) p q text begun there h = h
  answers_turn image first (prompt.Outputs most) p q text begun there (h, same) = (outputs_turn first p.at.steps most text begun h, same)
  answers_turn image first (prompt.Print what) p q text begun there h = h
  answers_turn image first prompt.Help p q text begun there h = h
  answers_turn image first prompt.Quit p q text begun there h = h

-- ---- words and statements

-- a step of the statements
abbrev StatementStep : Statements → Stepping
StatementStep ss lines bio s o = o ≡ statement_step ss lines bio s

-- the same lines and the same level at every step
abbrev steady : Lines → Bool → Signals
steady lines bio = record { lines = λ _. lines; bio = λ _. bio }

told_ok : (s t : State) (o : StepResult) → run.Ran t ≡ ending_after 0 s o → Ok t ≡ o
told_ok s t (Ok u) e = cc
told_ok s t (Err stop) e = absurd (cc)

told_stop : (s : State) (stop : Stop) (o : StepResult) → run.Left 0 stop s ≡ ending_after 0 s o → Err stop ≡ o
told_stop s stop (Ok u) e = absurd (cc)
told_stop s stop (Err other) e = cc

words_turn : (ss : Statements) → Turns ss WordStep (StatementStep ss)
words_turn ss lines bio s (Ok t) there step = told_ok s t (statement_step ss lines bio s) ((runs_alike ss s there (steady lines bio) 0 1 (run.Ran t)).0 (s, refl, step))
words_turn ss lines bio s (Err stop) there step =
    told_stop s stop (statement_step ss lines bio s)
    ((runs_alike ss s there (steady lines bio) 0 1 (run.Left 0 stop s)).0 (record { done = 0; before = omega arith; at = refl; reached = refl; stops = step }))

words_stay : (ss : Statements) → Stays ss WordStep
words_stay ss lines bio s t there step = statements_stay ss s there (steady lines bio) 0 1 t (s, refl, step)

statements_turn : (ss : Statements) → Turns ss (StatementStep ss) WordStep
statements_turn ss lines bio s (Ok t) there is =
    let reached = (runs_alike ss s there (steady lines bio) 0 1 (run.Ran t)).1 (ap (ending_after 0 s) is) in
    subst (λ (x : State). WordStep lines bio x (Ok t)) (sym reached.1) reached.2
statements_turn ss lines bio s (Err stop) there is =
    let left = (runs_alike ss s there (steady lines bio) 0 1 (run.Left 0 stop s)).1 (ap (ending_after 0 s) is) in
    left.stops

statements_stay_there : (ss : Statements) → Stays ss (StatementStep ss)
statements_stay_there ss lines bio s t there is = words_stay ss lines bio s t there (statements_turn ss lines bio s (Ok t) there is)

pub answers_alike : (ss : Statements) (signals : Signals) (image : ImageData) (first : State) (c : PromptCommand) (p q : PromptPoint) (text : List ℕ) → IsImageOf ss first.world → IsImageOf ss p.at.state.world
    → PromptAnswers WordStep signals image first c p text q ↔ PromptAnswers (StatementStep ss) signals image first c p text q
answers_alike ss signals image first c p q text begun there = (
  λ h. answers_turn ss WordStep (StatementStep ss) (words_turn ss) (words_stay ss) signals image first c p q text begun there h,
  λ h. answers_turn ss (StatementStep ss) WordStep (statements_turn ss) (statements_stay_there ss) signals image first c p q text begun there h,
)
