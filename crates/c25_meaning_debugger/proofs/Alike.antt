-- Two kinds of step that have the same results wherever the words are an image of the statements: a debugger
-- over the one answers as over the other.
use Rattle.std.proofs.Common.{◌≡◌, ◌↔◌, ℕ, zero, suc, ◌+◌, Bool, List, [], ◌∷◌, Ok, Err, refl, sym, ap, subst, arith}
use Rattle.c25_meaning_processor.specs.Goes.{Goes, Halting, Left, Met, Passes, Ran}
use Rattle.c25_meaning_debugger.specs.Debugger.{Answers, AnswersAll, AnswersScript, Point, Steps, tried}
use Rattle.c25_meaning_linking.specs.Linking.{ImageData}
use Rattle.c25_meaning_processor.specs.Run as run
use Rattle.c25_meaning_processor.specs.Run.{Ending, Signals, Stepping, ending_after}
use Rattle.c25_meaning_processor.specs.State.{State, StepResult}
use Rattle.c25_meaning_processor.specs.Statements.{IsImageOf, Statements, statement_step}
use Rattle.c25_meaning_processor.specs.WordStep.{WordStep}
use Rattle.c25_meaning_processor.specs.declared.lines.Lines.{Lines}
use Rattle.c25_meaning_processor.specs.declared.stop.Stop.{Stop}
use Rattle.c25_meaning_processor.specs.declared.script.Cmd.{Cmd}
use Rattle.c25_meaning_processor.specs.declared.script.Cmd.TheVariants as cmd
use Rattle.c25_run_laws.proofs.Image.{runs_alike, statements_stay}

-- ---- one kind of step in place of another

-- where the words are those of the statements, each step of the one kind is one of the other
abbrev pub Turns : Statements → Stepping → Stepping → Type 0
Turns ss one other = (lines : Lines) (bio : Bool) (s : State) (o : StepResult) → IsImageOf ss s.world → one lines bio s o → other lines bio s o

-- after a step of this kind the words still are an image of the statements
abbrev pub Stays : Statements → Stepping → Type 0
Stays ss one = (lines : Lines) (bio : Bool) (s t : State) → IsImageOf ss s.world → one lines bio s (Ok t) → IsImageOf ss t.world

module _ (ss : Statements) (one other : Stepping) (turns : Turns ss one other) (stays : Stays ss one) (signals : Signals) where
  passes_turn : (breaks : List ℕ) (k n : ℕ) (s t : State) → IsImageOf ss s.world → Passes one signals breaks k n s t → Passes other signals breaks k n s t × IsImageOf ss t.world
  passes_turn breaks k zero s t there same = (same, subst (λ (x : State). IsImageOf ss x.world) same there)
  passes_turn breaks k (suc n) s t there (u, passed, step, free) =
      let before = passes_turn breaks k n s u there passed in
      ((u, before.0, turns (signals.lines (k + n)) (signals.bio (k + n)) u (Ok t) before.1 step, free), stays (signals.lines (k + n)) (signals.bio (k + n)) u t before.1 step)

  goes_turn : (breaks : List ℕ) (k n : ℕ) (s : State) (h : Halting) (j : ℕ) (t : State) → IsImageOf ss s.world → Goes one signals breaks k n s h j t → Goes other signals breaks k n s h j t × IsImageOf ss t.world
  goes_turn breaks k n s Ran j t there (passed, at) =
      let p = passes_turn breaks k n s t there passed in
      ((p.0, at), p.1)
  goes_turn breaks k n s Met j t there m =
      let p = passes_turn breaks k m.done s m.last there m.passed in (
        record {
          done = m.done;
          before = m.before;
          at = m.at;
          last = m.last;
          passed = p.0;
          steps = turns (signals.lines (k + m.done)) (signals.bio (k + m.done)) m.last (Ok t) p.1 m.steps;
          met = m.met;
        },
        stays (signals.lines (k + m.done)) (signals.bio (k + m.done)) m.last t p.1 m.steps,
      )
  goes_turn breaks k n s (Left stop) j t there m =
      let p = passes_turn breaks k m.done s t there m.passed in (
        record {
          done = m.done;
          before = m.before;
          at = m.at;
          passed = p.0;
          stops = turns (signals.lines j) (signals.bio j) t (Err stop) p.1 m.stops;
        },
        p.1,
      )

  steps_turn : (breaks : List ℕ) (n : ℕ) (p : Point) (text : List ℕ) (q : Point) → IsImageOf ss p.state.world → Steps one signals breaks n p text q → Steps other signals breaks n p text q × IsImageOf ss q.state.world
  steps_turn breaks n p text q there h =
      let g = goes_turn breaks p.steps (tried p.steps n) p.state h.halting q.steps q.state there h.goes in
      (record { halting = h.halting; goes = g.0; same = h.same; text_is = h.text_is }, g.1)

  -- a command that does no step
  unmoved : (p q : Point) → q.state ≡ p.state → IsImageOf ss p.state.world → IsImageOf ss q.state.world
  unmoved p q same there = subst (λ (x : State). IsImageOf ss x.world) (sym same) there

  answers_turn : (image : ImageData) (c : Cmd) (p : Point) (text : List ℕ) (q : Point) → IsImageOf ss p.state.world → Answers one signals image c p text q → Answers other signals image c p text q × IsImageOf ss q.state.world
  answers_turn image (cmd.Step n) p text q there h = steps_turn [] n p text q there h
  answers_turn image (cmd.Run n) p text q there h = steps_turn p.breaks n p text q there h
  answers_turn image (cmd.Break a) p text q there h = (h, unmoved p q (ap (λ (x : Point). x.state) h.1) there)
  answers_turn image (cmd.Clear a) p text q there h = (h, unmoved p q (ap (λ (x : Point). x.state) h.1) there)
  answers_turn image cmd.Regs p text q there h = (h, unmoved p q (ap (λ (x : Point). x.state) h.1) there)
  answers_turn image (cmd.Data a n) p text q there h = (h, unmoved p q (ap (λ (x : Point). x.state) h.1) there)
  answers_turn image (cmd.Prog a n) p text q there h = (h, unmoved p q (ap (λ (x : Point). x.state) h.1) there)
  answers_turn image cmd.Stack p text q there h = (h, unmoved p q (ap (λ (x : Point). x.state) h.1) there)
  answers_turn image cmd.Where p text q there h = (h, unmoved p q (ap (λ (x : Point). x.state) h.1) there)
  answers_turn image (cmd.List n) p text q there h = (h, unmoved p q (ap (λ (x : Point). x.state) h.1) there)
  answers_turn image cmd.Symbols p text q there h = (h, unmoved p q (ap (λ (x : Point). x.state) h.1) there)

  pub all_turn : (image : ImageData) (cs : List Cmd) (p : Point) (text : List ℕ) (q : Point) → IsImageOf ss p.state.world → AnswersAll one signals image cs p text q → AnswersAll other signals image cs p text q
  all_turn image [] p text q there h = h
  all_turn image (c ∷ cs) p text q there (first, rest, m, answered, more, joined) =
      let a = answers_turn image c p first m there answered in
      (first, rest, m, a.0, all_turn image cs m rest q a.1 more, joined)

-- ---- words and statements

-- a step of the statements
abbrev StatementStep : Statements → Stepping
StatementStep ss lines bio s o = o ≡ statement_step ss lines bio s

-- the same lines and the same level at every step
abbrev steady : Lines → Bool → Signals
steady lines bio = record { lines = λ _. lines; bio = λ _. bio }

-- the end of a run of one step says the result of the step
told_ok : (j : ℕ) (s t : State) (o : StepResult) → run.Ran t ≡ ending_after j s o → Ok t ≡ o
told_ok j s t (Ok u) e = cc
told_ok j s t (Err stop) e = absurd (cc)

told_stop : (j : ℕ) (s : State) (stop : Stop) (o : StepResult) → run.Left j stop s ≡ ending_after j s o → Err stop ≡ o
told_stop j s stop (Ok u) e = absurd (cc)
told_stop j s stop (Err other) e = cc

words_turn : (ss : Statements) → Turns ss WordStep (StatementStep ss)
words_turn ss lines bio s (Ok t) there step =
    told_ok 0 s t (statement_step ss lines bio s) ((runs_alike ss s there (steady lines bio) 0 1 (run.Ran t)).0 (s, refl, step))
words_turn ss lines bio s (Err stop) there step =
    told_stop 0 s stop (statement_step ss lines bio s)
    ((runs_alike ss s there (steady lines bio) 0 1 (run.Left 0 stop s)).0 (record { done = 0; before = omega arith; at = refl; reached = refl; stops = step }))

words_stay : (ss : Statements) → Stays ss WordStep
words_stay ss lines bio s t there step = statements_stay ss s there (steady lines bio) 0 1 t (s, refl, step)

statements_turn : (ss : Statements) → Turns ss (StatementStep ss) WordStep
statements_turn ss lines bio s (Ok t) there is =
    let reached = (runs_alike ss s there (steady lines bio) 0 1 (run.Ran t)).1 (ap (ending_after 0 s) is) in
    subst (λ (x : State). WordStep lines bio x (Ok t)) (sym reached.1) reached.2
statements_turn ss lines bio s (Err stop) there is =
    let left = (runs_alike ss s there (steady lines bio) 0 1 (run.Left 0 stop s)).1 (ap (ending_after 0 s) is) in
    left.stops

statements_stay_there : (ss : Statements) → Stays ss (StatementStep ss)
statements_stay_there ss lines bio s t there is = words_stay ss lines bio s t there (statements_turn ss lines bio s (Ok t) there is)

pub script_alike : (ss : Statements) (signals : Signals) (image : ImageData) (cs : List Cmd) (s : State) (text : List ℕ)
    → IsImageOf ss s.world → AnswersScript WordStep signals image cs s text ↔ AnswersScript (StatementStep ss) signals image cs s text
script_alike ss signals image cs s text there = (
  λ (q, h). (q, all_turn ss WordStep (StatementStep ss) (words_turn ss) (words_stay ss) signals image cs _ text q there h),
  λ (q, h). (q, all_turn ss (StatementStep ss) WordStep (statements_turn ss) (statements_stay_there ss) signals image cs _ text q there h),
)
