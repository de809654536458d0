-- A script is answered from the statements of the sources as it is over the words of their image.
use Rattle.std.proofs.Common.{◌≡◌, ℕ, zero, suc, ◌+◌, Bool, List, [], ◌∷◌, sym, ap, subst}
use Rattle.c25_meaning_debugger.proofs.Alike.{Stays, script_alike}
use Rattle.c25_meaning_debugger.specs.Debugger.{Answers, AnswersAll, AnswersScript, IsWhereBy, Point, Steps, source_line_at, tried}
use Rattle.c25_meaning_debugger.specs.Texts.{AreLinesOf, marks_from}
use Rattle.c25_meaning_linking.specs.Linking.{ImageData}
use Rattle.c25_meaning_processor.specs.Goes.{Goes, Halting, Left, Met, Passes, Ran}
use Rattle.c25_meaning_processor.specs.Run as run
use Rattle.c25_meaning_processor.specs.Run.{Signals, Stepping, ending_after}
use Rattle.c25_meaning_processor.specs.State.{State}
use Rattle.c25_meaning_processor.specs.Statements.{IsImageOf, Statements, statement_step}
use Rattle.c25_meaning_processor.specs.WordStep.{WordStep, mark_found}
use Rattle.c25_meaning_processor.specs.declared.lines.Lines.{Lines}
use Rattle.c25_meaning_processor.specs.declared.script.Cmd.{Cmd}
use Rattle.c25_meaning_processor.specs.declared.script.Cmd.TheVariants as cmd
use Rattle.c25_run_laws.proofs.Image.{runs_alike, statements_stay}
use Rattle.c25_statement_laws.specs.StatementLines.{TracedStatement}
use Rattle.c25_debugger_laws.specs.StatementAnswers.{AllAnswersOf, AnswersOf, IsListText, ScriptAnswersOf, where_text}

-- a step of the statements
abbrev StatementStep : Statements → Stepping
StatementStep ss lines bio s o = o ≡ statement_step ss lines bio s

-- the same lines and the same level at every step
abbrev steady : Lines → Bool → Signals
steady lines bio = record { lines = λ _. lines; bio = λ _. bio }

statements_stay_there : (ss : Statements) → Stays ss (StatementStep ss)
statements_stay_there ss lines bio s t there is =
    let reached = (runs_alike ss s there (steady lines bio) 0 1 (run.Ran t)).1 (ap (ending_after 0 s) is) in
    statements_stay ss s there (steady lines bio) 0 1 t reached

-- ---- points

module _ (ss : Statements) (one : Stepping) (stays : Stays ss one) (signals : Signals) where
  passes_stay : (breaks : List ℕ) (k n : ℕ) (s t : State) → IsImageOf ss s.world → Passes one signals breaks k n s t → IsImageOf ss t.world
  passes_stay breaks k zero s t there same = subst (λ (x : State). IsImageOf ss x.world) same there
  passes_stay breaks k (suc n) s t there (u, passed, step, free) = stays (signals.lines (k + n)) (signals.bio (k + n)) u t (passes_stay breaks k n s u there passed) step

  goes_stay : (breaks : List ℕ) (k n : ℕ) (s : State) (h : Halting) (j : ℕ) (t : State) → IsImageOf ss s.world → Goes one signals breaks k n s h j t → IsImageOf ss t.world
  goes_stay breaks k n s Ran j t there (passed, at) = passes_stay breaks k n s t there passed
  goes_stay breaks k n s Met j t there m = stays (signals.lines (k + m.done)) (signals.bio (k + m.done)) m.last t (passes_stay breaks k m.done s m.last there m.passed) m.steps
  goes_stay breaks k n s (Left stop) j t there m = passes_stay breaks k m.done s t there m.passed

  steps_stay : (breaks : List ℕ) (n : ℕ) (p : Point) (text : List ℕ) (q : Point) → IsImageOf ss p.state.world → Steps one signals breaks n p text q → IsImageOf ss q.state.world
  steps_stay breaks n p text q there h = goes_stay breaks p.steps (tried p.steps n) p.state h.halting q.steps q.state there h.goes

unmoved : (ss : Statements) (p q : Point) → q ≡ p → IsImageOf ss p.state.world → IsImageOf ss q.state.world
unmoved ss p q same there = subst (λ (x : Point). IsImageOf ss x.state.world) (sym same) there

-- ---- commands

module _ (all : List TracedStatement) (ss : Statements) (image : ImageData) (places : (s : State) → IsImageOf ss s.world → (text : List ℕ) → IsWhereBy image s (mark_found s.registers.cnf s.world s.registers.pc) text → text ≡ where_text all s)
    (lists : (pc n : ℕ) (text : List ℕ) → AreLinesOf image.program (source_line_at image) (marks_from image.marks pc n) text → IsListText all pc n text) where
  module _ (one : Stepping) (stays : Stays ss one) (signals : Signals) where
    command_answered : (c : Cmd) (a : Point) (text : List ℕ) (b : Point) → IsImageOf ss a.state.world → Answers one signals image c a text b → AnswersOf all one signals image c a text b × IsImageOf ss b.state.world
    command_answered (cmd.Step n) a text b there h = (h, steps_stay ss one stays signals [] n a text b there h)
    command_answered (cmd.Run n) a text b there h = (h, steps_stay ss one stays signals a.breaks n a text b there h)
    command_answered (cmd.Break at) a text b there h = (h, subst (λ (x : State). IsImageOf ss x.world) (sym (ap (λ (x : Point). x.state) h.1)) there)
    command_answered (cmd.Clear at) a text b there h = (h, subst (λ (x : State). IsImageOf ss x.world) (sym (ap (λ (x : Point). x.state) h.1)) there)
    command_answered cmd.Regs a text b there h = (h, unmoved ss a b h.1 there)
    command_answered (cmd.Data at n) a text b there h = (h, unmoved ss a b h.1 there)
    command_answered (cmd.Prog at n) a text b there h = (h, unmoved ss a b h.1 there)
    command_answered cmd.Stack a text b there h = (h, unmoved ss a b h.1 there)
    command_answered cmd.Where a text b there h = ((places a.state there text h.0, h.1), unmoved ss a b h.1 there)
    command_answered (cmd.List n) a text b there h = ((lists a.state.registers.pc n text h.0, h.1), unmoved ss a b h.1 there)
    command_answered cmd.Symbols a text b there h = (h, unmoved ss a b h.1 there)

    all_answered : (cs : List Cmd) (a : Point) (text : List ℕ) (b : Point) → IsImageOf ss a.state.world → AnswersAll one signals image cs a text b → AllAnswersOf all one signals image cs a text b
    all_answered [] a text b there h = h
    all_answered (c ∷ cs) a text b there (first, rest, m, answered, more, joined) =
        let x = command_answered c a first m there answered in
        (first, rest, m, x.0, all_answered cs m rest b x.1 more, joined)

  pub script_answered : (signals : Signals) (cs : List Cmd) (s : State) (text : List ℕ) → IsImageOf ss s.world → AnswersScript WordStep signals image cs s text
      → ScriptAnswersOf all (StatementStep ss) signals image cs s text
  script_answered signals cs s text there h =
      let by_statements = (script_alike ss signals image cs s text there).0 h in
      (by_statements.0, all_answered (StatementStep ss) (statements_stay_there ss) signals cs _ text by_statements.0 there by_statements.1)
