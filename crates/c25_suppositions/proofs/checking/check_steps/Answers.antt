use Rattle.std.proofs.Common.{◌≡◌, ◌∙◌, ℕ, refl, sym, subst, arith, Option}
use Rattle.c25_board.specs.Board.{entries, signals, state, steps}
use Rattle.c25_board.specs.Run.{IsRun}
use Rattle.c25_board.specs.declared.board.Outcome.{Outcome}
use Rattle.c25_board.proofs.Runs.{batch}
use Rattle.c25_meaning_processor.specs.Run.{Reaches}
use Rattle.c25_meaning_processor.specs.WordStep.{WordStep}
use Rattle.c25_pages.specs.Program.{statements_of}
use Rattle.c25_pages.specs.Table.{knowledge_of}
use Rattle.c25_suppositions.specs.Breaches.{IsJudged}
use Rattle.c25_suppositions.specs.declared.breach.Breach.{Breach}
use Rattle.c25_suppositions.specs.declared.breach.Breach.TheVariants.{OtherLine}
use Rattle.c25_suppositions.proofs.Breaching.{lets_false, lets_true}
use Rattle.c25_suppositions.proofs.Pages.{reset_has_page, runs_have_pages}
use Rattle.c25_suppositions.proofs.Steps.{done_more, fault_later, fault_there, halted_supposed, left_later, left_there, none_supposed, ran_supposed, unsupposed_there}
use Rattle.c25_suppositions.proofs.checking.check_steps.Goals as goal

pub breach_of-requires-clause-page : goal.breach_of-requires-clause-page
breach_of-requires-clause-page c =
    let old = c.args.board.now in
    runs_have_pages (signals old) 0 c.loop-done.done (state old) (state c.loop-done.board) c.loop-done.invariant.reached (reset_has_page (state old) c.requires.start)

pub breach_of-requires-clause-image : goal.breach_of-requires-clause-image
breach_of-requires-clause-image c =
    let old = c.args.board.now in
    c.image_runs_as_statements.ensures.words (statements_of c.args.program.now) (state old) c.requires.image (signals old) 0 c.loop-done.done (state c.loop-done.board) c.loop-done.invariant.reached

pub loop-done-init : goal.loop-done-init
loop-done-init c =
    let old = c.args.board.now in
    record {
      most = omega arith;
      count = c.requires.first;
      schedule = refl;
      failures = refl;
      reached = refl;
      supposed = none_supposed (statements_of c.args.program.now) (knowledge_of c.args.table.now) (signals old) (state old);
    }

pub loop-done-preserved : goal.loop-done-preserved
loop-done-preserved c =
    let i = c.loop-done.invariant in
    let old = c.args.board.now in
    let now = c.loop-done.board in
    let new = c.run_one.new.self in
    let ss = statements_of c.args.program.now in
    let kn = knowledge_of c.args.table.now in
    let judged = subst (λ (o : Option Breach). IsJudged ss kn ((signals now).lines (steps now)) (state now) o) c.in-None.is c.breach_of.ensures in
    let ran = subst (λ (o : Outcome). IsRun (signals now) (steps now) 1 (state now) o (steps new) (state new) now.devices.sink.failures new.devices.sink.failures) c.in-Ran.is c.run_one.ensures.run in
    let at = ran.1 in
    record {
      most = omega (arith, c.loop-done-test.true);
      count = omega (arith, at, i.count);
      schedule = c.run_one.ensures.schedule ∙ i.schedule;
      failures = ran.2 ∙ i.failures;
      reached = batch (entries now) (entries old) 0 c.loop-done.done (steps now) 1 (state old) (state now) (state new) i.schedule (omega (arith, i.count)) i.reached ran.0;
      supposed = done_more ss kn (entries now) (entries old) i.schedule c.args.n c.loop-done.done (steps now) i.count (state old) (state now) i.reached i.supposed (c.image_runs_as_statements.ensures.runs ss (state old) c.requires.image) judged;
    }

pub returns-in-Some-clause-checked : goal.returns-in-Some-clause-checked
returns-in-Some-clause-checked c =
    let i = c.loop-done.invariant in
    let old = c.args.board.now in
    let now = c.loop-done.board in
    let ss = statements_of c.args.program.now in
    let kn = knowledge_of c.args.table.now in
    let judged = subst (λ (o : Option Breach). IsJudged ss kn ((signals now).lines (steps now)) (state now) o) c.in-Some.is c.breach_of.ensures in
    (unsupposed_there ss kn (entries now) (entries old) i.schedule c.args.n c.loop-done.done (steps now) i.count (state old) (state now) i.reached i.supposed i.most c.in-Some.breach judged, i.failures)

pub returns-in-Left-clause-checked : goal.returns-in-Left-clause-checked
returns-in-Left-clause-checked c =
    let i = c.loop-done.invariant in
    let old = c.args.board.now in
    let now = c.loop-done.board in
    let new = c.run_one.new.self in
    let ss = statements_of c.args.program.now in
    let kn = knowledge_of c.args.table.now in
    let judged = subst (λ (o : Option Breach). IsJudged ss kn ((signals now).lines (steps now)) (state now) o) c.in-None.is c.breach_of.ensures in
    let ran = subst (λ (o : Outcome). IsRun (signals now) (steps now) 1 (state now) o (steps new) (state new) now.devices.sink.failures new.devices.sink.failures) c.in-Left.is c.run_one.ensures.run in (
      left_later (entries now) (entries old) i.schedule c.args.n c.loop-done.done (steps now) old.devices.sink.failures now.devices.sink.failures new.devices.sink.failures (steps new) c.in-Left.at (state old) (state now) (state new) i.count (c.loop-done-test.true) i.reached i.failures c.in-Left.stop ran,
      halted_supposed ss kn (signals old) c.loop-done.done (steps now) (steps new) (state old) (state now) (state new) i.count (left_there (signals now) (steps now) c.in-Left.at (steps new) c.in-Left.stop now.devices.sink.failures new.devices.sink.failures (state now) (state new) ran)
          (done_more ss kn (entries now) (entries old) i.schedule c.args.n c.loop-done.done (steps now) i.count (state old) (state now) i.reached i.supposed (c.image_runs_as_statements.ensures.runs ss (state old) c.requires.image) judged) judged.lets,
    )

pub returns-in-SinkFault-clause-checked : goal.returns-in-SinkFault-clause-checked
returns-in-SinkFault-clause-checked c =
    let i = c.loop-done.invariant in
    let old = c.args.board.now in
    let now = c.loop-done.board in
    let new = c.run_one.new.self in
    let ss = statements_of c.args.program.now in
    let kn = knowledge_of c.args.table.now in
    let judged = subst (λ (o : Option Breach). IsJudged ss kn ((signals now).lines (steps now)) (state now) o) c.in-None.is c.breach_of.ensures in
    let ran = subst (λ (o : Outcome). IsRun (signals now) (steps now) 1 (state now) o (steps new) (state new) now.devices.sink.failures new.devices.sink.failures) c.in-SinkFault.is c.run_one.ensures.run in (
      fault_later (entries now) (entries old) i.schedule c.args.n c.loop-done.done (steps now) old.devices.sink.failures now.devices.sink.failures new.devices.sink.failures (steps new) c.in-SinkFault.at (state old) (state now) (state new) i.count (c.loop-done-test.true) i.reached i.failures ran,
      halted_supposed ss kn (signals old) c.loop-done.done (steps now) (steps new) (state old) (state now) (state new) i.count (fault_there (signals now) (steps now) c.in-SinkFault.at (steps new) now.devices.sink.failures new.devices.sink.failures (state now) (state new) ran)
          (done_more ss kn (entries now) (entries old) i.schedule c.args.n c.loop-done.done (steps now) i.count (state old) (state now) i.reached i.supposed (c.image_runs_as_statements.ensures.runs ss (state old) c.requires.image) judged) judged.lets,
    )

pub returns-then-imr_is_supposed-clause-checked : goal.returns-then-imr_is_supposed-clause-checked
returns-then-imr_is_supposed-clause-checked c =
    let i = c.loop-done.invariant in
    let old = c.args.board.now in
    let now = c.loop-done.board in
    let ss = statements_of c.args.program.now in
    let kn = knowledge_of c.args.table.now in
    let all : c.loop-done.done ≡ c.args.n = omega (arith, c.loop-done-test.false, i.most) in (
      (subst (λ (k : ℕ). Reaches WordStep (signals old) 0 k (state old) (state now)) all i.reached, omega (arith, i.count, all), i.failures),
      ran_supposed ss kn (signals old) c.args.n c.loop-done.done (steps now) (state old) (state now) (sym all) i.count i.supposed
          (lets_true kn ((state now).world.words 4) (sym c.imr_is_supposed.ensures ∙ c.if-imr_is_supposed.true)),
    )

pub returns-else-imr_is_supposed-clause-checked : goal.returns-else-imr_is_supposed-clause-checked
returns-else-imr_is_supposed-clause-checked c =
    let i = c.loop-done.invariant in
    let old = c.args.board.now in
    let now = c.loop-done.board in
    let ss = statements_of c.args.program.now in
    let kn = knowledge_of c.args.table.now in (
      unsupposed_there ss kn (entries now) (entries old) i.schedule c.args.n c.loop-done.done (steps now) i.count (state old) (state now) i.reached i.supposed i.most OtherLine
          (lets_false kn ((state now).world.words 4) (sym c.imr_is_supposed.ensures ∙ c.if-imr_is_supposed.false)),
      i.failures,
    )
