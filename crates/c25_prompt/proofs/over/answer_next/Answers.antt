use Rattle.std.proofs.Common.{◌≡◌, ◌-◌, ◌+◌, ◌∙◌, suc, List, true, false, subst, arith, rules}
use Rattle.c25_board.specs.Board.{signals}
use Rattle.c25_meaning_processor.specs.Signals.{signals_of}
use Rattle.c25_meaning_processor.specs.declared.schedule.ScheduleEntry.{ScheduleEntry}
use Rattle.c25_prompt.specs.Over.{IsNext}
use Rattle.c25_prompt.specs.Point.{point_of}
use Rattle.c25_prompt.proofs.Next.{goes_on, told_end}
use Rattle.c25_prompt.proofs.over.answer_next.Goals as goal

pub returns-then-not-step-clause-answer : goal.returns-then-not-step-clause-answer
returns-then-not-step-clause-answer c =
    let old = c.args.board.now in
    let now = point_of c.loop-done.board c.loop-done.stops in
    let new = point_of c.next_one.new.board c.next_one.new.stops in
    let i = c.loop-done.invariant in
    let step = c.in_ok-step.step in
    let counted : c.args.n - c.loop-done._done ≡ suc (c.args.n - (c.loop-done._done + 1)) = omega arith in
    let is = subst (λ (es : List ScheduleEntry). IsNext (signals_of es) now step new) i.schedule c.in_ok-step.ensures.step in
    let going : step.goes_on ≡ false = search rules in
    told_end (signals old) c.args.n (point_of old c.args.stops.now) (c.args.n - c.loop-done._done) (c.args.n - (c.loop-done._done + 1)) now new step c.ended_line.result counted is going i.finishes c.ended_line.ensures

pub loop-done-preserved : goal.loop-done-preserved
loop-done-preserved c =
    let old = c.args.board.now in
    let now = point_of c.loop-done.board c.loop-done.stops in
    let new = point_of c.next_one.new.board c.next_one.new.stops in
    let i = c.loop-done.invariant in
    let step = c.in_ok-step.step in
    let counted : c.args.n - c.loop-done._done ≡ suc (c.args.n - (c.loop-done._done + 1)) = omega arith in
    let is = subst (λ (es : List ScheduleEntry). IsNext (signals_of es) now step new) i.schedule c.in_ok-step.ensures.step in
    let going : step.goes_on ≡ true = search rules in
    record {
      schedule = c.in_ok-step.ensures.schedule ∙ i.schedule;
      finishes = goes_on (signals old) c.args.n (point_of old c.args.stops.now) (c.args.n - c.loop-done._done) (c.args.n - (c.loop-done._done + 1)) now new step counted is going i.finishes;
    }
