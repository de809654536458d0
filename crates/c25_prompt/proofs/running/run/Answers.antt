use Rattle.std.proofs.Common.{◌≡◌, ◌-◌, ◌+◌, ◌≤◌, ◌∙◌, ℕ, List, true, false, sym, ap, subst, arith, rules}
use Rattle.c25_board.specs.Board.{entries, signals, steps}
use Rattle.c25_meaning_processor.specs.Signals.{signals_of}
use Rattle.c25_meaning_processor.specs.WordStep.{WordStep}
use Rattle.c25_meaning_processor.specs.declared.schedule.ScheduleEntry.{ScheduleEntry}
use Rattle.c25_prompt.specs.Parts.{IsPart}
use Rattle.c25_prompt.specs.Point.{point_of}
use Rattle.c25_prompt.specs.Prompt.{WentOn}
use Rattle.c25_prompt.specs.declared.ended.Ended.TheVariants as ended
use Rattle.c25_prompt.proofs.Parts.{Finishes, all_done, all_left, ends, fewer, goes_on}
use Rattle.c25_prompt.proofs.running.run.Goals as goal

pub returns-then-part-clause-run : goal.returns-then-part-clause-run
returns-then-part-clause-run c =
    let old = c.args.board.now in
    let now = point_of c.loop-turn.board c.loop-turn.stops in
    let new = point_of c.run_part.new.board c.run_part.new.stops in
    let i = c.loop-turn.invariant in
    let part = c.in_ok-part.part in
    let is = subst (λ (es : List ScheduleEntry). IsPart (signals_of es) c.args.goal c.loop-turn.left now part new) i.schedule c.in_ok-part.ensures.part in
    let last : part.is_last ≡ true = search rules in
    ends (signals old) c.args.goal c.args.n (point_of old c.args.stops.now) c.loop-turn.left now new part is last i.finishes

pub loop-turn-preserved : goal.loop-turn-preserved
loop-turn-preserved c =
    let old = c.args.board.now in
    let now = point_of c.loop-turn.board c.loop-turn.stops in
    let new = point_of c.run_part.new.board c.run_part.new.stops in
    let i = c.loop-turn.invariant in
    let part = c.in_ok-part.part in
    let is = subst (λ (es : List ScheduleEntry). IsPart (signals_of es) c.args.goal c.loop-turn.left now part new) i.schedule c.in_ok-part.ensures.part in
    let on : part.is_last ≡ false = search rules in
    let counted : c.steps_left-left.result ≡ c.loop-turn.left - (new.at.steps - now.at.steps) = search rules in
    let before = i.few in
    let less = fewer (signals old) c.args.goal c.loop-turn.left now new part is on in
    record {
      schedule = c.in_ok-part.ensures.schedule ∙ i.schedule;
      few = omega (arith, counted, before, less);
      finishes = subst (λ (x : ℕ). Finishes (signals old) c.args.goal c.args.n (point_of old c.args.stops.now) x new) (sym counted)
          (goes_on (signals old) c.args.goal c.args.n (point_of old c.args.stops.now) c.loop-turn.left now new part is on i.finishes);
    }

pub returns-clause-run : goal.returns-clause-run
returns-clause-run c =
    let old = c.args.board.now in
    let now = point_of c.loop-turn.board c.loop-turn.stops in
    let i = c.loop-turn.invariant in
    let few = i.few in
    let none : c.loop-turn.left ≡ 0 = omega (arith, few) in
    all_done (signals old) c.args.goal c.args.n (point_of old c.args.stops.now) c.loop-turn.left now none i.finishes
