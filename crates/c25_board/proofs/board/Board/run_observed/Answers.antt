use Rattle.std.proofs.Common.{◌≡◌, ◌∙◌, ℕ, ◌+◌, ◌-◌, ◌<◌, ◌≤◌, Bool, true, false, Option, IfSome, arith, refl, sym, ap, subst, rules}
use Rattle.std.specs.Prelude.{OnSome, Err}
use Rattle.c25_core.specs.Seen.{Sees}
use Rattle.c25_core.specs.declared.bus.Halt.{Halt}
use Rattle.c25_board.specs.Board.{entries, signals, state, steps}
use Rattle.c25_board.specs.Run.{StepsOnce}
use Rattle.c25_board.proofs.SeenSteps.{ended_steady, halts_seen, more_seen}
use Rattle.c25_board.proofs.board.Board.run_observed.Goals as goal

pub returns-then-seen-clause-run : goal.returns-then-seen-clause-run
returns-then-seen-clause-run g c =
    let i = c.loop-done.invariant in
    let old = c.args.self.now in
    let now = c.loop-done.self in
    let mid = c.see_streak-seen.new.self in
    let a = c.see_streak-seen.ensures in
    let tells = g.O.Observer.tells in
    let ends = g.O.Observer.ends in
    let done = c.loop-done.done + c.see_streak-seen.result.steps in
    let most = a.most in
    let schedule = a.schedule ∙ i.schedule in
    let streak =
    subst (λ (b : Bool). Sees tells ends (signals now) (steps now) c.see_streak-seen.result.steps b (state now) c.loop-done.observer (state mid) c.see_streak-seen.new.observer) c.if-seen.true a.seen in
    let seen =
    more_seen tells ends (entries now) (entries old) (steps old) c.loop-done.done (steps now) c.see_streak-seen.result.steps true (state old) (state now) (state mid) c.args.observer.now c.loop-done.observer c.see_streak-seen.new.observer
    i.schedule i.count i.seen streak in
    let count : steps mid ≡ steps old + done = omega (arith, i.count, a.count) in (
      done,
      omega (arith, most, i.most),
      seen,
      count,
      ended_steady c.see_streak-seen.result.halt c.see_streak-seen.result.ended (g.S.Sink.failures mid.devices.sink ≡ g.S.Sink.failures now.devices.sink) c.if-seen.true a.goes_on a.failures ∙ i.failures,
    )

pub returns-in-Some-clause-run : goal.returns-in-Some-clause-run
returns-in-Some-clause-run g c =
    let i = c.loop-done.invariant in
    let old = c.args.self.now in
    let now = c.loop-done.self in
    let mid = c.see_streak-seen.new.self in
    let a = c.see_streak-seen.ensures in
    let tells = g.O.Observer.tells in
    let ends = g.O.Observer.ends in
    let done = c.loop-done.done + c.see_streak-seen.result.steps in
    let most = a.most in
    let schedule = a.schedule ∙ i.schedule in
    let streak =
    subst (λ (b : Bool). Sees tells ends (signals now) (steps now) c.see_streak-seen.result.steps b (state now) c.loop-done.observer (state mid) c.see_streak-seen.new.observer) c.if-seen.false a.seen in
    let seen =
    more_seen tells ends (entries now) (entries old) (steps old) c.loop-done.done (steps now) c.see_streak-seen.result.steps false (state old) (state now) (state mid) c.args.observer.now c.loop-done.observer c.see_streak-seen.new.observer
    i.schedule i.count i.seen streak in
    let count : steps mid ≡ steps old + done = omega (arith, i.count, a.count) in
    let few : c.see_streak-seen.result.steps < c.args.n - c.loop-done.done =
    subst (λ (o : Option Halt). OnSome o (c.see_streak-seen.result.steps < c.args.n - c.loop-done.done)) c.in-Some.is a.few in
    let halts =
    subst (λ (o : Option Halt). IfSome o (λ h. StepsOnce (signals now) (steps mid) (state mid) (Err h) (state mid) (g.S.Sink.failures now.devices.sink) (g.S.Sink.failures mid.devices.sink))) c.in-Some.is a.halts in
    let is = c.halted.ensures in
    rw is
    (halts_seen tells ends (entries now) (entries old) (steps old) c.args.n done (steps mid) (steps mid) (steps mid) (g.S.Sink.failures old.devices.sink) (g.S.Sink.failures now.devices.sink) (g.S.Sink.failures mid.devices.sink) (state old) (state mid) (state mid)
    c.args.observer.now c.see_streak-seen.new.observer c.see_streak-seen.new.observer i.schedule count (omega (arith, few, i.most)) seen refl i.failures refl refl c.in-Some.halt halts)

pub returns-then-done-n-clause-run : goal.returns-then-done-n-clause-run
returns-then-done-n-clause-run g c =
    let i = c.loop-done.invariant in
    let old = c.args.self.now in
    let now = c.loop-done.self in
    let mid = c.see_streak-seen.new.self in
    let a = c.see_streak-seen.ensures in
    let tells = g.O.Observer.tells in
    let ends = g.O.Observer.ends in
    let done = c.loop-done.done + c.see_streak-seen.result.steps in
    let most = a.most in
    let schedule = a.schedule ∙ i.schedule in
    let streak =
    subst (λ (b : Bool). Sees tells ends (signals now) (steps now) c.see_streak-seen.result.steps b (state now) c.loop-done.observer (state mid) c.see_streak-seen.new.observer) c.if-seen.false a.seen in
    let seen =
    more_seen tells ends (entries now) (entries old) (steps old) c.loop-done.done (steps now) c.see_streak-seen.result.steps false (state old) (state now) (state mid) c.args.observer.now c.loop-done.observer c.see_streak-seen.new.observer
    i.schedule i.count i.seen streak in
    let count : steps mid ≡ steps old + done = omega (arith, i.count, a.count) in
    let steady : g.S.Sink.failures mid.devices.sink ≡ g.S.Sink.failures now.devices.sink = search rules in
    let all = c.if-done-n.true in (
      subst (λ (x : ℕ). Sees tells ends (signals old) (steps old) x false (state old) c.args.observer.now (state mid) c.see_streak-seen.new.observer) all seen,
      omega (arith, count, all),
      steady ∙ i.failures,
    )

pub returns-then-ended-clause-run : goal.returns-then-ended-clause-run
returns-then-ended-clause-run g c =
    let i = c.loop-done.invariant in
    let old = c.args.self.now in
    let now = c.loop-done.self in
    let mid = c.see_streak-seen.new.self in
    let a = c.see_streak-seen.ensures in
    let tells = g.O.Observer.tells in
    let ends = g.O.Observer.ends in
    let done = c.loop-done.done + c.see_streak-seen.result.steps in
    let most = a.most in
    let schedule = a.schedule ∙ i.schedule in
    let streak =
    subst (λ (b : Bool). Sees tells ends (signals now) (steps now) c.see_streak-seen.result.steps b (state now) c.loop-done.observer (state mid) c.see_streak-seen.new.observer) c.if-seen.false a.seen in
    let seen =
    more_seen tells ends (entries now) (entries old) (steps old) c.loop-done.done (steps now) c.see_streak-seen.result.steps false (state old) (state now) (state mid) c.args.observer.now c.loop-done.observer c.see_streak-seen.new.observer
    i.schedule i.count i.seen streak in
    let count : steps mid ≡ steps old + done = omega (arith, i.count, a.count) in
    let steady : g.S.Sink.failures mid.devices.sink ≡ g.S.Sink.failures now.devices.sink = search rules in
    let new = c.see_step.new.self in
    let below = c.if-done-n.false in
    let one = c.in-Ok.ensures.count in
    let step =
    more_seen tells ends (entries mid) (entries old) (steps old) done (steps mid) 1 true (state old) (state mid) (state new) c.args.observer.now c.see_streak-seen.new.observer c.see_step.new.observer
    schedule count seen
    (subst (λ (b : Bool). Sees tells ends (signals mid) (steps mid) 1 b (state mid) c.see_streak-seen.new.observer (state new) c.see_step.new.observer) c.if-ended.true c.in-Ok.ensures.seen) in (
      done + 1,
      omega (arith, most, below, i.most),
      step,
      omega (arith, count, one),
      c.in-Ok.ensures.failures ∙ steady ∙ i.failures,
    )

pub loop-done-preserved : goal.loop-done-preserved
loop-done-preserved g c =
    let i = c.loop-done.invariant in
    let old = c.args.self.now in
    let now = c.loop-done.self in
    let mid = c.see_streak-seen.new.self in
    let a = c.see_streak-seen.ensures in
    let tells = g.O.Observer.tells in
    let ends = g.O.Observer.ends in
    let done = c.loop-done.done + c.see_streak-seen.result.steps in
    let most = a.most in
    let schedule = a.schedule ∙ i.schedule in
    let streak =
    subst (λ (b : Bool). Sees tells ends (signals now) (steps now) c.see_streak-seen.result.steps b (state now) c.loop-done.observer (state mid) c.see_streak-seen.new.observer) c.if-seen.false a.seen in
    let seen =
    more_seen tells ends (entries now) (entries old) (steps old) c.loop-done.done (steps now) c.see_streak-seen.result.steps false (state old) (state now) (state mid) c.args.observer.now c.loop-done.observer c.see_streak-seen.new.observer
    i.schedule i.count i.seen streak in
    let count : steps mid ≡ steps old + done = omega (arith, i.count, a.count) in
    let steady : g.S.Sink.failures mid.devices.sink ≡ g.S.Sink.failures now.devices.sink = search rules in
    let new = c.see_step.new.self in
    let below = c.if-done-n.false in
    let one = c.in-Ok.ensures.count in
    let step =
    more_seen tells ends (entries mid) (entries old) (steps old) done (steps mid) 1 false (state old) (state mid) (state new) c.args.observer.now c.see_streak-seen.new.observer c.see_step.new.observer
    schedule count seen
    (subst (λ (b : Bool). Sees tells ends (signals mid) (steps mid) 1 b (state mid) c.see_streak-seen.new.observer (state new) c.see_step.new.observer) c.if-ended.false c.in-Ok.ensures.seen) in
    record {
      most = omega (arith, most, below, i.most);
      count = omega (arith, count, one);
      schedule = c.in-Ok.ensures.schedule ∙ schedule;
      failures = c.in-Ok.ensures.failures ∙ steady ∙ i.failures;
      seen = step;
    }

pub returns-in-Err-clause-run : goal.returns-in-Err-clause-run
returns-in-Err-clause-run g c =
    let i = c.loop-done.invariant in
    let old = c.args.self.now in
    let now = c.loop-done.self in
    let mid = c.see_streak-seen.new.self in
    let a = c.see_streak-seen.ensures in
    let tells = g.O.Observer.tells in
    let ends = g.O.Observer.ends in
    let done = c.loop-done.done + c.see_streak-seen.result.steps in
    let most = a.most in
    let schedule = a.schedule ∙ i.schedule in
    let streak =
    subst (λ (b : Bool). Sees tells ends (signals now) (steps now) c.see_streak-seen.result.steps b (state now) c.loop-done.observer (state mid) c.see_streak-seen.new.observer) c.if-seen.false a.seen in
    let seen =
    more_seen tells ends (entries now) (entries old) (steps old) c.loop-done.done (steps now) c.see_streak-seen.result.steps false (state old) (state now) (state mid) c.args.observer.now c.loop-done.observer c.see_streak-seen.new.observer
    i.schedule i.count i.seen streak in
    let count : steps mid ≡ steps old + done = omega (arith, i.count, a.count) in
    let steady : g.S.Sink.failures mid.devices.sink ≡ g.S.Sink.failures now.devices.sink = search rules in
    let new = c.see_step.new.self in
    let below = c.if-done-n.false in
    let e = c.in-Err.ensures in
    let is = c.halted-in-Err.ensures in
    rw is
    (halts_seen tells ends (entries mid) (entries old) (steps old) c.args.n done (steps mid) (steps new) (steps new) (g.S.Sink.failures old.devices.sink) (g.S.Sink.failures mid.devices.sink) (g.S.Sink.failures new.devices.sink) (state old) (state mid) (state new)
    c.args.observer.now c.see_streak-seen.new.observer c.see_step.new.observer schedule count (omega (arith, most, below, i.most)) seen e.same (steady ∙ i.failures) e.same_count refl c.in-Err.halt e.halts)

pub returns-clause-run : goal.returns-clause-run
returns-clause-run g c =
    let i = c.loop-done.invariant in
    let old = c.args.self.now in
    let now = c.loop-done.self in
    let all : c.loop-done.done ≡ c.args.n = search rules in (
      subst (λ (x : ℕ). Sees g.O.Observer.tells g.O.Observer.ends (signals old) (steps old) x false (state old) c.args.observer.now (state now) c.loop-done.observer) all i.seen,
      omega (arith, i.count, all),
      i.failures,
    )
