use Rattle.c25_explain.proofs.Below.{none_next, some_next}
use Rattle.c25_explain.proofs.summaries.push_next.Goals as goal

pub returns-in_ok-push-in-Some : goal.returns-in_ok-push-in-Some
returns-in_ok-push-in-Some c = λ below. some_next c.args.number c.args.all.now.items _ c.in-Some.explanation below c.in-Some.ensures c.in_ok-push-in-Some.ensures.items

pub returns-in-None : goal.returns-in-None
returns-in-None c = λ below. none_next c.args.number c.args.all.now.items below c.in-None.ensures
