use Rattle.c25_explain.specs.Below.{AreBelow}
use Rattle.c25_explain.proofs.summaries.explanations.Given as goal

abbrev pub invariant-loop-number : goal.invariant-loop-number
invariant-loop-number l = AreBelow l.number l.all.items
