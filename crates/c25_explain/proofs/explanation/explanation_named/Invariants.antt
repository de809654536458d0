use Rattle.c25_explain.specs.Below.{NoneBelow}
use Rattle.c25_explain.proofs.explanation.explanation_named.Given as goal

abbrev pub invariant-loop-number : goal.invariant-loop-number
invariant-loop-number l = NoneBelow l.number l.name
