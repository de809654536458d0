use Rattle.c25_fronts.proofs.Added.{Completes}
use Rattle.c25_fronts.proofs.adding.with_fronts.Given as goal

abbrev pub invariant-loop-front : goal.invariant-loop-front
invariant-loop-front l = Completes l.fn.sources l.fronts l.files l.front-index
