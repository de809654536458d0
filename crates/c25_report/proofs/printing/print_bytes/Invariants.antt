use Rattle.c25_report.proofs.Fronts.{Leaves}
use Rattle.c25_report.proofs.printing.print_bytes.Given as goal

abbrev pub invariant-loop-turn : goal.invariant-loop-turn
invariant-loop-turn g l = Leaves l.bytes l.rest (g.O.Write.contents l.initial.out) (g.O.Write.contents l.out)
