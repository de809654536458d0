-- what is scanned from here is what is scanned from the front
use Rattle.std.proofs.Common.{◌≡◌, length}
use Rattle.c25_old_expressions.specs.OldSymbols.{old_scan, old_symbols}
use Rattle.c25_old_expressions.specs.Scanning.{so_far}
use Rattle.c25_old_expressions.proofs.scanner.old_symbols.Given as goal

abbrev pub invariant-loop-rest : goal.invariant-loop-rest
invariant-loop-rest l = old_scan l.order l.labelled (so_far l.scanner) 0 l.rest ≡ old_symbols l.order l.labelled l.text

abbrev pub decreases-loop-rest : goal.decreases-loop-rest
decreases-loop-rest l = length l.rest
