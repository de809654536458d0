use Rattle.std.proofs.Common.{◌≡◌, ◌++◌, length}
use Rattle.c25_meaning_assembly.specs.AssemblyLine.{packed}
use Rattle.c25_statements.proofs.strings.pack.Given as goal

abbrev pub invariant-loop-rest : goal.invariant-loop-rest
invariant-loop-rest l = l.words.items ++ packed l.rest ≡ l.initial.words.items ++ packed l.text

abbrev pub decreases-loop-rest : goal.decreases-loop-rest
decreases-loop-rest l = length l.rest
