-- the operands so far, and those of the sources that are left, are those of all
use Rattle.std.proofs.Common.{◌≡◌, ◌++◌, drop, map}
use Rattle.c25_absolute_operands.specs.Operands.{absolute_operands, operands_numbered}
use Rattle.c25_absolute_operands.proofs.sources.absolute_operands.Given as goal

abbrev pub invariant-loop-number : goal.invariant-loop-number
invariant-loop-number l =
    l.operands.items ++ operands_numbered l.files l.number (map (λ n. n.now) (drop l.number l.names)) ≡ absolute_operands l.files (map (λ n. n.now) l.names)
