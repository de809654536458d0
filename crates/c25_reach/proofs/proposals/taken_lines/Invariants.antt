-- the lines so far are read as one hint each
use Rattle.std.proofs.Common.{string_bytes}
use Rattle.std.specs.List.{All}
use Rattle.c25_reach.specs.Proposals.{IsTaken}
use Rattle.c25_reach.proofs.proposals.taken_lines.Given as goal

abbrev pub invariant-loop-line : goal.invariant-loop-line
invariant-loop-line l = All (λ line. IsTaken (string_bytes line)) l.lines.items
