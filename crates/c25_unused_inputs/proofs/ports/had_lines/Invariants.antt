-- the lines of the ports so far
use Rattle.std.proofs.Common.{◌≡◌, string_bytes}
use Rattle.c25_unused_inputs.specs.Ports.{had_below}
use Rattle.c25_unused_inputs.proofs.ports.had_lines.Given as goal

abbrev pub invariant-loop-port : goal.invariant-loop-port
invariant-loop-port l = string_bytes l.text ≡ had_below l.had l.port
