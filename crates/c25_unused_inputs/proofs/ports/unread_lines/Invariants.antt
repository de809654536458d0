-- the lines of the ports so far
use Rattle.std.proofs.Common.{◌≡◌, string_bytes}
use Rattle.c25_unused_inputs.specs.Ports.{unread_below}
use Rattle.c25_unused_inputs.proofs.ports.unread_lines.Given as goal

abbrev pub invariant-loop-port : goal.invariant-loop-port
invariant-loop-port l = string_bytes l.text ≡ unread_below l.had l.left l.port
