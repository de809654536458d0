use Rattle.std.proofs.Common.{rules}
use Rattle.c25_run.proofs.OutputLines.{two_behind}
use Rattle.c25_run.proofs.lines.push_port.Goals as goal

pub returns-then-port-lt100-clause-bytes : goal.returns-then-port-lt100-clause-bytes
returns-then-port-lt100-clause-bytes c =
    two_behind c.args.lines.now.items c.push-then-port-lt100.new.self.items c.push-then-port-lt100-2.new.self.items c.args.port (search rules) c.if-port-lt100.true (search rules) (search rules)
