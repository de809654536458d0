use Rattle.c25_move_files.proofs.Each.{are_old_files}
use Rattle.c25_move_files.proofs.Refusing.{both_refused, command_refused, unread_refused}
use Rattle.c25_move_files.proofs.gathered.gathered_with.Goals as goal

pub returns-in_err-sources-clause-refused : goal.returns-in_err-sources-clause-refused
returns-in_err-sources-clause-refused g c =
    unread_refused (g.D.Disk.bytes_of c.args.disk.now) c.args.asked c.from_residual.result c.in_err-sources.field-0.0 c.in_err-sources.ensures.refused c.from_residual.ensures.1

pub returns-in_err-gathered-clause-refused : goal.returns-in_err-gathered-clause-refused
returns-in_err-gathered-clause-refused g c =
    both_refused (g.D.Disk.bytes_of c.args.disk.now) c.args.asked c.in_ok-sources.sources.items c.from_residual-in_err-gathered.result c.in_err-gathered.field-0.0
    c.in_ok-sources.ensures.names c.in_ok-sources.ensures.read c.in_err-gathered.ensures.refused c.from_residual-in_err-gathered.ensures.1

pub returns-in_err-command-clause-refused : goal.returns-in_err-command-clause-refused
returns-in_err-command-clause-refused g c =
    command_refused (g.D.Disk.bytes_of c.args.disk.now) c.args.asked c.from_residual-in_err-command.result c.in_err-command.field-0.0
    c.in_err-command.ensures.refused c.from_residual-in_err-command.ensures.1

pub returns : goal.returns
returns g c = record {
  gathered = are_old_files (g.D.Disk.bytes_of c.args.disk.now) c.args.asked c.in_ok-sources.sources.items _ c.in_ok-sources.ensures.names c.in_ok-sources.ensures.read c.in_ok-gathered.ensures.files c.in_ok-gathered.ensures.page c.in_ok-gathered.ensures.count c.in_ok-gathered.ensures.style;
  refused = tt;
}
