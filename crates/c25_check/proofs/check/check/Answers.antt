use Rattle.std.proofs.Common.{map, string_bytes}
use Rattle.c25_check.proofs.Found.{warned}
use Rattle.c25_check.proofs.check.check.Goals as goal

pub returns-in-Ok : goal.returns-in-Ok
returns-in-Ok c =
    let linked = c.in_ok-linked.ensures in
    warned c.args.showing c.args.files.now (map string_bytes c.args.sources.now) c.args.command.now c.in_ok-made.field-0 c.in_ok-linked.linked c.in-Ok.checked c.as_slice-modules.result.now c.in_ok-made.ensures c.as_slice-modules.ensures.value linked (c.in-Ok.ensures linked.under.command linked.under.read linked.under.program)
