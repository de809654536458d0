use Rattle.c25_moving.proofs.MadeFrom.{compared_made}
use Rattle.c25_moving.proofs.making.comparison.Goals as goal

pub returns-in_ok-names-in-Some : goal.returns-in_ok-names-in-Some
returns-in_ok-names-in-Some c =
    compared_made c.args.program.files.now c.args.program.sources c.args.program.command.now c.args.old c.in-Some.old c.in_ok-texts-in-Some.texts c.in_ok-names-in-Some.names.items _ _ c.compare.result
    c.compare.ensures c.in-Some.is c.in_ok-texts-in-Some.ensures c.in_ok-names-in-Some.ensures c.truncate.ensures.items c.as_slice.ensures.value
