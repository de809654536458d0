use Rattle.c25_move.proofs.Moving.{moved_all}
use Rattle.c25_move.proofs.source.move_source.Goals as goal

pub returns : goal.returns
returns c = moved_all _ _ _ c.args.source.now.text.now c.in_ok-named.field-0.now _ c.in_ok-named.ensures c.in_ok-lines.ensures.lines c.in_ok-lines.ensures.promises
