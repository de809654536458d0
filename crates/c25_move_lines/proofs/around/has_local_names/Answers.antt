use Rattle.std.proofs.Common.{rules}
use Rattle.std.specs.Str.Iter.{HasSubslice}
use Rattle.c25_move_lines.specs.LocalLabels.{beginning}
use Rattle.c25_move_lines.proofs.Names.{one_name_less}
use Rattle.c25_move_lines.proofs.around.has_local_names.Goals as goal

pub loop-digit-preserved : goal.loop-digit-preserved
loop-digit-preserved c =
    let none : ¬ (HasSubslice c.args.text.now (beginning c.loop-digit.digit)) = search rules in
    one_name_less c.args.text.now c.loop-digit.digit c.loop-digit.invariant none
