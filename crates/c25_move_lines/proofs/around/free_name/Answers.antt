use Rattle.std.proofs.Common.{string_bytes, rules}
use Rattle.std.specs.Str.Iter.{HasSubslice}
use Rattle.c25_move_lines.proofs.Names.{grows_long, less_left}
use Rattle.c25_move_lines.proofs.around.free_name.Goals as goal

pub loop-free-smaller : goal.loop-free-smaller
loop-free-smaller c =
    let there : HasSubslice c.args.source.now (string_bytes c.loop-free.free) = search rules in
    less_left c.args.source.now (string_bytes c.loop-free.free) (string_bytes c.push_underscore.new.name) there c.in_ok-push_underscore.ensures

pub loop-free-preserved : goal.loop-free-preserved
loop-free-preserved c =
    let there : HasSubslice c.args.source.now (string_bytes c.loop-free.free) = search rules in
    grows_long c.args.source.now c.args.name.now (string_bytes c.loop-free.free) (string_bytes c.push_underscore.new.name) c.loop-free.invariant there c.in_ok-push_underscore.ensures
