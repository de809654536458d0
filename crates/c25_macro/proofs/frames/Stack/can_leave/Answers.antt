use Rattle.std.proofs.Common.{sym}
use Rattle.c25_macro.specs.SourceFrames.{kind_of, test_of}
use Rattle.c25_macro.proofs.Leaving.{inside}
use Rattle.c25_macro.proofs.frames.Stack.can_leave.Goals as goal

pub returns-else-is : goal.returns-else-is
returns-else-is c =
    inside (test_of c.args.block) (kind_of c.args.kind.now) c.args.self.now c.as_slice.result.now c.self.inside.sources.items c.is.result c.has.result c.in-len1-up.len_at_least
    c.as_slice.ensures.value (sym c.self.view_is) c.is.ensures c.if-is.false c.has.ensures
