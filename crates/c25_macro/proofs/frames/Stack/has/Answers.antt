use Rattle.std.proofs.Common.{sym, ◌∙◌}
use Rattle.c25_macro.specs.SourceFrames.{test_of}
use Rattle.c25_macro.proofs.Lists.{any_scopes}
use Rattle.c25_macro.proofs.frames.Stack.has.Goals as goal

pub returns : goal.returns
returns c =
    let e = any_scopes (test_of c.args.block) c.self.inside.sources.items in
    rw (← c.self.view_is) (rw c.as_slice.ensures.value at c.has.ensures ∙ sym e)
