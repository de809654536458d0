use Rattle.std.proofs.Common.{◌≡◌, length}
use Rattle.c25_meaning_expansion.specs.Expansion as exp
use Rattle.c25_macro.specs.Config.{config}
use Rattle.c25_macro.specs.SourceFrames.{test_of}
use Rattle.c25_macro.specs.declared.state.Mode.TheVariants as modes
use Rattle.c25_macro.proofs.state.ExpanderState.leave.Given as goal

abbrev pub invariant-loop-source : goal.invariant-loop-source
invariant-loop-source l = record {
  reading : l.self.mode ≡ modes.Reading;
  same : exp.left_through (test_of l.block) (config l.self).lines (config l.self).frame (config l.self).outer (config l.self).names (config l.fn.self)
      ≡ exp.left_through (test_of l.block) (config l.fn.self).lines (config l.fn.self).frame (config l.fn.self).outer (config l.fn.self).names (config l.fn.self);
  rest : config l.self ≡ record (config l.fn.self) { lines = (config l.self).lines; frame = (config l.self).frame; outer = (config l.self).outer; names = (config l.self).names };
}

abbrev pub decreases-loop-source : goal.decreases-loop-source
decreases-loop-source l = length l.self.below
