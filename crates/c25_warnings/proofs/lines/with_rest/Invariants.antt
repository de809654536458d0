use Rattle.std.proofs.Common.{◌≡◌, Option}
use Rattle.c25_macro.specs.Expander.{left_of}
use Rattle.c25_macro.specs.Expanders.{expansion_of}
use Rattle.c25_warnings.specs.Coming.{StillComes, source_of}
use Rattle.c25_warnings.specs.SourceLines.{SourceLines}
use Rattle.c25_warnings.proofs.lines.with_rest.Given as goal

abbrev pub invariant-loop-line : goal.invariant-loop-line
invariant-loop-line l = record {
  coming : (meant : Option SourceLines)
      → StillComes (expansion_of l.initial.expander).files (expansion_of l.initial.expander).stage (source_of l.initial.passed) meant
      → StillComes (expansion_of l.initial.expander).files (expansion_of l.expander).stage (source_of l.passed) meant;
  files : (expansion_of l.expander).files ≡ (expansion_of l.initial.expander).files;
  name : (expansion_of l.expander).name ≡ (expansion_of l.initial.expander).name;
}

abbrev pub decreases-loop-line : goal.decreases-loop-line
decreases-loop-line l = left_of (expansion_of l.expander).stage
