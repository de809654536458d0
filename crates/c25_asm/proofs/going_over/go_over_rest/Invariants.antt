use Rattle.std.proofs.Common.{◌≡◌}
use Rattle.c25_macro.specs.NextLines.{weight_of}
use Rattle.c25_macro.specs.Expanders.{expansion_of}
use Rattle.c25_meaning_assembly.specs.AllFaults.{LinesGoneOver}
use Rattle.c25_asm.specs.GoneOver.{HasRoom, StillComes, gone_over_of}
use Rattle.c25_asm.proofs.going_over.go_over_rest.Given as goal

abbrev pub invariant-loop-line : goal.invariant-loop-line
invariant-loop-line l = record {
  coming : (meant : LinesGoneOver)
      → StillComes (expansion_of l.initial.expander).files (expansion_of l.initial.expander).name (expansion_of l.initial.expander).stage (gone_over_of l.initial.lines) meant
      → StillComes (expansion_of l.initial.expander).files (expansion_of l.initial.expander).name (expansion_of l.expander).stage (gone_over_of l.lines) meant;
  room : HasRoom (gone_over_of l.lines);
  files : (expansion_of l.expander).files ≡ (expansion_of l.initial.expander).files;
  name : (expansion_of l.expander).name ≡ (expansion_of l.initial.expander).name;
}

abbrev pub decreases-loop-line : goal.decreases-loop-line
decreases-loop-line l = weight_of (expansion_of l.expander).stage
