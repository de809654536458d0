use Rattle.std.proofs.Common.{◌≡◌, Result}
use Rattle.c25_macro.specs.Expander.{left_of}
use Rattle.c25_macro.specs.Expanders.{expansion_of}
use Rattle.c25_meaning_language.specs.ExpansionFault.{ExpansionFault}
use Rattle.c25_meaning_assembly.specs.ModuleOfSource.{LinesSoFar}
use Rattle.c25_asm.specs.Coming.{Comes}
use Rattle.c25_asm.specs.View.{passed_of}
use Rattle.c25_asm.proofs.assembly.pass_rest.Given as goal

abbrev pub invariant-loop-line : goal.invariant-loop-line
invariant-loop-line l = record {
  coming : (meant : Result LinesSoFar ExpansionFault)
      → Comes l.fn.listed (expansion_of l.initial.expander).files (expansion_of l.initial.expander).name (expansion_of l.initial.expander).stage (passed_of l.initial.passed) meant
      → Comes l.fn.listed (expansion_of l.initial.expander).files (expansion_of l.initial.expander).name (expansion_of l.expander).stage (passed_of l.passed) meant;
  files : (expansion_of l.expander).files ≡ (expansion_of l.initial.expander).files;
  name : (expansion_of l.expander).name ≡ (expansion_of l.initial.expander).name;
}

abbrev pub decreases-loop-line : goal.decreases-loop-line
decreases-loop-line l = left_of (expansion_of l.expander).stage
