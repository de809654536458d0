use Rattle.std.proofs.Common.{ℕ}
use Rattle.c25_meaning_expansion.specs.ExpansionBounds.{IsBounded}
use Rattle.c25_meaning_expansion.specs.ExpansionRuns.{Leads, weight}
use Rattle.c25_macro.specs.Config.{config}
use Rattle.c25_macro.proofs.state.ExpanderState.next_or_leave_out.Given as goal

abbrev pub invariant-loop-row : goal.invariant-loop-row
invariant-loop-row l = record {
  bounded : IsBounded (config l.self);
  leads : (n : ℕ) × Leads l.files l.symbols n (config l.fn.self) (config l.self);
}

abbrev pub decreases-loop-row : goal.decreases-loop-row
decreases-loop-row l = weight (config l.self)
