use Rattle.std.proofs.Common.{◌≡◌, false, rules}
use Rattle.c25_meaning_expansion.specs.ExpansionRuns.{is_closed}
use Rattle.c25_macro.specs.Config.{config}
use Rattle.c25_macro.proofs.Nexts.{ends_open}
use Rattle.c25_macro.proofs.state.ExpanderState.end_source.Goals as goal

pub returns-then-not-is_empty : goal.returns-then-not-is_empty
returns-then-not-is_empty c = λ files s.
    let opened : is_closed (config c.args.self.now) ≡ false = search rules in
    let told = ends_open files s c.args.self.now.below (config c.args.self.now) opened in
    rw c.fault.ensures (rw c.requires.ended (rw c.requires.ended at told))
