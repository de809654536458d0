use Rattle.std.proofs.Common.{◌≡◌, [], refl, subst}
use Rattle.c25_meaning_expansion.specs.Expansion.{Config}
use Rattle.c25_meaning_expansion.specs.ExpansionRuns as runs
use Rattle.c25_macro.specs.Config.{config, Follows}
use Rattle.c25_macro.proofs.state.ExpanderState.read.Goals as goal

pub returns-in-Ok-None : goal.returns-in-Ok-None
returns-in-Ok-None c =
    let old = c.args.self.now in
    let new = c.next_row.new.self in
    let is = c.in-Ok-None.ensures in
    let next = rw c.in-Ok-None.field-0-is at is.next in
    let ended : old.top.lines.rest ≡ [] = next.0 in
    let same : config new ≡ config old = rw (ended, next.1, is.frame, is.below, is.mode, c.requires.reading, is.names, next.2) refl in
    subst (λ (x : Config). Follows (runs.front c.args.files.now c.args.symbols.now x.lines x) c.end_source.result (config c.end_source.new.self)) same (c.end_source.ensures c.args.files.now c.args.symbols.now)
