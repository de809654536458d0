use Rattle.std.proofs.Common.{◌≡◌, ◌-◌, [], ◌∷◌, ◌++◌, Err, ap, map, refl, subst, sym, ◌∙◌}
use Rattle.c25_meaning_expansion.specs.Expansion.{Config, Read, Reading, Rewriting}
use Rattle.c25_meaning_expansion.specs.ExpansionRules.{directive_in}
use Rattle.c25_meaning_expansion.specs.ExpansionRuns.{front, rewrite}
use Rattle.c25_meaning_language.specs.Line.{first_word}
use Rattle.c25_meaning_common.specs.declared.failure.Failure.TheVariants.{Fault}
use Rattle.c25_meaning_language.specs.declared.statement.FaultKind.TheVariants as fault
use Rattle.c25_macro.specs.Config.{config, Follows}
use Rattle.c25_macro.specs.SourceFrames.{after}
use Rattle.c25_macro.specs.declared.state.Mode.TheVariants as modes
use Rattle.c25_macro.proofs.LeavingOut.{end_left_out, last_leaves, line_leaves, read_left_out, reads, too_many, rewrites}
use Rattle.c25_macro.proofs.state.ExpanderState.read_or_leave_out.Goals as goal

pub returns-in-Ok-Some : goal.returns-in-Ok-Some
returns-in-Ok-Some c =
    let files = c.args.files.now in
    let s = c.args.symbols.now in
    let before = c.args.self.now in
    let behind = c.next_row.new.self in
    let old = config before in
    let here = config behind in
    let is = c.in-Ok-Some.ensures in
    let row = c.in-Ok-Some.row in
    let next = rw c.in-Ok-Some.field-0-is at is.next in
    let rest = map Read behind.top.lines.rest ++ after before.below in
    let lines : old.lines ≡ Read row ∷ rest = ap (λ rows. map Read rows ++ after before.below) next.0 in
    let mode : old.mode ≡ Reading = rw c.requires.reading refl in
    let same : here ≡ record old { lines = rest; mode = Reading; left = old.left - 1 } = rw (is.frame, is.below, is.mode, c.requires.reading, is.names, next.3) refl in
    let found : c.directive_in-directive.result ≡ directive_in (first_word row.text) = rw c.text.ensures at c.directive_in-directive.ensures in
    line_leaves (rewrite files s old) old here (config c.read_line-answer.new.self) (config c.or_leave_out.new.self) c.directive_in-directive.result c.read_line-answer.result c.or_leave_out.result
    (subst (λ (r : Rewriting). Follows r c.read_line-answer.result (config c.read_line-answer.new.self)) (sym (reads files s old here row rest mode lines next.2 same)) c.read_line-answer.ensures.answer)
    c.read_line-answer.ensures.kept c.or_leave_out.ensures (read_left_out old here row rest c.directive_in-directive.result mode lines same found)

pub returns-in-Ok-None : goal.returns-in-Ok-None
returns-in-Ok-None c =
    let files = c.args.files.now in
    let s = c.args.symbols.now in
    let before = c.args.self.now in
    let behind = c.next_row.new.self in
    let old = config before in
    let new = config c.end_source.new.self in
    let is = c.in-Ok-None.ensures in
    let next = rw c.in-Ok-None.field-0-is at is.next in
    let mode : old.mode ≡ Reading = rw c.requires.reading refl in
    let same : config behind ≡ old = rw (next.0, next.1, is.frame, is.below, is.mode, c.requires.reading, is.names, next.2) refl in
    let lines : old.lines ≡ after before.below = ap (λ rows. map Read rows ++ after before.below) next.0 in
    let front_follows = subst (λ (x : Config). Follows (front files s x.lines x) c.end_source.result new) same (c.end_source.ensures files s) in
    last_leaves (rewrite files s old) old new c.end_source.result c.last.result
    (subst (λ (r : Rewriting). Follows r c.end_source.result new) (sym (rewrites files s old mode)) front_follows) c.last.ensures (end_left_out old before.below mode lines)

pub returns-in-Err : goal.returns-in-Err
returns-in-Err c =
    let files = c.args.files.now in
    let s = c.args.symbols.now in
    let before = c.args.self.now in
    let old = config before in
    let next = rw c.in-Err.is at c.next_row.ensures.next in
    let mode : old.mode ≡ Reading = rw c.requires.reading refl in
    let rest = map Read next.1 ++ after before.below in
    too_many files s old (config c.next_row.new.self) next.0 rest c.in-Err.failure c.last-in-Err.result mode (ap (λ rows. map Read rows ++ after before.below) next.2) next.3 next.4 c.last-in-Err.ensures
