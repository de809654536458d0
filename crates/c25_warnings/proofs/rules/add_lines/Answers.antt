use Rattle.std.proofs.Common.{◌+◌, List, ◌∷◌, drop, ap, sym, ◌∙◌}
use Rattle.std.proofs.lemmas.List.{drop_more}
use Rattle.c25_line_warnings.specs.Reach.{after}
use Rattle.c25_line_warnings.specs.Said.{spelling_in}
use Rattle.c25_line_warnings.specs.View.{line_of, lines_of}
use Rattle.c25_line_warnings.specs.declared.source_line.SourceLine.{SourceLine}
use Rattle.c25_warnings.specs.View.{known_view}
use Rattle.c25_warnings.specs.Warnings.{each_once, of_lines}
use Rattle.c25_warnings.proofs.Once.{line_more}
use Rattle.c25_warnings.proofs.rules.add_lines.Goals as goal

pub loop-line-preserved : goal.loop-line-preserved
loop-line-preserved c =
    let k = known_view c.args.known in
    let ls = c.args.lines.now in
    let i = c.loop-line.line-index in
    let l = c.line-item.result in
    let b = c.loop-line.before in
    let old = c.loop-line.reports in
    let goes_on = c.after-before.ensures ∙ ap (after b (line_of l)) (c.spelling_of.ensures ∙ ap spelling_in c.as_str.ensures.value) in
    line_more k b c.after-before.result old c.add_line.new.reports (line_of l) (lines_of (drop (i + 1) ls)) c.in_ok-add_line.ensures goes_on
    ∙ ap (λ (m : SourceLine). each_once old (of_lines k b (lines_of (m ∷ drop (i + 1) ls)))) c.line-item.is
    ∙ ap (λ (ms : List SourceLine). each_once old (of_lines k b (lines_of ms))) (sym (drop_more ls i l c.loop-line-test.true))
    ∙ c.loop-line.invariant
