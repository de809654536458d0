use Rattle.std.proofs.Common.{◌++◌, ◌∙◌, ap, string_bytes}
use Rattle.c25_move.proofs.NewLines.{rows_go_on}
use Rattle.c25_move.proofs.source.push_rows.Goals as goal

pub loop-place-preserved : goal.loop-place-preserved
loop-place-preserved c =
    rows_go_on c.args.end _ c.args.lines.now c.loop-place.place _ _ _ _ c.loop-place-test.true c.after_line.ensures
    (c.in_ok-push_row.ensures ∙ ap (λ l. (string_bytes c.loop-place.text ++ l) ++ c.after_line.result.now) (c.as_str.ensures.value ∙ ap string_bytes c.index-lines-place.is))
    c.loop-place.invariant
