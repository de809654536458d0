use Rattle.std.proofs.Common.{◌++◌, List, ap, ◌∙◌, string_bytes}
use Rattle.std.specs.List.{flat_map}
use Rattle.std.proofs.lemmas.List.{take_all}
use Rattle.c25_layout.specs.SourceText.{row_text}
use Rattle.c25_layout.specs.declared.layout.Row.{Row}
use Rattle.c25_layout.proofs.texts.push_rows.Goals as goal

pub returns : goal.returns
returns c =
    c.loop-row.invariant
    ∙ ap (λ (xs : List Row). string_bytes c.args.text.now ++ flat_map row_text xs) (take_all c.loop-row.row-index c.args.rows.now c.loop-row-test.false)
