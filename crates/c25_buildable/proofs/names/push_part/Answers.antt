use Rattle.std.proofs.Common.{◌++◌, ◌≤◌, List, length, ap, ◌∙◌, arith}
use Rattle.std.specs.List.{flat_map}
use Rattle.std.proofs.lemmas.List.{take_all}
use Rattle.c25_buildable.specs.Places.{places_view, row_names}
use Rattle.c25_layout.specs.declared.layout.Row.{Row}
use Rattle.c25_buildable.proofs.names.push_part.Goals as goal

pub returns : goal.returns
returns c =
    let same = c.deref-row-items.ensures.value in
    let past : length c.args.part.now.rows.items ≤ c.loop-row.row-index = omega (arith, ap length same, c.loop-row-test.false) in
    c.loop-row.invariant
    ∙ ap (λ (xs : List Row). places_view c.args.places.now.items ++ flat_map (row_names c.args.part.now) xs) (take_all c.loop-row.row-index c.args.part.now.rows.items past)
