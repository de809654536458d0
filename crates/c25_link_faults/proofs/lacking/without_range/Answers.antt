use Rattle.std.proofs.Common.{ℕ, List, true, ap, ◌++◌, ◌∙◌, Bor}
use Rattle.c25_cmd.specs.View.{command_data, placings_of}
use Rattle.c25_link_faults.specs.View.{lacking_listed, names_view, ranges_view}
use Rattle.c25_link_faults.proofs.Lacked.{joined}
use Rattle.c25_link_faults.proofs.lacking.without_range.Goals as goal

pub returns : goal.returns
returns c =
    let modules = c.args.modules.now in
    let ranges = ranges_view c.in_ok-ranges_for.field-0.items in
    let placings = placings_of c.placings_of-placings.result.now in
    let all = c.in_ok-all_names.ensures in
    let loaded = c.in_ok-all_loaded.ensures in
    joined modules (command_data c.args.command.now) ranges placings (names_view c.list.result.now) (names_view c.push_listed.new.names.items) (names_view c.push_listed-2.new.names.items) (names_view c.push_unlisted.new.names.items)
    c.in_ok-ranges_for.ensures c.placings_of-placings.ensures (c.list.ensures ∙ c.in_ok-unlisted.ensures.list)
    (c.in_ok-push_listed.ensures modules all loaded ∙ ap (λ (ns : List (Bor (List ℕ))). names_view ns ++ lacking_listed true modules ranges placings) c.new-names.ensures.items)
    (c.in_ok-push_listed-2.ensures modules all loaded)
    (c.in_ok-push_unlisted.ensures modules loaded)
