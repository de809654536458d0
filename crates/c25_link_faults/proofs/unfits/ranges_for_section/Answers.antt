use Rattle.std.proofs.Common.{List, Option, ap, map, refl, sym, ◌∙◌}
use Rattle.std.specs.Prelude.{unwrap_or}
use Rattle.std.proofs.lemmas.Result.{IfOk-weaker}
use Rattle.c25_cmd.specs.View.{command_data, placing_of}
use Rattle.c25_meaning_linking.specs.Command.{PlacingData}
use Rattle.c25_place.specs.Missing.{placing_named}
use Rattle.c25_place.specs.Requests.{unlisted}
use Rattle.c25_link_faults.specs.Overlaps.{span_data}
use Rattle.c25_link_faults.specs.Unfits.{request_by}
use Rattle.c25_link_faults.specs.View.{ranges_view}
use Rattle.c25_link_faults.specs.declared.ranges.Range.{Range}
use Rattle.c25_link_faults.proofs.Usable.{spans_for}
use Rattle.c25_link_faults.proofs.unfits.ranges_for_section.Goals as goal

pub returns-in-Some : goal.returns-in-Some
returns-in-Some c =
    let name = c.args.name.now in
    let modules = c.args.modules.now in
    let command = command_data c.args.command.now in
    let p = placing_of c.in-Some.placing.now in
    let ranges = c.deref.result.now in
    let are = ap (λ (rs : List Range). ranges_view rs) c.deref.ensures.value ∙ c.in_ok-ranges.ensures in
    let placed = ap (λ (o : Option PlacingData). unwrap_or o (unlisted name)) (c.in-Some.ensures ∙ ap (placing_named name) c.placings_of.ensures) in
    IfOk-weaker c.ranges_by.result _ _
    (λ list is. spans_for command modules name p (ranges_view ranges) (map span_data list.items) are placed is)
    (c.ranges_by.ensures (request_by modules name p) refl refl (sym c.in_ok-initialised.ensures))

pub returns : goal.returns
returns c =
    let name = c.args.name.now in
    let modules = c.args.modules.now in
    let command = command_data c.args.command.now in
    let p = unlisted name in
    let ranges = c.deref-in-None.result.now in
    let are = ap (λ (rs : List Range). ranges_view rs) c.deref-in-None.ensures.value ∙ c.in_ok-ranges.ensures in
    let placed = ap (λ (o : Option PlacingData). unwrap_or o (unlisted name)) (c.in-None.ensures ∙ ap (placing_named name) c.placings_of.ensures) in
    IfOk-weaker c.ranges_by-in-None.result _ _
    (λ list is. spans_for command modules name p (ranges_view ranges) (map span_data list.items) are placed is)
    (c.ranges_by-in-None.ensures (request_by modules name p) refl refl (sym c.in_ok-initialised.ensures))
