use Rattle.std.proofs.Common.{◌≤◌, ◌<◌, List, All, IfOk, IfSome, length, ap, sym, subst, ◌∙◌}
use Rattle.c25_cmd.specs.View.{command_data, placing_of}
use Rattle.c25_meaning_linking.specs.Command.{PlacingData}
use Rattle.c25_meaning_linking.specs.GoodMap.{placings_for, ranges_for, requests}
use Rattle.c25_meaning_linking.specs.GoodMap as good
use Rattle.c25_meaning_linking.specs.Place.{all_sections}
use Rattle.std.specs.Borrow.{Bor}
use Rattle.c25_module.specs.declared.parts.Section.{Section}
use Rattle.c25_place.specs.Outputs.{AreSmall, KnowsOutputs}
use Rattle.c25_place.specs.Placement.{IsPlacement}
use Rattle.c25_place.specs.Requests.{HasPages}
use Rattle.c25_place.specs.View.{requests_view, sections_view}
use Rattle.c25_place.specs.declared.requests.Request.{Request}
use Rattle.c25_place.proofs.Commanded.{pages_are}
use Rattle.c25_place.proofs.Listed.{unmapped}
use Rattle.c25_place.proofs.Bounded.{sizes_bounded}
use Rattle.c25_place.proofs.places.place_sections.Goals as goal

pub requests-requires : goal.requests-requires
requests-requires c =
    unmapped (λ (p : PlacingData). IfSome p.page (λ n. n ≤ 1)) placing_of c.placings_of.result.now
    (subst (λ (ps : List PlacingData). All (λ p. IfSome p.page (λ n. n ≤ 1)) ps) (sym c.placings_of.ensures) (pages_are (command_data c.args.command.now) c.requires))

pub place_all-requires-clause-sizes : goal.place_all-requires-clause-sizes
place_all-requires-clause-sizes c =
    sizes_bounded c.args.modules.now (placings_for (command_data c.args.command.now)) c.in_ok-sections.sections.items c.deref-3.result.now c.in_ok-sections.ensures.small c.in_ok-sections.ensures.sections
    (subst (λ (bs : List (Bor Section)). length bs < 18446744073709551616) c.deref.ensures.value c.deref.type_inv.0)
    (ap (λ (rs : List Request). requests_view c.args.modules.now rs) c.deref-3.ensures.value ∙ c.in_ok-list.ensures.requests c.args.modules.now knows (ap (λ (bs : List (Bor Section)). sections_view bs) c.deref-2.ensures.value ∙ c.in_ok-sections.ensures.sections) ∙ ap (λ (ps : List PlacingData). requests c.args.modules.now ps) c.placings_of.ensures)
  where
    knows : KnowsOutputs c.in_ok-outputs.outputs (all_sections c.args.modules.now)
    knows = subst (λ ss. KnowsOutputs c.in_ok-outputs.outputs ss) (ap (λ (bs : List (Bor Section)). sections_view bs) c.deref.ensures.value ∙ c.in_ok-sections.ensures.sections) c.in_ok-outputs.ensures

pub returns-clause-placed : goal.returns-clause-placed
returns-clause-placed c =
    subst (λ (rs : List good.Request). IfOk c.place_all.result (IsPlacement (ranges_for (command_data c.args.command.now)) rs))
    (ap (λ (rs : List Request). requests_view c.args.modules.now rs) c.deref-3.ensures.value ∙ c.in_ok-list.ensures.requests c.args.modules.now knows (ap (λ (bs : List (Bor Section)). sections_view bs) c.deref-2.ensures.value ∙ c.in_ok-sections.ensures.sections) ∙ ap (λ (ps : List PlacingData). requests c.args.modules.now ps) c.placings_of.ensures)
    (c.place_all.ensures.placed (ranges_for (command_data c.args.command.now)) c.args.modules.now c.in_ok-ranges.ensures.known c.in_ok-blocks.ensures)
  where
    knows : KnowsOutputs c.in_ok-outputs.outputs (all_sections c.args.modules.now)
    knows = subst (λ ss. KnowsOutputs c.in_ok-outputs.outputs ss) (ap (λ (bs : List (Bor Section)). sections_view bs) c.deref.ensures.value ∙ c.in_ok-sections.ensures.sections) c.in_ok-outputs.ensures

pub new-requires-clause-small : goal.new-requires-clause-small
new-requires-clause-small c = subst (λ (bs : List (Bor Section)). AreSmall bs) (sym c.deref.ensures.value) c.in_ok-sections.ensures.small

pub place_all-requires-clause-pages : goal.place_all-requires-clause-pages
place_all-requires-clause-pages c = subst (λ (rs : List Request). HasPages rs) (sym c.deref-3.ensures.value) c.in_ok-list.ensures.pages

pub place_all-requires-clause-ranges : goal.place_all-requires-clause-ranges
place_all-requires-clause-ranges c = c.in_ok-ranges.ensures.has
