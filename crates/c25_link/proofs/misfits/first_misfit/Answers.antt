use Rattle.std.proofs.Common.{◌≡◌, List, Ok, All, ap, sym, subst, ◌∙◌}
use Rattle.c25_cmd.specs.View.{command_data}
use Rattle.c25_meaning_linking.specs.GoodMap.{IsGoodMap}
use Rattle.c25_meaning_linking.specs.Linking.{names_checked}
use Rattle.c25_link.specs.Bases.{HasRoom, KnowsBases}
use Rattle.c25_link.specs.Layout.{HasOnePart, RunApart}
use Rattle.c25_link.specs.Misfits.{first_misfit}
use Rattle.c25_link.proofs.Linked.{all_modules, within_pages, low_bases, has_room, has_one_part}
use Rattle.c25_place.specs.Placement.{IsWithin}
use Rattle.c25_place.specs.View.{places_view}
use Rattle.c25_place.specs.declared.placement.Place.{Place}
use Rattle.c25_link.proofs.misfits.first_misfit.Goals as goal

pub misfit_among-requires : goal.misfit_among-requires
misfit_among-requires c =
    let modules = c.args.modules.now in
    let command = command_data c.args.command.now in
    let items = c.in_ok-places.places.items in
    let good : IsGoodMap modules command (places_view items) = c.in_ok-places.ensures.placed in
    let within = within_pages items c.in_ok-places.ensures.within in
    let room : HasRoom modules (places_view items) = has_room modules command (places_view items) good within in
    let one : HasOnePart modules (places_view items) = has_one_part modules command (places_view items) c.are_modules.ensures.each good in
    let first = c.deref.ensures.value in
    let second = c.deref-2.ensures.value in
    let known : KnowsBases c.in_ok-bases.bases modules (places_view c.deref.result.now) = c.in_ok-bases.ensures (subst (λ (ps : List Place). HasRoom modules (places_view ps)) (sym first) room) in
    record {
      modules = c.are_modules.ensures.each;
      definitions = c.in_ok-definitions.ensures.found;
      bases = subst (λ (ps : List Place). KnowsBases c.in_ok-bases.bases modules (places_view ps)) (first ∙ sym second) known;
      room = subst (λ (ps : List Place). HasRoom modules (places_view ps)) (sym second) room;
      parts = subst (λ (ps : List Place). HasOnePart modules (places_view ps)) (sym second) one;
      runs = subst (λ (ps : List Place). RunApart modules (places_view ps)) (sym second) (c.instructions_run_apart.ensures modules command (places_view items) (all_modules modules c.are_modules.ensures.each) c.requires good);
      places = low_bases (places_view c.deref-2.result.now) (within_pages c.deref-2.result.now (subst (λ (ps : List Place). All IsWithin ps) (sym second) c.in_ok-places.ensures.within));
    }

pub returns : goal.returns
returns c =
    let modules = c.args.modules.now in
    let command = command_data c.args.command.now in
    let items = c.in_ok-places.places.items in
    let names : names_checked modules command.entry ≡ Ok tt = ap (names_checked modules) (sym c.entry_of.ensures) ∙ c.in_ok-definitions.ensures.checked in
    let told = c.misfit_among.ensures ∙ ap (λ (ps : List Place). first_misfit modules (places_view ps)) c.deref-2.ensures.value in
    (places_view items, names, c.in_ok-places.ensures.placed, told)
