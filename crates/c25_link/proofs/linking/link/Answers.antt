use Rattle.std.proofs.Common.{◌≡◌, ℕ, List, Ok, Option, All, ap, sym, subst, ◌∙◌}
use Rattle.std.specs.Option.{option_map}
use Rattle.c25_cmd.specs.View.{command_data}
use Rattle.c25_meaning_linking.specs.GoodMap.{IsGoodMap}
use Rattle.c25_meaning_linking.specs.Linking.{map_of, names_checked}
use Rattle.c25_meaning_linking.specs.MapText.{IsPrinted}
use Rattle.c25_link.specs.Bases.{HasRoom, KnowsBases}
use Rattle.c25_link.specs.Layout.{HasOnePart, RunApart}
use Rattle.c25_link.specs.Link.{LinksAt}
use Rattle.c25_link.proofs.Linked.{all_modules, within_pages, low_bases, has_room, has_one_part, links}
use Rattle.c25_place.specs.Placement.{IsWithin}
use Rattle.c25_place.specs.View.{places_view}
use Rattle.c25_place.specs.declared.placement.Place.{Place}
use Rattle.c25_link.proofs.linking.link.Goals as goal

pub linked_image-requires-clause-laid : goal.linked_image-requires-clause-laid
linked_image-requires-clause-laid c =
    let modules = c.args.modules.now in
    let command = command_data c.args.command.now in
    let items = c.in_ok-places.places.items in
    let good : IsGoodMap modules command (places_view items) = c.in_ok-places.ensures.placed in
    let within = within_pages items c.in_ok-places.ensures.within in
    let room : HasRoom modules (places_view items) = has_room modules command (places_view items) good within in
    let one : HasOnePart modules (places_view items) = has_one_part modules command (places_view items) c.are_modules.ensures.each good in
    let first = c.deref.ensures.value in
    let second = c.deref-2.ensures.value in
    let known : KnowsBases c.in_ok-bases.bases modules (places_view c.deref.result.now) = c.in_ok-bases.ensures (subst (λ (ps : List Place). HasRoom modules (places_view ps)) (sym first) room) in
    record {
      modules = c.are_modules.ensures.each;
      definitions = c.in_ok-definitions.ensures.found;
      bases = subst (λ (ps : List Place). KnowsBases c.in_ok-bases.bases modules (places_view ps)) (first ∙ sym second) known;
      room = subst (λ (ps : List Place). HasRoom modules (places_view ps)) (sym second) room;
      parts = subst (λ (ps : List Place). HasOnePart modules (places_view ps)) (sym second) one;
      runs = subst (λ (ps : List Place). RunApart modules (places_view ps)) (sym second) (c.instructions_run_apart.ensures modules command (places_view items) (all_modules modules c.are_modules.ensures.each) c.requires good);
      places = low_bases (places_view c.deref-2.result.now) (within_pages c.deref-2.result.now (subst (λ (ps : List Place). All IsWithin ps) (sym second) c.in_ok-places.ensures.within));
    }

pub linked_image-requires-clause-printed : goal.linked_image-requires-clause-printed
linked_image-requires-clause-printed c =
    let modules = c.args.modules.now in
    let command = command_data c.args.command.now in
    let items = c.in_ok-places.places.items in
    let names : names_checked modules command.entry ≡ Ok tt = ap (names_checked modules) (sym c.entry_of-entry.ensures) ∙ c.in_ok-definitions.ensures.checked in
    let printed : IsPrinted (map_of modules command.entry (places_view items)) = c.program_maps_have_their_form.ensures.printed modules command (places_view items) (all_modules modules c.are_modules.ensures.each) c.are_modules.ensures.few c.requires names c.in_ok-places.ensures.placed in
    let named : IsPrinted (map_of modules (option_map (λ name. name.now) c.entry_of-entry.result) (places_view items)) =
    subst (λ (e : Option (List ℕ)). IsPrinted (map_of modules e (places_view items))) (sym c.entry_of-entry.ensures) printed in
    subst (λ (ps : List Place). IsPrinted (map_of modules (option_map (λ name. name.now) c.entry_of-entry.result) (places_view ps))) (sym c.deref-2.ensures.value) named

pub returns : goal.returns
returns c =
    let modules = c.args.modules.now in
    let command = command_data c.args.command.now in
    let items = c.in_ok-places.places.items in
    let names : names_checked modules command.entry ≡ Ok tt = ap (names_checked modules) (sym c.entry_of-entry.ensures) ∙ c.in_ok-definitions.ensures.checked in
    let here : LinksAt modules (places_view items) (option_map (λ name. name.now) c.entry_of-entry.result) c.linked_image.result =
    subst (λ (ps : List Place). LinksAt modules (places_view ps) (option_map (λ name. name.now) c.entry_of-entry.result) c.linked_image.result) c.deref-2.ensures.value c.linked_image.ensures in
    links modules command (places_view items) c.linked_image.result names c.in_ok-places.ensures.placed
    (subst (λ (e : Option (List ℕ)). LinksAt modules (places_view items) e c.linked_image.result) c.entry_of-entry.ensures here)
