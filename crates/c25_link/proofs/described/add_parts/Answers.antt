use Rattle.std.proofs.Common.{◌≡◌, ◌<◌, List, Some, length, get_or, ap, ◌∙◌, refl, arith}
use Rattle.std.specs.List.{slice_get}
use Rattle.std.specs.Option.{option_map}
use Rattle.std.proofs.lemmas.Option.{slice_get_read, slice_get-map}
use Rattle.c25_module.specs.View.{contents, section_data, sections_data}
use Rattle.c25_module.specs.declared.parts.Section.{Section}
use Rattle.c25_link.specs.Described.{parts_named}
use Rattle.c25_link.specs.Layout.{places_in}
use Rattle.c25_link.proofs.Named.{parts_next, part_made}
use Rattle.c25_link.proofs.Parted.{small_section}
use Rattle.c25_link.proofs.described.add_parts.Goals as goal

pub body_size-requires : goal.body_size-requires
body_size-requires c =
    let same = c.deref-section-items.ensures.value in
    small_section c.args.owner.now c.loop-index.index c.section-item.result (c.requires.laid.modules c.args.number (contents c.args.owner.now) c.requires.owner) (omega (arith, ap length same))
    (c.section-item.is ∙ ap (λ (xs : List Section). get_or xs c.loop-index.index c.section-item.result) same)

pub loop-index-preserved : goal.loop-index-preserved
loop-index-preserved c = λ name.
    let same = c.deref-section-items.ensures.value in
    let modules = c.args.layout.now.modules.now in
    let places = places_in c.args.layout.now in
    let items = c.args.owner.now.sections.items in
    let i = c.loop-index.index in
    let s = c.section-item.result in
    let lt : i < length items = omega (arith, ap length same) in
    let at : s ≡ get_or items i s = c.section-item.is ∙ ap (λ (xs : List Section). get_or xs i s) same in
    let there : slice_get (sections_data items) i ≡ Some (section_data s) = slice_get-map section_data items i ∙ ap (option_map section_data) (slice_get_read items (length items) i s refl lt at) in
    parts_next modules places c.args.number name items i s c.as_str.result.now (parts_named c.args.found.now name) (parts_named c.loop-index.found name) (parts_named c.push_part.new.found name) _ lt at c.as_str.ensures.value
    (part_made modules places c.args.number (contents c.args.owner.now) i (section_data s) c.get.result.base c.body_size.result there (c.get.ensures.base modules places (contents c.args.owner.now) c.requires.laid.bases c.requires.owner) c.body_size.ensures)
    (c.loop-index.invariant name) (c.in_ok-push_part.ensures name)
