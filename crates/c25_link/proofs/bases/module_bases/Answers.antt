use Rattle.std.proofs.Common.{◌≡◌, ◌<◌, ◌≤◌, ap, subst, ◌∙◌, ◌++◌, take, length, get_or, List, arith}
use Rattle.std.proofs.lemmas.List.{length-map}
use Rattle.c25_meaning_objects.specs.Module.{SectionData}
use Rattle.c25_meaning_linking.specs.Place.{all_sections}
use Rattle.c25_module.specs.View.{contents, section_data, sections_data}
use Rattle.c25_module.specs.declared.parts.Section.{Section}
use Rattle.c25_link.specs.Bases.{KnowsNext, part_of, parts_of}
use Rattle.c25_link.proofs.Parted.{small_section, part_there, part_kept, sections_next, items_more, items_all, one_longer, module_whole}
use Rattle.c25_link.proofs.bases.module_bases.Goals as goal

pub take-requires : goal.take-requires
take-requires c =
    let same = c.deref-section-items.ensures.value in
    small_section c.args.owner.now c.loop-section.section-index c.section-item.result c.requires (omega (arith, ap length same)) (c.section-item.is ∙ ap (λ (xs : List Section). get_or xs c.loop-section.section-index c.section-item.result) same)

pub loop-section-preserved : goal.loop-section-preserved
loop-section-preserved c =
    let same = c.deref-section-items.ensures.value in
    let items = c.args.owner.now.sections.items in
    let i = c.loop-section.section-index in
    let s = c.section-item.result in
    let lt : i < length items = omega (arith, ap length same) in
    let at : s ≡ get_or items i s = c.section-item.is ∙ ap (λ (xs : List Section). get_or xs i s) same in (
      λ modules places number room is knows.
          let so_far = c.loop-section.invariant.0 modules places number room is knows in
          let k = part_there modules places number c.args.owner.now i s c.requires room is lt at in
          let before : List SectionData = all_sections (take number modules) in
          let own : List SectionData = sections_data (take i items) in (
            subst (λ (ss : List SectionData). KnowsNext c.take.new.self places ss) (sections_next before items i s lt at) (c.in_ok-take.ensures.next places (before ++ own) k.place so_far.0 k.has),
            items_more c.loop-section.list.items c.push.new.self.items c.in_ok-take.field-0 i (parts_of modules places number (contents c.args.owner.now)) c.in_ok-push.ensures.items c.loop-section.invariant.1 so_far.1
                (part_kept modules places number c.args.owner.now i s c.in_ok-take.field-0 k (c.in_ok-take.ensures.part places (before ++ own) k.place so_far.0 k.has)),
          ),
      one_longer c.loop-section.list.items c.push.new.self.items c.in_ok-take.field-0 i c.in_ok-push.ensures.items c.loop-section.invariant.1,
    )

pub returns-clause-next : goal.returns-clause-next
returns-clause-next c = λ modules places number room is knows.
    let so_far = c.loop-section.invariant.0 modules places number room is knows in
    let le : length c.args.owner.now.sections.items ≤ c.loop-section.section-index = omega (arith, ap length c.deref-section-items.ensures.value) in
    subst (λ (ss : List SectionData). KnowsNext c.loop-section.next places ss) (module_whole modules number c.args.owner.now c.loop-section.section-index is le) so_far.0

pub returns-clause-parts : goal.returns-clause-parts
returns-clause-parts c = λ modules places number room is knows.
    let so_far = c.loop-section.invariant.0 modules places number room is knows in
    let sections : List SectionData = sections_data c.args.owner.now.sections.items in
    let size : length sections ≡ length c.args.owner.now.sections.items = length-map c.args.owner.now.sections.items section_data in
    let read = ap length c.deref-section-items.ensures.value in
    items_all (part_of modules places number) c.loop-section.list.items sections c.loop-section.section-index (omega arith) c.loop-section.invariant.1 (omega (arith, c.loop-section.auto.section-index-end)) so_far.1
