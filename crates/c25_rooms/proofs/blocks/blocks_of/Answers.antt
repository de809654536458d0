use Rattle.std.proofs.Common.{◌≤◌, ◌+◌, ◌++◌, All, List, ap, arith, subst, sym, take, ◌∙◌}
use Rattle.std.specs.List.{sum_by}
use Rattle.c25_link_faults.proofs.Spanned.{module_more}
use Rattle.c25_meaning_linking.specs.Place.{BlockData, blocks_behind, by_modules, part_blocks, size_for, size_of_parts}
use Rattle.c25_meaning_linking.proofs.ByModules.{by_modules_more}
use Rattle.c25_meaning_linking.proofs.Parts.{sizes_within}
use Rattle.c25_meaning_objects.specs.Module.{Contents, SectionData, body_size}
use Rattle.c25_module.specs.View.{body_data, contents, sections_data}
use Rattle.c25_module.specs.declared.parts.Section.{Section}
use Rattle.c25_place.proofs.Listed.{small_sections}
use Rattle.c25_rooms.proofs.blocks.blocks_of.Goals as goal

pub push_blocks-requires : goal.push_blocks-requires
push_blocks-requires c =
    let within = sizes_within c.args.name.now c.args.modules.now c.loop-module.module-index in
    omega (arith, within, c.loop-module.invariant.words, c.requires)

pub words_with-words-requires-clause-small : goal.words_with-words-requires-clause-small
words_with-words-requires-clause-small c =
    subst (λ (ss : List Section). All (λ s. body_size (body_data s.body) ≤ 65536) ss) (sym c.deref.ensures.value)
    (small_sections c.module-item.result c.parts-in-loop-module.result.now.sections.items c.parts-in-loop-module.ensures.spelled (ap (λ (m : Contents). m.sections) c.parts-in-loop-module.ensures.kept))

pub words_with-words-requires-clause-sum : goal.words_with-words-requires-clause-sum
words_with-words-requires-clause-sum c =
    let name = c.args.name.now in
    let modules = c.args.modules.now in
    let i = c.loop-module.module-index in
    let are = ap (λ (ss : List Section). sections_data ss) c.deref.ensures.value ∙ ap (λ (m : Contents). m.sections) c.parts-in-loop-module.ensures.kept in
    let same = ap (λ (ss : List SectionData). sum_by (size_for name) ss) are in
    let more = module_more name modules i c.module-item.result c.loop-module-test.true c.module-item.is in
    let within = sizes_within name modules (i + 1) in
    omega (arith, same, more, within, c.loop-module.invariant.words, c.requires)

pub loop-module-preserved : goal.loop-module-preserved
loop-module-preserved c =
    let name = c.args.name.now in
    let modules = c.args.modules.now in
    let i = c.loop-module.module-index in
    let are = ap (λ (ss : List Section). sections_data ss) c.deref.ensures.value ∙ ap (λ (m : Contents). m.sections) c.parts-in-loop-module.ensures.kept in
    let same = ap (λ (ss : List SectionData). sum_by (size_for name) ss) are in
    let more = module_more name modules i c.module-item.result c.loop-module-test.true c.module-item.is in
    let before : List BlockData = by_modules (part_blocks modules name) 0 (take i modules) in
    let own = contents c.parts.result.now in
    record {
      words = omega (arith, same, more, c.loop-module.invariant.words, c.words_with-words.ensures);
      blocks =
          c.in_ok-push_blocks.ensures ∙ ap (λ (xs : List BlockData). xs ++ blocks_behind name c.loop-module.words own) c.loop-module.invariant.blocks
          ∙ ap (λ n. before ++ blocks_behind name n own) c.loop-module.invariant.words
          ∙ ap (λ (m : Contents). before ++ blocks_behind name (size_of_parts name (take i modules)) m) c.parts.ensures.kept
          ∙ sym (by_modules_more (part_blocks modules name) modules i c.module-item.result c.loop-module-test.true c.module-item.is);
    }
