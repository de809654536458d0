use Rattle.std.proofs.Common.{◌+◌, List, unwrap_or, ap, subst, ◌∙◌}
use Rattle.std.specs.List.{sum_by}
use Rattle.std.proofs.lemmas.List.{take_all}
use Rattle.c25_meaning_linking.specs.Place.{size_for}
use Rattle.c25_module.specs.View.{sections_data}
use Rattle.c25_module.specs.declared.parts.Section.{Section}
use Rattle.c25_place.specs.Blocks.{KnowsPaging, anywhere}
use Rattle.c25_place.specs.View.{named}
use Rattle.c25_place.proofs.Blocked.{words_next}
use Rattle.c25_place.proofs.blocks.add_words.Goals as goal

pub loop-section-preserved : goal.loop-section-preserved
loop-section-preserved c = λ words blocks known.
    words_next c.args.sections.now c.loop-section.section-index c.section-item.result c.as_str-name.result.now c.body_size.result (λ name. named c.loop-section.found name) (λ name. named c.insert.new.self name) c.paging_or_none-paging.result c.behind.result words blocks
    c.loop-section-test.true c.section-item.is c.as_str-name.ensures.value c.body_size.ensures (c.paging_or_none-paging.ensures ∙ ap (λ o. unwrap_or o anywhere) (c.copied.ensures ∙ c.get.ensures.value)) c.behind.ensures
    (λ name. c.in_ok-insert.ensures.updates.0 (record { ref_ptr = (0, 0); now = name }))
    (c.loop-section.invariant words blocks known)

pub returns : goal.returns
returns c = λ words blocks known name.
    subst (λ (ss : List Section). KnowsPaging (unwrap_or (named c.loop-section.found name) anywhere) (words name + sum_by (size_for name) (sections_data ss)) (blocks name))
    (take_all c.loop-section.section-index c.args.sections.now c.loop-section-test.false) (c.loop-section.invariant words blocks known name)
