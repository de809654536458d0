use Rattle.std.proofs.Common.{List, ap, ◌∙◌, ◌+◌, arith}
use Rattle.std.proofs.lemmas.List.{take_all}
use Rattle.std.specs.Borrow.{Bor}
use Rattle.std.specs.Option.{unwrap_or}
use Rattle.c25_module.specs.View.{section_data}
use Rattle.c25_module.specs.declared.parts.Section.{Section}
use Rattle.c25_place.specs.Outputs.{output_of}
use Rattle.c25_place.specs.View.{sections_view}
use Rattle.c25_place.proofs.Bounded.{sum_bounded, small_at, output_next, made_with, made_by}
use Rattle.c25_place.proofs.Sized.{nothing}
use Rattle.c25_place.proofs.outputs.Outputs.new.Goals.{then-before, else-before}
use Rattle.c25_place.proofs.outputs.Outputs.new.Goals as goal

pub overflow_add-output : goal.overflow_add-output
overflow_add-output c =
    let bound = sum_bounded c.args.sections.now c.loop-section.section-index c.as_str-name.result.now c.output_or_none-before.result c.from.result c.requires.small c.requires.few
    (c.output_or_none-before.ensures ∙ ap (λ o. unwrap_or o nothing) (c.copied.ensures ∙ c.get.ensures.value ∙ c.loop-section.invariant c.as_str-name.result.now))
    (omega (arith, c.from.ensures, c.body_size.ensures, small_at c.args.sections.now c.loop-section.section-index c.section-item.result c.requires.small c.loop-section-test.true c.section-item.is)) in
    omega (arith, bound)

pub loop-section-preserved : goal.loop-section-preserved
loop-section-preserved c = elim c.if-before.branch [
  | then-before w ↦ λ name.
      c.in_ok-insert.ensures.updates.0 (record { ref_ptr = (0, 0); now = name })
      ∙ output_next name c.args.sections.now c.loop-section.section-index c.section-item.result c.as_str-name.result.now _ c.output_or_none-before.result (record { size = c.output_or_none-before.result.size + c.from.result; initialised = c.if-before.output }) c.loop-section-test.true c.section-item.is c.as_str-name.ensures.value (c.loop-section.invariant name)
      (c.output_or_none-before.ensures ∙ ap (λ o. unwrap_or o nothing) (c.copied.ensures ∙ c.get.ensures.value ∙ c.loop-section.invariant c.as_str-name.result.now))
      (made_with c.output_or_none-before.result (section_data c.section-item.result.now) c.from.result c.if-before.output (c.from.ensures ∙ c.body_size.ensures) w.if-before.true (w.output-is ∙ w.if-before.true))
  | else-before w ↦ λ name.
      c.in_ok-insert.ensures.updates.0 (record { ref_ptr = (0, 0); now = name })
      ∙ output_next name c.args.sections.now c.loop-section.section-index c.section-item.result c.as_str-name.result.now _ c.output_or_none-before.result (record { size = c.output_or_none-before.result.size + c.from.result; initialised = c.if-before.output }) c.loop-section-test.true c.section-item.is c.as_str-name.ensures.value (c.loop-section.invariant name)
      (c.output_or_none-before.ensures ∙ ap (λ o. unwrap_or o nothing) (c.copied.ensures ∙ c.get.ensures.value ∙ c.loop-section.invariant c.as_str-name.result.now))
      (made_by c.output_or_none-before.result (section_data c.section-item.result.now) c.from.result c.if-before.output w.has_words.result (c.from.ensures ∙ c.body_size.ensures) w.if-before.false w.has_words.ensures w.output-is)
]

pub returns : goal.returns
returns c = λ name.
    c.loop-section.invariant name
    ∙ ap (λ (ss : List (Bor Section)). output_of name (sections_view ss)) (take_all c.loop-section.section-index c.args.sections.now c.loop-section-test.false)
