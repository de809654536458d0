use Rattle.std.proofs.Common.{◌≡◌, ◌+◌, ◌++◌, List, ap, get_or, subst, sym, take, ◌∙◌}
use Rattle.c25_meaning_linking.proofs.ByModules.{by_modules_more}
use Rattle.c25_meaning_linking.specs.Place.{all_sections}
use Rattle.c25_meaning_objects.specs.Module.{SectionData}
use Rattle.c25_module.specs.View.{contents, sections_data}
use Rattle.c25_symbols.proofs.Next.{modules_more}
use Rattle.c25_symbols.specs.Parts.{KnowsNext}
use Rattle.c25_symbols.specs.View.{places_view}
use Rattle.c25_page_reports.specs.Operands.{all_operands}
use Rattle.c25_page_reports.specs.declared.operands.PageOperand.{PageOperand}
use Rattle.c25_page_reports.proofs.operands.page_operands.Goals as goal

pub loop-number-preserved : goal.loop-number-preserved
loop-number-preserved c =
    let i = c.loop-number.number in
    let absolutes = c.args.absolutes.now in
    let modules = c.args.modules.now in
    let places = places_view c.args.map.now.sections.items in
    let kept = c.parts-parts.ensures.kept in
    let m = contents c.parts-parts.result.now in
    let at : m ≡ get_or modules i m = kept ∙ c.index-modules-number.is ∙ ap (get_or modules i) (sym kept) in
    let read : all_sections (take i modules) ++ sections_data c.deref-in-loop-number.result.now ≡ all_sections (take (i + 1) modules) =
    ap (λ ss. all_sections (take i modules) ++ sections_data ss) c.deref-in-loop-number.ensures.value ∙ modules_more modules i m c.loop-number-test.true at in (
      subst (λ (ss : List SectionData). KnowsNext c.pass_all.new.self places ss) read (c.in_ok-pass_all.ensures places (all_sections (take i modules)) c.loop-number.invariant.0),
      λ has. c.in_ok-push_all.ensures modules has c.loop-number.invariant.0
          ∙ ap (λ (xs : List PageOperand). xs ++ all_operands absolutes modules places i m) (c.loop-number.invariant.1 has)
          ∙ sym (by_modules_more (all_operands absolutes modules places) modules i m c.loop-number-test.true at),
    )
