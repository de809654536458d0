use Rattle.std.proofs.Common.{◌≡◌, ◌+◌, ◌++◌, List, ap, get_or, map, string_bytes, subst, sym, take, ◌∙◌}
use Rattle.c25_meaning_objects.specs.Module.{SectionData}
use Rattle.c25_meaning_linking.proofs.ByModules.{by_modules_more, by_modules_all}
use Rattle.c25_meaning_linking.specs.Place.{all_sections}
use Rattle.c25_module.specs.View.{contents, sections_data}
use Rattle.c25_symbols.specs.Parts.{KnowsNext}
use Rattle.c25_symbols.specs.Symbols.{Listed, module_symbols}
use Rattle.c25_symbols.specs.View.{places_view}
use Rattle.c25_symbols.proofs.Next.{modules_more}
use Rattle.c25_symbols.proofs.entries.all_entries.Goals as goal

pub loop-number-preserved : goal.loop-number-preserved
loop-number-preserved c =
    let i = c.loop-number.number in
    let modules = c.args.modules.now in
    let sources = map string_bytes c.args.sources.now in
    let places = places_view c.args.sections.now in
    let kept = c.parts-owner.ensures.kept in
    let m = contents c.parts-owner.result.now in
    let at : m ≡ get_or modules i m = kept ∙ c.index-modules-number.is ∙ ap (get_or modules i) (sym kept) in
    let read : all_sections (take i modules) ++ sections_data c.deref.result.now ≡ all_sections (take (i + 1) modules) =
    ap (λ ss. all_sections (take i modules) ++ sections_data ss) c.deref.ensures.value ∙ modules_more modules i m c.loop-number-test.true at in (
      subst (λ (ss : List SectionData). KnowsNext c.pass_all.new.self places ss) read (c.in_ok-pass_all.ensures places (all_sections (take i modules)) c.loop-number.invariant.0),
      c.in_ok-push_symbols.ensures modules sources places i c.loop-number.invariant.0 c.source_of.ensures
          ∙ ap (λ (xs : List Listed). xs ++ module_symbols modules sources places i m) c.loop-number.invariant.1
          ∙ sym (by_modules_more (module_symbols modules sources places) modules i m c.loop-number-test.true at),
    )

pub returns : goal.returns
returns c =
    let modules = c.args.modules.now in
    c.loop-number.invariant.1
    ∙ by_modules_all (module_symbols modules (map string_bytes c.args.sources.now) (places_view c.args.sections.now)) modules c.loop-number.number c.loop-number-test.false
