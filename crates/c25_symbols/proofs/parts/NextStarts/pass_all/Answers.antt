use Rattle.std.proofs.Common.{◌++◌, List, subst, take}
use Rattle.std.proofs.lemmas.List.{take_all}
use Rattle.c25_meaning_objects.specs.Module.{SectionData}
use Rattle.c25_module.specs.View.{sections_data}
use Rattle.c25_module.specs.declared.parts.Section.{Section}
use Rattle.c25_symbols.specs.Parts.{KnowsNext}
use Rattle.c25_symbols.proofs.Next.{sections_more}
use Rattle.c25_symbols.proofs.parts.NextStarts.pass_all.Goals as goal

pub loop-section-preserved : goal.loop-section-preserved
loop-section-preserved c = λ places ss knows.
    let i = c.loop-section.section-index in
    subst (λ (xs : List SectionData). KnowsNext c.pass.new.self places xs) (sections_more ss c.args.own.now i c.section-item.result c.loop-section-test.true c.section-item.is)
    (c.in_ok-pass.ensures places (ss ++ sections_data (take i c.args.own.now)) (c.loop-section.invariant places ss knows))

pub returns : goal.returns
returns c = λ places ss knows.
    subst (λ (own : List Section). KnowsNext c.loop-section.self places (ss ++ sections_data own)) (take_all c.loop-section.section-index c.args.own.now c.loop-section-test.false)
    (c.loop-section.invariant places ss knows)
