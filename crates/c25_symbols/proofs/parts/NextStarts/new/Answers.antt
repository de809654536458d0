use Rattle.std.proofs.Common.{sym, ap, ◌∙◌, [], ◌∷◌, take}
use Rattle.std.specs.Option.{option_or}
use Rattle.c25_symbols.specs.Parts.{first_of}
use Rattle.c25_symbols.specs.View.{place_of, places_view}
use Rattle.c25_symbols.proofs.Next.{first_more, places_more}
use Rattle.c25_symbols.proofs.parts.NextStarts.new.Goals as goal

pub loop-section-preserved : goal.loop-section-preserved
loop-section-preserved c = λ name.
    let p = place_of c.section-item.result in
    c.in_ok-keep_first.ensures name ∙ ap (λ o. option_or o (first_of (p ∷ []) name)) (c.loop-section.invariant name)
    ∙ first_more (places_view (take c.loop-section.section-index c.args.sections.now)) p name
    ∙ ap (λ ps. first_of ps name) (sym (places_more c.args.sections.now c.loop-section.section-index c.section-item.result c.loop-section-test.true c.section-item.is))
