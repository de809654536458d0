use Rattle.std.proofs.Common.{ℕ, refl}
use Rattle.c25_meaning_pages.specs.Routines.{Begins}
use Rattle.c25_pages.specs.Table.{knowledge_of}
use Rattle.c25_pages.proofs.Found.{all_more, all_whole, landing_holds}
use Rattle.c25_pages.proofs.acts.calls_landings.Goals as goal

pub loop-landing-preserved : goal.loop-landing-preserved
loop-landing-preserved c =
    all_more (λ (target : ℕ). Begins (knowledge_of c.args.table.now) c.args.known.now target c.args.context c.args.back) c.deref-landing-items.result.now c.args.table.now.landings.items c.loop-landing.landing-index 0 c.deref-landing-items.ensures.value c.loop-landing-test.true c.loop-landing.invariant (c.if-not-begins.ensures refl)

pub returns : goal.returns
returns c = λ yes target e.
    landing_holds (λ (target : ℕ). Begins (knowledge_of c.args.table.now) c.args.known.now target c.args.context c.args.back) c.args.table.now.landings.items
    (all_whole (λ (target : ℕ). Begins (knowledge_of c.args.table.now) c.args.known.now target c.args.context c.args.back) c.deref-landing-items.result.now c.args.table.now.landings.items c.loop-landing.landing-index c.deref-landing-items.ensures.value c.loop-landing-test.false c.loop-landing.invariant) target e
