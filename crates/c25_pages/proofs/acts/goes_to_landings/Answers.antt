use Rattle.std.proofs.Common.{ℕ, refl}
use Rattle.c25_meaning_pages.specs.Known.{LeadsTo}
use Rattle.c25_pages.specs.Table.{knowledge_of}
use Rattle.c25_pages.proofs.Found.{all_more, all_whole, landing_holds}
use Rattle.c25_pages.proofs.acts.goes_to_landings.Goals as goal

pub loop-landing-preserved : goal.loop-landing-preserved
loop-landing-preserved c =
    all_more (λ (target : ℕ). LeadsTo (knowledge_of c.args.table.now) c.args.known.now c.args.context target) c.deref-landing-items.result.now c.args.table.now.landings.items c.loop-landing.landing-index 0 c.deref-landing-items.ensures.value c.loop-landing-test.true c.loop-landing.invariant (c.if-not-leads_to.ensures refl)

pub returns : goal.returns
returns c = λ yes target e.
    landing_holds (λ (target : ℕ). LeadsTo (knowledge_of c.args.table.now) c.args.known.now c.args.context target) c.args.table.now.landings.items
    (all_whole (λ (target : ℕ). LeadsTo (knowledge_of c.args.table.now) c.args.known.now c.args.context target) c.deref-landing-items.result.now c.args.table.now.landings.items c.loop-landing.landing-index c.deref-landing-items.ensures.value c.loop-landing-test.false c.loop-landing.invariant) target e
