use Rattle.std.proofs.Common.{Bool, cond, is_some, Option, ℕ, ap, sym, ◌∙◌}
use Rattle.c25_meaning_linking.specs.GoodMap.{default_page}
use Rattle.c25_place.specs.View.{wanted_view}
use Rattle.c25_place.specs.declared.requests.Wanted.{Wanted}
use Rattle.c25_place.proofs.Listed.{copied_some}
use Rattle.c25_place.proofs.Ranged.{has_range}
use Rattle.c25_place.proofs.ranges.CommandRanges.default_page.Goals as goal

pub returns-then-is_some-clause-page : goal.returns-then-is_some-clause-page
returns-then-is_some-clause-page c = λ all known.
    ap (λ (t : Bool). cond t 0 1)
    (c.if-is_some.ensures ∙ sym (copied_some c.get.result) ∙ ap (λ (o : Option ℕ). is_some o) (c.get.ensures.value ∙ known.program.found c.in-InRange.name.now) ∙ has_range c.in-InRange.name.now 0 all)
    ∙ ap (λ (w : Wanted). default_page all (wanted_view w) c.args.initialised) (sym c.in-InRange.is)

pub returns-else-is_some-clause-page : goal.returns-else-is_some-clause-page
returns-else-is_some-clause-page c = λ all known.
    ap (λ (t : Bool). cond t 0 1)
    (c.if-is_some.ensures ∙ sym (copied_some c.get.result) ∙ ap (λ (o : Option ℕ). is_some o) (c.get.ensures.value ∙ known.program.found c.in-InRange.name.now) ∙ has_range c.in-InRange.name.now 0 all)
    ∙ ap (λ (w : Wanted). default_page all (wanted_view w) c.args.initialised) (sym c.in-InRange.is)
