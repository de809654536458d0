use Rattle.std.proofs.Common.{List, ℕ, map, take, ap, subst, ◌∙◌}
use Rattle.std.proofs.lemmas.List.{take_all}
use Rattle.c25_cmd.specs.View.{placings_of}
use Rattle.c25_cmd.specs.declared.command.Placing.{Placing}
use Rattle.c25_meaning_linking.specs.Command.{PlacingData}
use Rattle.c25_meaning_linking.specs.GoodMap.{is_among}
use Rattle.c25_place.specs.Requests.{HasNames}
use Rattle.c25_place.proofs.Asked.{names_more}
use Rattle.c25_place.proofs.Listed.{names_next}
use Rattle.c25_place.proofs.requests.listed_names.Goals as goal

pub loop-placing-preserved : goal.loop-placing-preserved
loop-placing-preserved c = λ name.
    names_more c.loop-placing.names c.insert.new.self (map (λ (p : PlacingData). p.name) (placings_of (take c.loop-placing.placing-index c.args.placings.now))) c.deref.result.now c.loop-placing.invariant c.in_ok-insert.ensures.names name
    ∙ ap (λ (ns : List (List ℕ)). is_among name ns) (names_next c.args.placings.now c.loop-placing.placing-index c.placing-item.result c.deref.result.now c.loop-placing-test.true c.placing-item.is c.deref.ensures)

pub returns : goal.returns
returns c =
    subst (λ (ps : List Placing). HasNames c.loop-placing.names (map (λ (p : PlacingData). p.name) (placings_of ps)))
    (take_all c.loop-placing.placing-index c.args.placings.now c.loop-placing-test.false) c.loop-placing.invariant
