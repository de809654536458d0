use Rattle.std.proofs.Common.{◌++◌, List, ap, map, filter, ◌∙◌}
use Rattle.std.proofs.lemmas.List.{take_all}
use Rattle.c25_cmd.specs.View.{placings_of}
use Rattle.c25_cmd.specs.declared.command.Placing.{Placing}
use Rattle.c25_meaning_linking.specs.GoodMap.{listed_request}
use Rattle.c25_place.specs.Requests.{is_due}
use Rattle.c25_place.specs.View.{requests_view}
use Rattle.c25_place.proofs.requests.push_listed.Goals as goal

pub returns-clause-listed : goal.returns-clause-listed
returns-clause-listed c = λ modules knows.
    c.loop-placing.invariant.0 modules knows
    ∙ ap (λ (ps : List Placing). requests_view modules c.args.requests.now.items ++ map (listed_request modules) (filter (is_due c.args.with_address modules) (placings_of ps)))
    (take_all c.loop-placing.placing-index c.args.placings.now c.loop-placing-test.false)

pub returns-clause-pages : goal.returns-clause-pages
returns-clause-pages c = c.loop-placing.invariant.1
