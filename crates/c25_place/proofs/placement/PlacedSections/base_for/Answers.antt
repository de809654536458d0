use Rattle.std.proofs.Common.{List, All, Ok, Err, inl, sym, subst}
use Rattle.std.proofs.lemmas.List.Elements.{All-filter}
use Rattle.c25_meaning_linking.specs.Command.{RangeData, IsRange}
use Rattle.c25_meaning_linking.specs.GoodMap.{is_usable}
use Rattle.c25_meaning_linking.specs.Place.{blocks_of}
use Rattle.c25_place.specs.View.{wanted_view, ranges_view, request_view, places_view}
use Rattle.c25_place.proofs.Placing.{base_of_is, bad_run}
use Rattle.c25_place.proofs.placement.PlacedSections.base_for.Goals as goal

pub base_of-requires-clause-sized : goal.base_of-requires-clause-sized
base_of-requires-clause-sized c = (c.on_page-taken.ensures (places_view c.args.self.now.places.items) c.requires.room).sized

pub base_of-requires-clause-ranges : goal.base_of-requires-clause-ranges
base_of-requires-clause-ranges c =
    subst (λ (rs : List RangeData). All IsRange rs) (sym (c.usable-usable.ensures c.requires.ranges.all c.requires.ranges.knows))
    (All-filter (is_usable (wanted_view c.args.request.now.wanted) c.args.page) IsRange c.requires.ranges.all c.requires.ranges.are)

pub returns-then-may_run-clause-fits : goal.returns-then-may_run-clause-fits
returns-then-may_run-clause-fits c = λ all modules knows blocks here. (
  base_of_is all (ranges_view c.usable-usable.result.now) (places_view c.args.self.now.places.items) (request_view modules c.args.request.now) c.args.page (Ok c.in-Ok.base)
      here (c.usable-usable.ensures all knows)
      (c.in-Ok.ensures.base c.args.page (places_view c.args.self.now.places.items) (blocks_of c.args.request.now.name.now modules) (c.on_page-taken.ensures (places_view c.args.self.now.places.items) c.requires.room) (c.get-paging.ensures modules blocks).fits_are),
  c.may_run.ensures.yes c.if-may_run.true all modules here,
)

pub returns-else-may_run-clause-fits : goal.returns-else-may_run-clause-fits
returns-else-may_run-clause-fits c = λ all modules knows blocks here.
    bad_run all (places_view c.args.self.now.places.items) (request_view modules c.args.request.now) c.in-Ok.base
    (base_of_is all (ranges_view c.usable-usable.result.now) (places_view c.args.self.now.places.items) (request_view modules c.args.request.now) c.args.page (Ok c.in-Ok.base)
    here (c.usable-usable.ensures all knows)
    (c.in-Ok.ensures.base c.args.page (places_view c.args.self.now.places.items) (blocks_of c.args.request.now.name.now modules) (c.on_page-taken.ensures (places_view c.args.self.now.places.items) c.requires.room) (c.get-paging.ensures modules blocks).fits_are))
    (c.may_run.ensures.no c.if-may_run.false all modules here)

pub returns-in-Err-clause-fits : goal.returns-in-Err-clause-fits
returns-in-Err-clause-fits c = λ all modules knows blocks here.
    inl (base_of_is all (ranges_view c.usable-usable.result.now) (places_view c.args.self.now.places.items) (request_view modules c.args.request.now) c.args.page (Err c.in-Err.fault)
    here (c.usable-usable.ensures all knows)
    (c.in-Err.ensures.base c.args.page (places_view c.args.self.now.places.items) (blocks_of c.args.request.now.name.now modules) (c.on_page-taken.ensures (places_view c.args.self.now.places.items) c.requires.room) (c.get-paging.ensures modules blocks).fits_are))
