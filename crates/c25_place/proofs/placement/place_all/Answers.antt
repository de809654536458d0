use Rattle.std.proofs.Common.{List, take, drop, suc, ap, sym, subst, String}
use Rattle.std.specs.declared.alloc.Global.{Global}
use Rattle.c25_meaning_common.specs.declared.placed.Placed.{Placed}
use Rattle.c25_meaning_linking.specs.declared.link_fault.LinkFault.{LinkFault}
use Rattle.std.proofs.lemmas.List.{take_all}
use Rattle.c25_meaning_linking.specs.GoodMap.{Request, ArePlaced}
use Rattle.c25_place.specs.Placement.{IsRefusedAfter}
use Rattle.c25_place.specs.View.{request_view, requests_view, places_view, refusal_of}
use Rattle.c25_place.specs.declared.placement.Place.{Place}
use Rattle.c25_place.specs.declared.requests.Request as asked
use Rattle.c25_place.proofs.Listed.{mapped_more, split_at}
use Rattle.c25_place.proofs.Placing.{placed_next, refused, refused_by}
use Rattle.c25_place.proofs.placement.place_all.Goals as goal

pub returns-in-Err-Fault-clause-placed : goal.returns-in-Err-Fault-clause-placed
returns-in-Err-Fault-clause-placed c = λ all modules knows blocks.
    let i = c.loop-request.request-index in
    let after = places_view c.place.new.self.places.items in
    subst (λ (f : Placed (String Global) LinkFault). IsRefusedAfter all (requests_view modules c.args.requests.now) after (refusal_of f)) (sym c.in-Err-Fault.fault-is)
    (subst (λ (rs : List Request). IsRefusedAfter all rs after (refusal_of c.in-Err-Fault.fault)) (sym (split_at (request_view modules) c.args.requests.now i _ c.loop-request-test.true))
    (refused all (requests_view modules (take i c.args.requests.now)) (requests_view modules (drop (suc i) c.args.requests.now)) (places_view c.loop-request.placed.places.items) after _ (refusal_of c.in-Err-Fault.fault)
    (c.loop-request.invariant.2 all modules knows blocks) (refused_by all (places_view c.loop-request.placed.places.items) after _ _ c.in-Err-Fault.fault (c.in-Err-Fault.ensures.placed all modules knows blocks) c.in-Err-Fault.field-0-is) (ap (λ (ps : List Place). places_view ps) c.in-Err-Fault.ensures.kept)))

pub loop-request-preserved : goal.loop-request-preserved
loop-request-preserved c = (
  c.in-Ok.ensures.room,
  c.in-Ok.ensures.runs,
  λ all modules knows blocks.
      let i = c.loop-request.request-index in
      let after = places_view c.place.new.self.places.items in
      subst (λ (rs : List Request). ArePlaced all rs after) (sym (mapped_more (request_view modules) c.args.requests.now i _ c.loop-request-test.true))
      (placed_next all (requests_view modules (take i c.args.requests.now)) (places_view c.loop-request.placed.places.items) after _ (c.loop-request.invariant.2 all modules knows blocks) (c.in-Ok.ensures.placed all modules knows blocks)),
  c.in-Ok.ensures.within,
)

pub returns-clause-placed : goal.returns-clause-placed
returns-clause-placed c = λ all modules knows blocks.
    subst (λ (rs : List asked.Request). ArePlaced all (requests_view modules rs) (places_view c.loop-request.placed.places.items))
    (take_all c.loop-request.request-index c.args.requests.now c.loop-request-test.false) (c.loop-request.invariant.2 all modules knows blocks)
