use Rattle.std.proofs.Common.{Ok, refl, subst}
use Rattle.std.proofs.lemmas.Result.{err_from_is_err_and}
use Rattle.c25_fronts.specs.Adding.{AddsFront, IsTaken}
use Rattle.c25_fronts.specs.Fronts.{entry_of}
use Rattle.c25_fronts.specs.declared.front.Front.{Front}
use Rattle.c25_fronts.proofs.Added.{completes_more, completes_none, ends_added, ends_refused}
use Rattle.c25_fronts.proofs.adding.with_fronts.Goals as goal

pub loop-front-init : goal.loop-front-init
loop-front-init c = completes_none c.args.sources c.args.fronts.now c.args.sources refl

pub loop-front-preserved : goal.loop-front-preserved
loop-front-preserved c =
    let files = c.loop-front.files in
    let after = c.add_front.new.files in
    completes_more c.args.sources c.args.fronts.now files after c.loop-front.front-index c.front-item.result c.loop-front-test.true
    (subst (λ (x : Front). AddsFront files after (entry_of x) (Ok tt)) c.front-item.is c.in_ok-add_front.ensures)
    c.loop-front.invariant

pub returns-in_err-add_front : goal.returns-in_err-add_front
returns-in_err-add_front c =
    let files = c.loop-front.files in
    let fault = c.in_err-add_front.field-0.0 in
    let p = err_from_is_err_and c.from_residual.result c.from_residual.ensures.1 in
    rw (p.1, p.2) (ends_refused c.args.sources c.args.fronts.now files c.loop-front.front-index c.front-item.result fault c.loop-front-test.true
    (subst (λ (x : Front). IsTaken files (entry_of x).0 fault) c.front-item.is c.in_err-add_front.ensures)
    c.loop-front.invariant)

pub returns : goal.returns
returns c = ends_added c.args.sources c.args.fronts.now c.loop-front.files c.loop-front.front-index c.loop-front-test.false c.loop-front.invariant
