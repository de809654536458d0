use Rattle.std.proofs.Common.{◌<◌, ◌∙◌, ℕ, length, Option, Ok, ap, rules}
use Rattle.std.proofs.lemmas.Result.{err_from_is_err_and}
use Rattle.c25_old_expressions.specs.Scanning.{so_far}
use Rattle.c25_old_expressions.proofs.Scans.{scan_on, scan_ends, scan_fails}
use Rattle.c25_old_expressions.proofs.scanner.old_symbols.Goals as goal

pub returns-in_err-covered : goal.returns-in_err-covered
returns-in_err-covered c =
    let p = err_from_is_err_and c.from_residual.result c.from_residual.ensures.1 in
    let some : 0 < length c.loop-rest.rest.now = search rules in
    rw (p.1, p.2) (scan_fails c.args.order c.args.labelled (so_far c.loop-rest.scanner) c.loop-rest.rest.now _ c.in_err-covered.field-0.0 some c.in_err-covered.ensures c.loop-rest.invariant)

pub loop-rest-preserved : goal.loop-rest-preserved
loop-rest-preserved c =
    let some : 0 < length c.loop-rest.rest.now = search rules in
    rw (c.past-rest.ensures, c.past.ensures)
    (scan_on c.args.order c.args.labelled (so_far c.loop-rest.scanner) (so_far c.pass.new.self) c.loop-rest.rest.now c.in-Some.covered _ some
    (c.in_ok-covered.ensures ∙ ap (λ (o : Option ℕ). Ok (record { so = so_far c.pass.new.self; covered = o })) c.in-Some.is) c.loop-rest.invariant)

pub returns-in-None : goal.returns-in-None
returns-in-None c =
    let some : 0 < length c.loop-rest.rest.now = search rules in
    scan_ends c.args.order c.args.labelled (so_far c.loop-rest.scanner) (so_far c.pass.new.self) c.loop-rest.rest.now _ some
    (c.in_ok-covered.ensures ∙ ap (λ (o : Option ℕ). Ok (record { so = so_far c.pass.new.self; covered = o })) c.in-None.is) c.loop-rest.invariant
