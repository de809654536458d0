use Rattle.std.proofs.Common.{Some, ap, sym, ◌∙◌}
use Rattle.std.specs.Str.{bytes_eq}
use Rattle.c25_cmd.specs.View.{placing_of}
use Rattle.c25_cmd.specs.declared.command.Placing.{Placing}
use Rattle.c25_meaning_linking.specs.Command.{PlacingData}
use Rattle.c25_place.proofs.Lacked.{found_at, none_more}
use Rattle.c25_link_faults.proofs.unfits.placing_named.Goals as goal

pub returns-then-is_called : goal.returns-then-is_called
returns-then-is_called c =
    let item = c.placing-item.result in
    let called = c.if-is_called.ensures ∙ ap (λ (p : Placing). bytes_eq (placing_of p).name c.args.name.now) c.placing-item.is in
    ap (λ (p : Placing). Some (placing_of p)) c.placing-item.is
    ∙ found_at (λ (p : PlacingData). bytes_eq p.name c.args.name.now) placing_of c.args.placings.now c.loop-placing.placing-index item c.loop-placing-test.true c.loop-placing.invariant (sym called)

pub loop-placing-preserved : goal.loop-placing-preserved
loop-placing-preserved c =
    let item = c.placing-item.result in
    let called = c.if-is_called.ensures ∙ ap (λ (p : Placing). bytes_eq (placing_of p).name c.args.name.now) c.placing-item.is in
    none_more (λ (p : PlacingData). bytes_eq p.name c.args.name.now) placing_of c.args.placings.now c.loop-placing.placing-index item c.loop-placing-test.true c.loop-placing.invariant (sym called)
