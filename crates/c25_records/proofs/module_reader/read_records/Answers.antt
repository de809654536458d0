use Rattle.std.proofs.Common.{length, sym, ◌∙◌}
use Rattle.std.proofs.lemmas.Result.{err_from_is_err_and}
use Rattle.std.proofs.lemmas.Bool.{ne_eqb}
use Rattle.c25_meaning_objects.specs.RecordReading.{read_from}
use Rattle.c25_module.specs.View.{contents}
use Rattle.c25_records.proofs.Loop.{no_record, out_of_order, at_end, not_added, goes_on}
use Rattle.c25_records.proofs.module_reader.read_records.Goals as goal

pub returns-in_err-record : goal.returns-in_err-record
returns-in_err-record c =
    let p = err_from_is_err_and c.from_residual.result c.from_residual.ensures.1 in
    rw (p.1, p.2) (no_record c.in_err-record.field-0.0 (length c.args.bytes.now) c.loop.counter (contents c.loop.reader.parts) c.loop.rest.now (read_from (length c.args.bytes.now) (contents c.args.reader.now.parts) c.args.bytes.now) c.loop-test.true c.in_err-record.ensures c.loop.invariant.0)

pub returns-then-not-is_in_order : goal.returns-then-not-is_in_order
returns-then-not-is_in_order c =
    out_of_order (length c.args.bytes.now) c.loop.counter (contents c.loop.reader.parts) c.loop.rest.now _ (read_from (length c.args.bytes.now) (contents c.args.reader.now.parts) c.args.bytes.now) c.loop-test.true c.in_ok-record.ensures (sym c.is_in_order.ensures ∙ c.if-not-is_in_order.true) c.loop.invariant.0

pub returns-then-record : goal.returns-then-record
returns-then-record c =
    let e = at_end (length c.args.bytes.now) c.loop.counter (contents c.loop.reader.parts) c.loop.rest.now _ (read_from (length c.args.bytes.now) (contents c.args.reader.now.parts) c.args.bytes.now) c.loop-test.true c.in_ok-record.ensures (sym c.is_in_order.ensures ∙ c.if-not-is_in_order.false) c.if-record.true c.loop.invariant.0 in
    rw e c.ended.ensures

pub returns-in_err-add_record : goal.returns-in_err-add_record
returns-in_err-add_record c =
    let p = err_from_is_err_and c.from_residual-in_err-add_record.result c.from_residual-in_err-add_record.ensures.1 in
    rw (p.1, p.2) (not_added c.in_err-add_record.field-0.0 (length c.args.bytes.now) c.loop.counter (contents c.loop.reader.parts) c.loop.rest.now _ (read_from (length c.args.bytes.now) (contents c.args.reader.now.parts) c.args.bytes.now) c.loop-test.true c.in_ok-record.ensures (sym c.is_in_order.ensures ∙ c.if-not-is_in_order.false) (ne_eqb _ _ c.if-record.false) c.in_err-add_record.ensures.given c.loop.invariant.0)

pub loop-preserved : goal.loop-preserved
loop-preserved c = (
  goes_on (length c.args.bytes.now) c.loop.counter (contents c.loop.reader.parts) (contents c.add_record.new.reader.parts) c.loop.rest.now _ (read_from (length c.args.bytes.now) (contents c.args.reader.now.parts) c.args.bytes.now) c.loop-test.true c.in_ok-record.ensures (sym c.is_in_order.ensures ∙ c.if-not-is_in_order.false) (ne_eqb _ _ c.if-record.false) c.in_ok-add_record.ensures.given c.loop.invariant.0,
  c.in_ok-add_record.ensures.kept,
)
