use Rattle.std.proofs.Common.{◌≡◌, suc}
use Rattle.c25_meaning_expansion.specs.Expansion.{Goes, Gives, Finishes}
use Rattle.c25_meaning_expansion.specs.ExpansionRuns.{rewrite}
use Rattle.c25_meaning_expansion.proofs.ExpansionBounded.{bounded_going, bounded_giving}
use Rattle.c25_meaning_expansion.proofs.ExpansionFalls.{falls_going}
use Rattle.c25_meaning_expansion.proofs.ExpansionFirst.{comes_to_first}
use Rattle.c25_macro.specs.Config.{config}
use Rattle.c25_macro.proofs.LeavingOut.{first_refused, refused_bounded}
use Rattle.c25_macro.proofs.Nexts.{bounded_finishing}
use Rattle.c25_macro.proofs.state.ExpanderState.next_or_leave_out.Goals as goal

pub loop-row-smaller : goal.loop-row-smaller
loop-row-smaller c =
    let e : rewrite c.args.files.now c.args.symbols.now (config c.loop-row.self) ≡ Goes (config c.step_or_leave_out.new.self) = rw (c.in-Ok-Consumed.is, c.in-Ok-Consumed.field-0-is) at c.step_or_leave_out.ensures in
    (falls_going c.args.files.now c.args.symbols.now _ _ e).weighs_less

pub loop-row-preserved : goal.loop-row-preserved
loop-row-preserved c =
    let e : rewrite c.args.files.now c.args.symbols.now (config c.loop-row.self) ≡ Goes (config c.step_or_leave_out.new.self) = rw (c.in-Ok-Consumed.is, c.in-Ok-Consumed.field-0-is) at c.step_or_leave_out.ensures in
    let leads = c.loop-row.invariant.leads in
    record { bounded = bounded_going c.args.files.now c.args.symbols.now _ _ c.loop-row.invariant.bounded e; leads = (suc leads.0, (config c.loop-row.self, leads.1, e)) }

pub returns-in-Ok-Given-clause-bounded : goal.returns-in-Ok-Given-clause-bounded
returns-in-Ok-Given-clause-bounded c =
    let e : rewrite c.args.files.now c.args.symbols.now (config c.loop-row.self) ≡ Gives c.in-Ok-Given.row (config c.step_or_leave_out.new.self) = rw (c.in-Ok-Given.is, c.in-Ok-Given.field-0-is) at c.step_or_leave_out.ensures in
    bounded_giving c.args.files.now c.args.symbols.now _ _ _ c.loop-row.invariant.bounded e

pub returns-in-Ok-Finished-clause-bounded : goal.returns-in-Ok-Finished-clause-bounded
returns-in-Ok-Finished-clause-bounded c =
    let e : rewrite c.args.files.now c.args.symbols.now (config c.loop-row.self) ≡ Finishes (config c.step_or_leave_out.new.self) = rw (c.in-Ok-Finished.is, c.in-Ok-Finished.field-0-is) at c.step_or_leave_out.ensures in
    bounded_finishing c.args.files.now c.args.symbols.now _ _ c.loop-row.invariant.bounded e

pub returns-in-Ok-Given-clause-answer : goal.returns-in-Ok-Given-clause-answer
returns-in-Ok-Given-clause-answer c =
    let e : rewrite c.args.files.now c.args.symbols.now (config c.loop-row.self) ≡ Gives c.in-Ok-Given.row (config c.step_or_leave_out.new.self) = rw (c.in-Ok-Given.is, c.in-Ok-Given.field-0-is) at c.step_or_leave_out.ensures in
    let leads = c.loop-row.invariant.leads in
    comes_to_first c.args.files.now c.args.symbols.now (config c.args.self.now) _ (leads.0, config c.loop-row.self, leads.1, e) tt

pub returns-in-Ok-Finished-clause-answer : goal.returns-in-Ok-Finished-clause-answer
returns-in-Ok-Finished-clause-answer c =
    let e : rewrite c.args.files.now c.args.symbols.now (config c.loop-row.self) ≡ Finishes (config c.step_or_leave_out.new.self) = rw (c.in-Ok-Finished.is, c.in-Ok-Finished.field-0-is) at c.step_or_leave_out.ensures in
    let leads = c.loop-row.invariant.leads in
    comes_to_first c.args.files.now c.args.symbols.now (config c.args.self.now) _ (leads.0, config c.loop-row.self, leads.1, e) tt

pub returns-in-Err-clause-answer : goal.returns-in-Err-clause-answer
returns-in-Err-clause-answer c =
    let leads = c.loop-row.invariant.leads in
    first_refused c.args.files.now c.args.symbols.now leads.0 (config c.args.self.now) (config c.loop-row.self) (config c.step_or_leave_out.new.self) c.in-Err.failure leads.1
    (rw c.in-Err.is at c.step_or_leave_out.ensures)

pub returns-in-Err-clause-bounded : goal.returns-in-Err-clause-bounded
returns-in-Err-clause-bounded c =
    refused_bounded c.args.files.now c.args.symbols.now (config c.loop-row.self) (config c.step_or_leave_out.new.self) c.in-Err.failure c.loop-row.invariant.bounded
    (rw c.in-Err.is at c.step_or_leave_out.ensures)
