use Rattle.std.proofs.Common.{rules}
use Rattle.c25_old_expressions.proofs.Valued.{same_values, no_values, no_new_values}
use Rattle.c25_old_expressions.proofs.values.may_differ.Goals as goal

pub returns-in-Ok-items_of : goal.returns-in-Ok-items_of
returns-in-Ok-items_of c = λ h.
    same_values c.args.order c.args.old.now c.args.new.now c.in-Ok.items.items c.in-Ok-items_of.after.items c.in-Ok.ensures c.in-Ok-items_of.ensures (search rules)

pub returns-in-Err-Fault : goal.returns-in-Err-Fault
returns-in-Err-Fault c = λ h. no_values c.args.order c.args.old.now c.args.new.now c.in-Err-Fault.field-0 _ c.in-Err-Fault.ensures c.in-Err-Fault.field-0-is

pub returns : goal.returns
returns c = λ h. no_new_values c.args.order c.args.old.now c.args.new.now c.in-Err-Fault-items_of.field-0 _ c.in-Err-Fault-items_of.ensures c.in-Err-Fault-items_of.field-0-is
