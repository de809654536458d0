use Rattle.std.proofs.Common.{map, string_bytes, rules, inl, inr}
use Rattle.c25_old_expressions.proofs.Valued.{same_read, not_read}
use Rattle.c25_old_expressions.proofs.values.says_the_same.Goals as goal

pub returns-in-Ok-items_of : goal.returns-in-Ok-items_of
returns-in-Ok-items_of c = λ h.
    inl (same_read c.args.order (map string_bytes c.args.labels.now) c.args.old.now c.args.new.now c.in-Ok.items.items c.in-Ok-items_of.after.items c.in-Ok.ensures c.in-Ok-items_of.ensures (search rules))

pub returns-in-Err-Fault : goal.returns-in-Err-Fault
returns-in-Err-Fault c = λ h. inr (not_read c.args.order c.args.old.now c.in-Err-Fault.field-0 _ c.in-Err-Fault.ensures c.in-Err-Fault.field-0-is, c.have_same_symbols.ensures h)
