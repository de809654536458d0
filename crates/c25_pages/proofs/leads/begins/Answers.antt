use Rattle.std.proofs.Common.{refl}
use Rattle.c25_pages.specs.Table.{knowledge_of}
use Rattle.c25_pages.proofs.Flows.{begins_above}
use Rattle.c25_pages.proofs.leads.begins.Goals as goal

pub returns-then-begins_in : goal.returns-then-begins_in
returns-then-begins_in c = λ yes.
    begins_above (knowledge_of c.args.table.now) c.args.known.now c.args.call.now c.loop-callee.callee c.loop-callee.invariant (c.if-begins_in.ensures refl)
