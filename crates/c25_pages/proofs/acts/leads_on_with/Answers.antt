use Rattle.c25_pages.specs.Table.{knowledge_of}
use Rattle.c25_pages.proofs.Flows.{leads_with}
use Rattle.c25_pages.proofs.acts.leads_on_with.Goals as goal

pub returns : goal.returns
returns c = λ yes.
    leads_with (knowledge_of c.args.table.now) c.args.insn.now c.flow_of.result c.args.row.now.known c.known_after-known.result c.args.saved c.args.row.now.context c.args.row.now.address c.next_address-next.result
    c.flow_of.ensures c.known_after-known.ensures c.next_address-next.ensures (c.flows_on.ensures yes c.args.row.now.address)
