use Rattle.c25_unused_inputs.proofs.Made.{request_made}
use Rattle.c25_unused_inputs.proofs.requests.request_of.Goals as goal

pub returns : goal.returns
returns c =
    request_made c.args.entries.now c.args.end c.args.line c.bit-bit.result c.unbegun.result c.last_step-last.result c.next_step-next.result
    c.bit-bit.ensures c.unbegun.ensures c.last_step-last.ensures c.next_step-next.ensures
