use Rattle.std.proofs.Common.{string_bytes, map}
use Rattle.c25_chain.specs.Chain.{given_of}
use Rattle.c25_chain.proofs.Answered.{inputs_refused}
use Rattle.c25_chain.proofs.chain.make_ready.Goals as goal

pub returns-in-Err : goal.returns-in-Err
returns-in-Err c =
    let g = given_of c.args.files.now (map string_bytes c.args.sources.now) c.args.texts.command.now c.args.texts.samples.now c.args.texts.schedule.now in
    inputs_refused g c.in_ok-built.built c.in-Err.refusal c.in_ok-built.ensures c.in-Err.ensures
