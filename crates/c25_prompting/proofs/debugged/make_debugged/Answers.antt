use Rattle.std.proofs.Common.{map, string_bytes}
use Rattle.c25_chain.specs.Chain.{given_of}
use Rattle.c25_prompting.proofs.Prompted.{no_inputs}
use Rattle.c25_prompting.proofs.debugged.make_debugged.Goals as goal

pub returns-in-Err : goal.returns-in-Err
returns-in-Err c =
    let g = given_of c.args.files.now (map string_bytes c.args.sources.now) c.args.texts.command.now c.args.texts.samples.now c.args.texts.schedule.now in
    no_inputs g c.in_ok-debugged.debugged c.in-Err.refusal c.in_ok-debugged.ensures c.in-Err.ensures
