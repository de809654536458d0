use Rattle.std.proofs.Common.{map, string_bytes}
use Rattle.c25_chain.specs.Chain.{given_of}
use Rattle.c25_chain.proofs.Agreed.{told_by_statements}
use Rattle.c25_chain.proofs.Debugged.{debugged, told_on}
use Rattle.c25_chain.proofs.debugging.debug_chain.Goals as goal

pub returns-in_err-built-clause-answer : goal.returns-in_err-built-clause-answer
returns-in_err-built-clause-answer c =
    let g = given_of c.args.files.now (map string_bytes c.args.sources.now) c.args.command.now c.args.samples.now c.args.schedule.now in
    told_on g c.args.script.now c.from_residual.result c.in_err-built.field-0.0 c.from_residual.ensures.1 c.in_err-built.ensures

pub returns-clause-answer : goal.returns-clause-answer
returns-clause-answer c =
    let g = given_of c.args.files.now (map string_bytes c.args.sources.now) c.args.command.now c.args.samples.now c.args.schedule.now in
    debugged g c.args.script.now c.in_ok-built.field-0 c.debug_text.result c.in_ok-built.ensures c.debug_text.ensures

pub returns-clause-debugger_agrees : goal.returns-clause-debugger_agrees
returns-clause-debugger_agrees c =
    told_by_statements c.answers_run_as_their_sources.ensures.first_states c.debuggers_answer_alike.ensures _ c.args.script.now c.debug_text.result (returns-clause-answer c)
