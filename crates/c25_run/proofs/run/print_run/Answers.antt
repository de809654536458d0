use Rattle.std.proofs.Common.{string_bytes}
use Rattle.c25_run.proofs.Answered.{printed_answer, printed_statements}
use Rattle.c25_run.proofs.Leaving.{left_run}
use Rattle.c25_run.proofs.Told.{printed_run}
use Rattle.c25_run.proofs.run.print_run.Goals as goal

pub returns-clause-run : goal.returns-clause-run
returns-clause-run g c given is =
    printed_run c.ready_programs_run_as_their_sources.ensures c.two_runs_are_one.ensures.words c.steps_put_one_output_at_most.ensures c.words_end_once.ensures
    c.args.ready c.args.n c.args.details c.print_linked.result.report.ending (string_bytes c.print_linked.result.report.note) (g.O.Write.contents c.args.out.now) (g.O.Write.contents c.print_linked.new.out) given is c.print_linked.ensures.printed

pub returns-clause-statements : goal.returns-clause-statements
returns-clause-statements g c given is =
    printed_statements given c.args.ready is c.args.n c.args.details c.print_linked.result.report.ending (string_bytes c.print_linked.result.report.note)
    (g.O.Write.contents c.args.out.now) (g.O.Write.contents c.print_linked.new.out) c.ready_programs_run_as_their_sources.ensures
    c.image_runs_as_statements.ensures.runs c.image_runs_as_statements.ensures.words c.answers_run_as_their_sources.ensures.first_states (returns-clause-run g c given is)

pub returns-clause-answer : goal.returns-clause-answer
returns-clause-answer g c given is =
    printed_answer given c.args.ready is c.args.n c.args.details c.print_linked.result.report.ending (string_bytes c.print_linked.result.report.note)
    (g.O.Write.contents c.args.out.now) (g.O.Write.contents c.print_linked.new.out) c.ready_programs_run_as_answered.ensures (returns-clause-run g c given is)

pub returns-clause-left : goal.returns-clause-left
returns-clause-left g c given is = left_run c.args.ready c.args.n given is c.print_linked.result.left c.print_linked.ensures.left
