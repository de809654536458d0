use Rattle.std.proofs.Common.{inl, rules, string_bytes}
use Rattle.c25_board.specs.Board.{entries, state, steps}
use Rattle.c25_run.proofs.Told.{reports_end}
use Rattle.c25_run.proofs.run.report_of.Goals as goal

pub returns-in-Ok-clause-ending : goal.returns-in-Ok-clause-ending
returns-in-Ok-clause-ending c = inl c.ending_of-in-Ok.ensures

pub returns-in-Ok-clause-told : goal.returns-in-Ok-clause-told
returns-in-Ok-clause-told c =
    reports_end c.outputs_have_no_part_in_runs.ensures.fetched c.args.regs c.args.image.now (entries c.args.board) (steps c.args.board) (state c.args.board) c.args.outcome c.ending_of-in-Ok.result (string_bytes c.in-Ok.note)
    (search rules) c.ending_of-in-Ok.ensures c.in-Ok.ensures
