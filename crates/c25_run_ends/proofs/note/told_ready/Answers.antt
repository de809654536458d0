use Rattle.std.proofs.Common.{◌∙◌, string_bytes}
use Rattle.std.proofs.lemmas.Result.{IfOk-weaker}
use Rattle.c25_board.specs.Board.{entries, state}
use Rattle.c25_meaning_processor.specs.Samples.{samples_at}
use Rattle.c25_run_ends.proofs.Ended.{explained_run}
use Rattle.c25_unused_inputs.specs.Ports.{counts_of}
use Rattle.c25_run_ends.proofs.note.told_ready.Goals as goal

pub returns : goal.returns
returns c =
    IfOk-weaker c.told_run.result _ _
    (λ note told.
    explained_run c.args.ready c.as_slice-2.result.now (counts_of (samples_at c.args.all)) c.args.end (string_bytes note) (entries c.in_ok-board.board) (state c.in_ok-board.board)
    (c.as_slice-2.ensures.value ∙ c.in_ok-had.ensures) c.in_ok-board.ensures.schedule c.in_ok-board.ensures.state told)
    c.told_run.ensures
