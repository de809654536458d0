use Rattle.std.proofs.lemmas.Result.{IfOk-weaker}
use Rattle.c25_board.specs.Board.{state}
use Rattle.c25_board.specs.Outputs.{outputs_of}
use Rattle.c25_meaning_processor.specs.Samples.{samples_at}
use Rattle.c25_chain.proofs.Ends.{begins}
use Rattle.c25_chain.proofs.run.board_of.Goals as goal

pub returns-clause-state : goal.returns-clause-state
returns-clause-state c =
    IfOk-weaker c.new.result _ _
    (λ board begin.
    begins c.args.linked.now.page0.words c.args.linked.now.page1.words c.marks-marks.result.now c.args.linked.now.image.marks c.run_marks-run_marks.result.now c.args.linked.now.image.run_marks
    (samples_at c.args.samples) (outputs_of c.new-sink.result) (state board) begin c.marks-marks.ensures c.run_marks-run_marks.ensures c.new-sink.ensures.words)
    c.new.ensures.state
