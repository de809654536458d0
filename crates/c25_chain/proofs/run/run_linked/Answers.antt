use Rattle.c25_board.specs.Board.{entries}
use Rattle.c25_chain.proofs.Ends.{runs_program}
use Rattle.c25_chain.proofs.run.run_linked.Goals as goal

pub returns : goal.returns
returns c =
    runs_program c.args.linked.now.page0.words c.args.linked.now.page1.words c.args.linked.now.image.marks c.args.linked.now.image.run_marks c.args.samples c.args.schedule c.args.n
    (entries c.in_ok-board.board) c.run_board.result _ _ c.in_ok-board.ensures.schedule c.in_ok-board.ensures.state c.run_board.ensures.run
