use Rattle.std.proofs.Common.{drop, string_bytes}
use Rattle.c25_board.specs.Board.{entries}
use Rattle.c25_debug.specs.Told.{point_of}
use Rattle.c25_chain.proofs.Scripted.{SoFar}
use Rattle.c25_chain.proofs.answers.answers.Given as goal

abbrev pub invariant-loop-command : goal.invariant-loop-command
invariant-loop-command l =
    SoFar (entries l.fn.session.board) l.fn.session.image.now l.commands (point_of l.fn.session.board l.fn.session.breakpoints)
    (drop l.command-index l.commands) (entries l.session.board) l.session.image.now (point_of l.session.board l.session.breakpoints) (string_bytes l.text)
