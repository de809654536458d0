use Rattle.std.proofs.Common.{rules}
use Rattle.c25_board.specs.Board.{signals, steps}
use Rattle.c25_debug.proofs.Ended.{told_of}
use Rattle.c25_debug.proofs.steps.answer_steps.Goals as goal

pub returns-clause-answer : goal.returns-clause-answer
returns-clause-answer g c =
    told_of (signals c.args.board.now) c.args.breakpoints.now c.args.count (steps c.args.board.now) _ _ _ _ _ _ _ _ c.run_to-halted.result _ c.answer_halted.result
    (search rules) c.run_to-halted.ensures.run c.in_ok-text.ensures.bytes c.steps-2.ensures c.pc.ensures c.answer_halted.ensures.text c.answer_halted.ensures.refused

pub returns-in_err-text-clause-kept : goal.returns-in_err-text-clause-kept
returns-in_err-text-clause-kept c = search rules
