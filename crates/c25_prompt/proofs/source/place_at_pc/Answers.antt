use Rattle.std.proofs.Common.{◌∙◌, Some, None, ap}
use Rattle.c25_board.specs.Board.{state}
use Rattle.c25_meaning_debugger.specs.Debugger.{source_line_at}
use Rattle.c25_prompt.proofs.Placed.{place_by}
use Rattle.c25_prompt.proofs.source.place_at_pc.Goals as goal

pub returns-in-Some-copied : goal.returns-in-Some-copied
returns-in-Some-copied c =
    let s = state c.args.board.now in
    place_by c.args.image.now s _ (Some c.in-Some.mark) _ c.in-Some.ensures (Some c.in-Some-copied._insn, c.in-Some-copied.ensures s.registers.cnf s.registers.pc, c.line_of.ensures)

pub returns-in-None-copied : goal.returns-in-None-copied
returns-in-None-copied c =
    let s = state c.args.board.now in
    let line = c.line_of-in-None-copied.ensures ∙ ap (source_line_at c.args.image.now) c.pc.ensures in
    place_by c.args.image.now s _ (Some c.in-Some.mark) _ c.in-Some.ensures (None, c.in-None-copied.ensures s.registers.cnf s.registers.pc, line)
