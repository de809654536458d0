use Rattle.std.proofs.Common.{◌∙◌, sym}
use Rattle.c25_board.specs.Board.{signals, state, steps}
use Rattle.c25_suppositions.proofs.Breaching.{acting_is, pc_asleep}
use Rattle.c25_suppositions.proofs.found.next_address.Goals as goal

pub returns-in-Some : goal.returns-in-Some
returns-in-Some c =
    let b = c.args.board.now in
    sym (acting_is ((signals b).lines (steps b)) (state b) c.in-Some.address (sym c.in-Some.is ∙ c.acting.ensures)).1

pub returns-in-None : goal.returns-in-None
returns-in-None c =
    let b = c.args.board.now in
    c.pc.ensures ∙ pc_asleep ((signals b).lines (steps b)) (state b) (sym c.in-None.is ∙ c.acting.ensures)
