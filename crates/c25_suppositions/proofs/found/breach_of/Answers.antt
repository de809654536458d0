use Rattle.std.proofs.Common.{◌∙◌, sym}
use Rattle.c25_board.specs.Board.{signals, state, steps}
use Rattle.c25_pages.specs.Program.{statements_of}
use Rattle.c25_pages.specs.Table.{knowledge_of}
use Rattle.c25_suppositions.proofs.Breaching.{acting_is, judged, judged_asleep, lets_false, lets_true}
use Rattle.c25_suppositions.proofs.found.breach_of.Goals as goal

pub returns-then-not-imr_is_supposed : goal.returns-then-not-imr_is_supposed
returns-then-not-imr_is_supposed c =
    lets_false (knowledge_of c.args.table.now) ((state c.args.board.now).world.words 4) (sym c.imr_is_supposed.ensures ∙ c.if-not-imr_is_supposed.true)

pub returns-in-Some : goal.returns-in-Some
returns-in-Some c =
    let b = c.args.board.now in
    let lines = (signals b).lines (steps b) in
    let acts = acting_is lines (state b) c.in-Some.address (sym c.in-Some.is ∙ c.acting.ensures) in
    judged (statements_of c.args.program.now) (knowledge_of c.args.table.now) lines (state b)
    (lets_true (knowledge_of c.args.table.now) ((state b).world.words 4) (sym c.imr_is_supposed.ensures ∙ c.if-not-imr_is_supposed.false))
    c.breach_at.result (c.breach_at.ensures lines acts.0 acts.1)

pub returns-in-None : goal.returns-in-None
returns-in-None c =
    let b = c.args.board.now in
    judged_asleep (statements_of c.args.program.now) (knowledge_of c.args.table.now) ((signals b).lines (steps b)) (state b)
    (lets_true (knowledge_of c.args.table.now) ((state b).world.words 4) (sym c.imr_is_supposed.ensures ∙ c.if-not-imr_is_supposed.false))
    (sym c.in-None.is ∙ c.acting.ensures)
