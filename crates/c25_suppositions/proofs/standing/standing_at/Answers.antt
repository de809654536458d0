use Rattle.std.proofs.Common.{◌≡◌, ◌∙◌, Bool, sym, subst}
use Rattle.c25_board.specs.Board.{state}
use Rattle.c25_meaning_processor.specs.Statements.{standing}
use Rattle.c25_pages.specs.Program.{statements_of}
use Rattle.c25_suppositions.proofs.Stood.{stands_as_data}
use Rattle.c25_suppositions.proofs.standing.standing_at.Goals as goal

pub returns-then-cnf : goal.returns-then-cnf
returns-then-cnf c =
    subst (λ (b : Bool). c.copied_or_plain_at.result ≡ standing (statements_of c.args.program.now) b (state c.args.board.now).world c.args.address) (sym c.if-cnf.true) c.copied_or_plain_at.ensures

pub returns-else-cnf : goal.returns-else-cnf
returns-else-cnf c =
    subst (λ (b : Bool). c.plain_at.result ≡ standing (statements_of c.args.program.now) b (state c.args.board.now).world c.args.address) (sym c.if-cnf.false)
    (c.plain_at.ensures ∙ sym (stands_as_data (statements_of c.args.program.now) (state c.args.board.now).world c.args.address))
