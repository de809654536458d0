use Rattle.std.proofs.Common.{◌∙◌, sym, true, false}
use Rattle.c25_board.specs.Board.{state}
use Rattle.c25_pages.specs.Program.{statements_of}
use Rattle.c25_suppositions.proofs.Stood.{copied_in_range, stands_held, stands_plainly}
use Rattle.c25_suppositions.proofs.standing.copied_or_plain_at.Goals as goal

pub holds_insn-requires-clause-in_range : goal.holds_insn-requires-clause-in_range
holds_insn-requires-clause-in_range c =
    copied_in_range (statements_of c.args.program.now) (state c.args.board.now).world c.args.address c.requires.image c.in-Some.insn (sym c.copied_at.ensures ∙ c.in-Some.is)

pub returns-then-holds_insn : goal.returns-then-holds_insn
returns-then-holds_insn c =
    sym (stands_held (statements_of c.args.program.now) (state c.args.board.now).world c.args.address c.in-Some.insn (sym c.copied_at.ensures ∙ c.in-Some.is)
    true (sym c.holds_insn.ensures ∙ c.if-holds_insn.true))

pub returns-else-holds_insn : goal.returns-else-holds_insn
returns-else-holds_insn c =
    sym (stands_held (statements_of c.args.program.now) (state c.args.board.now).world c.args.address c.in-Some.insn (sym c.copied_at.ensures ∙ c.in-Some.is)
    false (sym c.holds_insn.ensures ∙ c.if-holds_insn.false))

pub returns-in-None : goal.returns-in-None
returns-in-None c =
    c.plain_at.ensures ∙ sym (stands_plainly (statements_of c.args.program.now) (state c.args.board.now).world c.args.address (sym c.copied_at.ensures ∙ c.in-None.is))
