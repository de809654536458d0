use Rattle.std.proofs.Common.{◌%◌, ◌∙◌, arith, ap, eqb}
use Rattle.c25_board.proofs.OneBit.{same_after, others_after, clear_same, clear_other}
use Rattle.c25_board.proofs.bits.Bits.clear.Goals as goal

pub returns-clause-same : goal.returns-clause-same
returns-clause-same c =
    rw (c.word_of.ensures, c.mask_of.ensures)
    (same_after c.args.self.now.words c.args.address _ (omega arith) ∙ ap (λ bit. eqb bit 1) (clear_same _ (c.args.address % 64) (omega arith)))

pub returns-clause-others : goal.returns-clause-others
returns-clause-others c =
    rw (c.word_of.ensures, c.mask_of.ensures)
    (others_after c.args.self.now.words c.args.address _ (omega arith) (λ i below apart. clear_other _ (c.args.address % 64) (omega arith) i below apart))
