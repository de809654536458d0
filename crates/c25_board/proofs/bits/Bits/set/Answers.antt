use Rattle.std.proofs.Common.{◌%◌, ◌∙◌, arith, eq-eqb}
use Rattle.c25_board.proofs.OneBit.{same_after, others_after, set_same, set_other}
use Rattle.c25_board.proofs.bits.Bits.set.Goals as goal

pub returns-clause-same : goal.returns-clause-same
returns-clause-same c =
    rw (c.word_of.ensures, c.mask_of.ensures)
    (same_after c.args.self.now.words c.args.address _ (omega arith) ∙ eq-eqb _ 1 (set_same _ (c.args.address % 64) (omega arith)))

pub returns-clause-others : goal.returns-clause-others
returns-clause-others c =
    rw (c.word_of.ensures, c.mask_of.ensures)
    (others_after c.args.self.now.words c.args.address _ (omega arith) (λ i below apart. set_other _ (c.args.address % 64) (omega arith) i apart))
