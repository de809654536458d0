-- the last operand and the frames that are left settle as at first
use Rattle.std.proofs.Common.{◌≡◌, vec_len, reverse, false}
use Rattle.c25_old_expressions.specs.Reader.{settled, items_of}
use Rattle.c25_old_expressions.proofs.reader.Reader.settle.Given as goal

abbrev pub invariant-loop-operator : goal.invariant-loop-operator
invariant-loop-operator l = (settled (reverse l.self.frames.items) (items_of l.self) ≡ settled (reverse l.fn.self.frames.items) (items_of l.fn.self)) × (l.self.expects ≡ false)

abbrev pub decreases-loop-operator : goal.decreases-loop-operator
decreases-loop-operator l = vec_len l.self.frames
