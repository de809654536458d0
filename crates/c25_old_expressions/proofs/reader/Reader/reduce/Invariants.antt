-- the last operand and the frames that are left reduce as at first
use Rattle.std.proofs.Common.{◌≡◌, vec_len, reverse, false}
use Rattle.c25_old_expressions.specs.Reader.{reduced, items_of}
use Rattle.c25_old_expressions.proofs.reader.Reader.reduce.Given as goal

abbrev pub invariant-loop-operator : goal.invariant-loop-operator
invariant-loop-operator l = (reduced l.level (reverse l.self.frames.items) (items_of l.self) ≡ reduced l.level (reverse l.fn.self.frames.items) (items_of l.fn.self)) × (l.self.expects ≡ false)

abbrev pub decreases-loop-operator : goal.decreases-loop-operator
decreases-loop-operator l = vec_len l.self.frames
