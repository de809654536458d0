-- the last operand and the frames that are left reduce as at first
use Rattle.std.proofs.Common.{◌≡◌, ℕ, vec_len, reverse}
use Rattle.c25_meaning_language.specs.Reading.{ParserState, reduced}
use Rattle.c25_expr.specs.Postfix.{last_tree, other_trees}
use Rattle.c25_expr.specs.View.{woven, trees_of, items_of}
use Rattle.c25_expr.specs.declared.builder.Builder.{Builder}
use Rattle.c25_expr.proofs.builder.Builder.reduce.Given as goal

-- where the operators of a level take the last operand
abbrev reduced_by : ℕ → Builder → ParserState
reduced_by n b = reduced n (woven (reverse b.frames.items) (other_trees (trees_of b))) (last_tree (trees_of b)) (items_of b)

abbrev pub invariant-loop-operator : goal.invariant-loop-operator
invariant-loop-operator l = (reduced_by l.level l.self ≡ reduced_by l.level l.fn.self) × (l.self.expects ≡ l.fn.self.expects)

abbrev pub decreases-loop-operator : goal.decreases-loop-operator
decreases-loop-operator l = vec_len l.self.frames
