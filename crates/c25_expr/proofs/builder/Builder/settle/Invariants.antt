-- the last operand and the frames that are left settle as at first
use Rattle.std.proofs.Common.{◌≡◌, vec_len, reverse}
use Rattle.c25_meaning_language.specs.Reading.{settle}
use Rattle.c25_expr.specs.Postfix.{last_tree, other_trees}
use Rattle.c25_expr.specs.View.{woven, trees_of, items_of}
use Rattle.c25_expr.specs.declared.builder.Builder.{Builder}
use Rattle.c25_meaning_language.specs.Reading.{ParserState}
use Rattle.c25_expr.proofs.builder.Builder.settle.Given as goal

-- where the last operand settles
abbrev settled : Builder → ParserState
settled b = settle (woven (reverse b.frames.items) (other_trees (trees_of b))) (last_tree (trees_of b)) (items_of b)

abbrev pub invariant-loop-operator : goal.invariant-loop-operator
invariant-loop-operator l = (settled l.self ≡ settled l.fn.self) × (l.self.expects ≡ l.fn.self.expects)

abbrev pub decreases-loop-operator : goal.decreases-loop-operator
decreases-loop-operator l = vec_len l.self.frames
