use Rattle.c25_layout.proofs.InImage.{all_parts, no_parts}
use Rattle.c25_layout.proofs.rows.parts_of.Goals as goal

pub loop-end-init : goal.loop-end-init
loop-end-init c = λ blank are. rw c.new-parts.ensures.items (no_parts c.args.found.words.now blank)

pub returns : goal.returns
returns c = λ blank are. all_parts c.args.found.words.now blank c.loop-end.parts.items c.loop-end.end (c.loop-end.invariant blank are) c.loop-end-test.false
