use Rattle.std.proofs.Common.{List, subst, sym}
use Rattle.c25_layout.specs.Layout.{ArePartsTo}
use Rattle.c25_layout.specs.declared.layout.Part.{Part}
use Rattle.c25_layout.proofs.InImage.{none_added, part_added}
use Rattle.c25_layout.proofs.rows.add_part.Goals as goal

pub returns-in-None-clause-parts : goal.returns-in-None-clause-parts
returns-in-None-clause-parts c = λ blank are so_far.
    rw c.from.ensures (none_added c.args.found.words.now blank c.args.address c.args.parts.now.items c.ranges.address.fits so_far (λ word is. c.in-None.ensures.missing blank word are is))

pub returns-in_ok-push-in-Some-clause-parts : goal.returns-in_ok-push-in-Some-clause-parts
returns-in_ok-push-in-Some-clause-parts c = λ blank are so_far.
    subst (λ (ps : List Part). ArePartsTo c.args.found.words.now blank ps c.in_ok-part-in-Some.end) (sym c.in_ok-push-in-Some.ensures.items)
    (part_added c.args.found.words.now blank c.args.address c.args.parts.now.items c.in_ok-part-in-Some.part c.in_ok-part-in-Some.end so_far c.in_ok-part-in-Some.ensures)
