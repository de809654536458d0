use Rattle.c25_cmd.specs.View.{ranges_of}
use Rattle.c25_cmd.proofs.TakenWords.{found_if_overlap}
use Rattle.c25_cmd.proofs.ranges.shares_word.Goals as goal

pub returns : goal.returns
returns c =
    found_if_overlap c.args.ranges.now.taken.items (ranges_of c.args.ranges.now.list.items) c.args.page c.args.origin c.args.length c.any_taken.result
    c.requires.known c.requires.page c.requires.words c.requires.within
    (rw (c.word_number-start.ensures, c.deref.ensures.value) at c.any_taken.ensures.found)
    (rw (c.word_number-start.ensures, c.deref.ensures.value) at c.any_taken.ensures.none)
