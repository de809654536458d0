use Rattle.std.proofs.Common.{◌≡◌, ◌∙◌, ap, arith, get_or, false, subst}
use Rattle.c25_rooms.specs.Bases.{AreOpened}
use Rattle.c25_rooms.specs.declared.measure.Measure.{Measure}
use Rattle.c25_rooms.proofs.Holed.{few_more, measured_more, measured_none}
use Rattle.c25_rooms.proofs.Opened.{opened_more, opened_none}
use Rattle.c25_rooms.proofs.space.mark_places.Goals as goal

pub loop-word-init : goal.loop-word-init
loop-word-init c =
    let free = ap (λ (x : Measure). x.free) c.none-measure.ensures in
    let run = ap (λ (x : Measure). x.run) c.none-measure.ensures in
    let largest = ap (λ (x : Measure). x.largest) c.none-measure.ensures in
    record {
      sized = c.requires.sized;
      free = omega (arith, free);
      run = omega (arith, run);
      so_far = λ page places k. measured_none page places c.args.start c.none-measure.result free run largest;
      opened = λ page places k. opened_none page places c.args.start c.args.size c.args.marks.now c.requires.some;
    }

pub loop-word-preserved : goal.loop-word-preserved
loop-word-preserved c =
    let word = c.loop-word.word in
    let t = get_or c.args.taken.now word false in
    let inside = c.requires.within in
    let few = few_more c.args.start word c.loop-word.measure c.after_word-measure.result t c.after_word-measure.ensures c.loop-word.auto.word c.loop-word.invariant.free c.loop-word.invariant.run in
    record {
      sized = c.mark_place.ensures.sized ∙ c.loop-word.invariant.sized;
      free = few.0;
      run = few.1;
      so_far = λ page places k.
          measured_more page places c.args.start word c.loop-word.measure c.after_word-measure.result t c.loop-word.auto.word (k.words word (omega (arith, c.loop-word-test.true, inside))) c.after_word-measure.ensures
          (c.loop-word.invariant.so_far page places k);
      opened = λ page places k.
          opened_more page places c.args.start word c.args.size c.args.marks.now c.loop-word.marks c.mark_place.new.marks c.after_word-measure.result c.requires.some
          (measured_more page places c.args.start word c.loop-word.measure c.after_word-measure.result t c.loop-word.auto.word (k.words word (omega (arith, c.loop-word-test.true, inside))) c.after_word-measure.ensures
          (c.loop-word.invariant.so_far page places k))
          c.mark_place.ensures.marks (c.loop-word.invariant.opened page places k);
    }

pub returns-clause-opened : goal.returns-clause-opened
returns-clause-opened c = λ page places k.
    let ends : c.loop-word.word ≡ c.args.end = omega (arith, c.loop-word-test.false, c.loop-word.auto.word-end c.requires.ordered) in
    subst (λ n. AreOpened page places c.args.start n c.args.size c.args.marks.now c.loop-word.marks) ends (c.loop-word.invariant.opened page places k)
