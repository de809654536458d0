use Rattle.std.proofs.Common.{◌≡◌, ap, arith, get_or, false, subst}
use Rattle.c25_rooms.specs.Measured.{IsMeasured}
use Rattle.c25_rooms.specs.declared.measure.Measure.{Measure}
use Rattle.c25_rooms.proofs.Holed.{few_more, measured_more, measured_none}
use Rattle.c25_rooms.proofs.measure.measured.Goals as goal

pub loop-word-init : goal.loop-word-init
loop-word-init c =
    let free = ap (λ (x : Measure). x.free) c.none-measure.ensures in
    let run = ap (λ (x : Measure). x.run) c.none-measure.ensures in
    let largest = ap (λ (x : Measure). x.largest) c.none-measure.ensures in
    record {
      free = omega (arith, free);
      run = omega (arith, run);
      so_far = λ page places k. measured_none page places c.args.start c.none-measure.result free run largest;
    }

pub loop-word-preserved : goal.loop-word-preserved
loop-word-preserved c =
    let word = c.loop-word.word in
    let t = get_or c.args.taken.now word false in
    let few = few_more c.args.start word c.loop-word.measure c.after_word-measure.result t c.after_word-measure.ensures c.loop-word.auto.word c.loop-word.invariant.free c.loop-word.invariant.run in
    record {
      free = few.0;
      run = few.1;
      so_far = λ page places k.
          measured_more page places c.args.start word c.loop-word.measure c.after_word-measure.result t c.loop-word.auto.word (k.words word (omega (arith, c.loop-word-test.true, c.requires.within))) c.after_word-measure.ensures
          (c.loop-word.invariant.so_far page places k);
    }

pub returns : goal.returns
returns c = λ page places k.
    let ends : c.loop-word.word ≡ c.args.end = omega (arith, c.loop-word-test.false, c.loop-word.auto.word-end c.requires.ordered) in
    subst (λ n. IsMeasured page places c.args.start n c.loop-word.measure) ends (c.loop-word.invariant.so_far page places k)
