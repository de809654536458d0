use Rattle.std.proofs.Common.{arith}
use Rattle.c25_layout.proofs.InImage.{data_count, data_stands}
use Rattle.c25_layout.proofs.rows.data_at.Goals as goal

pub loop-passed-preserved : goal.loop-passed-preserved
loop-passed-preserved c = record {
  stands = data_stands c.args.found.words.now c.args.address c.loop-passed.passed c.in-Some.next c.loop-passed.row.items c.push-in-Some.new.self.items c.in_ok-push-in-Some.ensures.items
      c.loop-passed.invariant.stands c.loop-passed.invariant.count c.in-Some.ensures.there;
  count = data_count c.loop-passed.passed c.in-Some.next c.loop-passed.row.items c.push-in-Some.new.self.items c.in_ok-push-in-Some.ensures.items c.loop-passed.invariant.count;
  inside = omega (arith, c.in-Some.ensures.inside);
}
