use Rattle.c25_meaning_processor.specs.Samples.{samples_at}
use Rattle.c25_unused_inputs.proofs.Taken.{count_kept, others_kept, others_none}
use Rattle.c25_unused_inputs.proofs.ports.take_all.Goals as goal

pub loop-count-preserved : goal.loop-count-preserved
loop-count-preserved c = record {
  counted = count_kept (samples_at c.loop-count.samples) (samples_at c.take.new.self) c.args.port c.loop-count.count _ c.take.result c.is_none.result
      c.loop-count.invariant.counted c.take.ensures.sample c.is_none.ensures c.if-is_none.false c.take.ensures.some;
  others = others_kept _ (samples_at c.loop-count.samples) (samples_at c.take.new.self) c.args.port c.take.result c.is_none.result
      c.is_none.ensures c.if-is_none.false c.take.ensures.some c.loop-count.invariant.others;
}

pub returns-then-is_none-clause-others : goal.returns-then-is_none-clause-others
returns-then-is_none-clause-others c =
    others_none _ (samples_at c.loop-count.samples) (samples_at c.take.new.self) c.args.port c.take.result c.is_none.result
    c.is_none.ensures c.if-is_none.true c.take.ensures.none c.loop-count.invariant.others
