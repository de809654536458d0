use Rattle.std.proofs.Common.{◌∙◌, ap, sym, Bool, Some, None, if◌then◌else◌}
use Rattle.c25_texts.proofs.Lists.{items_more, items_fault, items_end}
use Rattle.c25_texts.proofs.item_reader.items_in.Goals as goal

pub returns-then-not-fine : goal.returns-then-not-fine
returns-then-not-fine g c =
    sym c.loop-index.invariant
    ∙ items_fault g.F.LineFormat.item_of (λ s. s.now) c.args.lines.now c.loop-index.index _ c.as_bytes.result.now c.loop-index-test.true c.as_bytes.ensures.value c.loop-index.items.items _
    (c.in_ok-fine.ensures ∙ ap (λ (b : Bool). if b then Some c.add_line.new.items.items else None) c.if-not-fine.true)

pub loop-index-preserved : goal.loop-index-preserved
loop-index-preserved g c =
    sym (items_more g.F.LineFormat.item_of (λ s. s.now) c.args.lines.now c.loop-index.index _ c.as_bytes.result.now c.loop-index-test.true c.as_bytes.ensures.value c.loop-index.items.items _
    c.add_line.new.items.items (c.in_ok-fine.ensures ∙ ap (λ (b : Bool). if b then Some c.add_line.new.items.items else None) c.if-not-fine.false))
    ∙ c.loop-index.invariant

pub returns : goal.returns
returns g c = sym c.loop-index.invariant ∙ items_end g.F.LineFormat.item_of (λ s. s.now) c.args.lines.now c.loop-index.items.items _ c.loop-index.index c.loop-index-test.false
