use Rattle.std.proofs.Common.{◌∙◌, ap, sym, Bool, Some, None, if◌then◌else◌, map}
use Rattle.c25_layout.specs.Hints.{hint_data, hint_of, without_comment}
use Rattle.c25_layout.proofs.Lists.{items_more, items_fault, items_end}
use Rattle.c25_layout.proofs.hint_reader.hints_in.Goals as goal

pub returns-then-not-fine : goal.returns-then-not-fine
returns-then-not-fine c =
    sym c.loop-index.invariant
    ∙ items_fault hint_of (λ s. without_comment s.now) c.args.lines.now c.loop-index.index _ c.without_comment.result.now c.loop-index-test.true c.without_comment.ensures (map hint_data c.loop-index.hints.items) _
    (c.in_ok-fine.ensures ∙ ap (λ (b : Bool). if b then Some (map hint_data c.add_line.new.hints.items) else None) c.if-not-fine.true)

pub loop-index-preserved : goal.loop-index-preserved
loop-index-preserved c =
    sym (items_more hint_of (λ s. without_comment s.now) c.args.lines.now c.loop-index.index _ c.without_comment.result.now c.loop-index-test.true c.without_comment.ensures (map hint_data c.loop-index.hints.items) _
    (map hint_data c.add_line.new.hints.items) (c.in_ok-fine.ensures ∙ ap (λ (b : Bool). if b then Some (map hint_data c.add_line.new.hints.items) else None) c.if-not-fine.false))
    ∙ c.loop-index.invariant

pub returns : goal.returns
returns c = sym c.loop-index.invariant ∙ items_end hint_of (λ s. without_comment s.now) c.args.lines.now (map hint_data c.loop-index.hints.items) _ c.loop-index.index c.loop-index-test.false
