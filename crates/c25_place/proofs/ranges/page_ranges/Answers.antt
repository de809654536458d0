use Rattle.std.proofs.Common.{List, [], length, vec_len, ap, sym, ◌∙◌}
use Rattle.std.proofs.lemmas.List.{take_all}
use Rattle.c25_meaning_linking.specs.Command.{RangeData}
use Rattle.c25_place.specs.Ranges.{on_page, place_in}
use Rattle.c25_place.specs.View.{named, ranges_view}
use Rattle.c25_place.specs.declared.ranges.PageRange.{PageRange}
use Rattle.c25_place.proofs.Kept.{list_next, found_next, kept_same, counted, one_longer}
use Rattle.c25_place.proofs.ranges.page_ranges.Goals.{then-range-page+in_ok-insert+in_ok-push, else-range-page}
use Rattle.c25_place.proofs.ranges.page_ranges.Goals as goal

pub loop-range-preserved : goal.loop-range-preserved
loop-range-preserved c = elim c.if-range-page.branch [
  | then-range-page+in_ok-insert+in_ok-push w ↦ (
    ap (λ v. ranges_view v.items) w.list-is ∙ list_next c.args.page c.args.all.now c.loop-range.list.items w.push.new.self.items c.loop-range.range-index _ c.loop-range-test.true w.if-range-page.true c.loop-range.invariant.0 w.in_ok-push.ensures.items,
    λ name.
        ap (λ m. named m name) w.found-is ∙ w.in_ok-insert.ensures.updates.0 (record { ref_ptr = (0, 0); now = name })
        ∙ found_next c.args.page c.args.all.now c.loop-range.range-index w.len.result (record { page = 0; name = record { ref_ptr = (0, 0); now = [] }; origin = 0; size = 0 }) name (named c.loop-range.found name) (c.loop-range.invariant.1 name) c.requires c.loop-range-test.true w.if-range-page.true (counted c.args.page c.args.all.now c.loop-range.list.items c.loop-range.range-index w.len.result (w.len.ensures ∙ c.loop-range.invariant.2) c.loop-range.invariant.0),
    ap (λ v. vec_len v) w.list-is ∙ one_longer c.loop-range.list.items w.push.new.self.items _ _ _ c.loop-range.invariant.2 w.in_ok-push.ensures.len w.in_ok-push.ensures.items ∙ sym (ap (λ v. length v.items) w.list-is),
  )
  | else-range-page w ↦ (
    ap (λ v. ranges_view v.items) w.list-is ∙ c.loop-range.invariant.0 ∙ kept_same c.args.page c.args.all.now c.loop-range.range-index _ c.loop-range-test.true w.if-range-page.false,
    λ name. ap (λ m. named m name) w.found-is ∙ c.loop-range.invariant.1 name ∙ ap (λ (rs : List RangeData). place_in name rs) (kept_same c.args.page c.args.all.now c.loop-range.range-index _ c.loop-range-test.true w.if-range-page.false),
    ap (λ v. vec_len v) w.list-is ∙ c.loop-range.invariant.2 ∙ sym (ap (λ v. length v.items) w.list-is),
  )
]

pub returns : goal.returns
returns c =
    let whole = take_all c.loop-range.range-index c.args.all.now c.loop-range-test.false in
    record {
      list = c.loop-range.invariant.0 ∙ ap (λ (rs : List PageRange). on_page c.args.page (ranges_view rs)) whole;
      found = λ name. c.loop-range.invariant.1 name ∙ ap (λ (rs : List PageRange). place_in name (on_page c.args.page (ranges_view rs))) whole;
    }
