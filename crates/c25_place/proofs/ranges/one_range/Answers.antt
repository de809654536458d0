use Rattle.std.proofs.Common.{List, ap, sym, ◌∙◌, take, drop, length}
use Rattle.c25_place.specs.declared.ranges.PageRange.{PageRange}
use Rattle.c25_place.proofs.Ranged.{taken_range}
use Rattle.c25_place.proofs.ranges.one_range.Goals as goal

pub returns : goal.returns
returns c = λ page all known apart.
    taken_range page c.args.name.now all c.args.ranges.now.list.items c.range_at.result.now c.len.result c.copied-number.result
    (c.len.ensures ∙ sym c.deref.ensures.len ∙ ap (λ (rs : List PageRange). length rs) c.deref.ensures.value) apart known.list (sym (known.found c.args.name.now) ∙ sym c.get.ensures.value ∙ sym c.copied-number.ensures)
    (c.range_at.ensures ∙ ap (λ n. take 1 (drop n c.deref.result.now)) c.unwrap_or.ensures ∙ ap (λ (rs : List PageRange). take 1 (drop (Rattle.std.specs.Option.unwrap_or c.copied-number.result c.len.result) rs)) c.deref.ensures.value)
