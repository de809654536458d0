use Rattle.std.proofs.Common.{◌∙◌, ◌++◌, ◌∷◌, [], ℕ, List, Ok, sym, ap, subst, refl}
use Rattle.std.proofs.lemmas.List.{map_push}
use Rattle.c25_meaning_linking.specs.Command.{RangeData}
use Rattle.c25_meaning_linking.specs.CommandGrammar.{Reading}
use Rattle.c25_meaning_linking.specs.CommandMemory.{more_ranges, range_at}
use Rattle.c25_meaning_common.specs.Results.{◌>>=◌}
use Rattle.c25_cmd.specs.Known.{KnowsWords}
use Rattle.c25_cmd.specs.View.{range_of, ranges_of, tokens_of}
use Rattle.c25_cmd.proofs.memory.add_range.Goals as goal

pub returns-clause-known : goal.returns-clause-known
returns-clause-known c =
    let range = c.in_ok-range.range in
    let pushed = ap ranges_of c.in_ok-push.ensures.items ∙ map_push range_of c.take_range.new.ranges.list.items range
    ∙ ap (λ v. ranges_of v.items ++ range_of range ∷ []) c.take_range.ensures.list in
    subst (KnowsWords c.take_range.new.ranges.taken.items) (sym pushed) (c.take_range.ensures.known (range_of range) c.in_ok-range.ensures.page refl refl)

pub returns-clause-given : goal.returns-clause-given
unfolding more_ranges
returns-clause-given c =
    let before = ranges_of c.args.ranges.now.list.items in
    let page = c.in_ok-page.page in
    let range = c.in_ok-range.range in
    let rest = tokens_of c.in_ok-range.rest.now in
    let kept = ap (λ v. ranges_of v.items) (c.take_range.ensures.list ∙ c.in_ok-range.ensures.list) in
    let pushed = ap ranges_of c.in_ok-push.ensures.items ∙ map_push range_of c.take_range.new.ranges.list.items range ∙ ap (λ (rs : List RangeData). rs ++ range_of range ∷ []) kept in
    ap (λ (r : Reading ℕ). r >>= λ p. range_at p.0 before p.1 >>= λ more. Ok ((p.0, before ++ more.0 ∷ []), more.1)) c.in_ok-page.ensures.given
    ∙ ap (λ (r : Reading RangeData). r >>= λ more. Ok ((page, before ++ more.0 ∷ []), more.1)) c.in_ok-range.ensures.given
    ∙ ap (λ (rs : List RangeData). Ok ((page, rs), rest)) (sym pushed)
