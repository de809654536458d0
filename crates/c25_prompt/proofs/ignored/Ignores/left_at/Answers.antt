use Rattle.std.proofs.Common.{◌≡◌, rules, tests, ◌==◌, ◌∙◌, List, ap}
use Rattle.std.proofs.lemmas.Iterator.{YieldsList-from_slice}
use Rattle.std.proofs.lemmas.Iterator.Search.{find_from_yields_List}
use Rattle.c25_prompt.specs.Ignored.{count_found, left_at}
use Rattle.c25_prompt.specs.declared.ignored.Ignored.{Ignored}
use Rattle.c25_prompt.proofs.ignored.Ignores.left_at.Goals as goal

pub returns : goal.returns
returns c =
    let all : c.deref.result.now ≡ c.args.self.now = search rules in
    c.count_found.ensures
    ∙ ap count_found
    (c.copied.ensures ∙ find_from_yields_List (λ (i : Ignored). i.address == c.args.address) _ _ c.find.result c.find.ensures.ran (YieldsList-from_slice _ c.iter.ensures.rest) (λ x b q k. search (rules, tests)))
    ∙ ap (λ (counts : List Ignored). left_at counts c.args.address) all
