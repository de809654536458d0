use Rattle.std.proofs.Common.{◌∙◌, ◌==◌, not, List, ap, rules}
use Rattle.std.proofs.lemmas.Fn.{filter_same}
use Rattle.c25_prompt.specs.Ignored.{without_count}
use Rattle.c25_prompt.specs.declared.ignored.Ignored.{Ignored}
use Rattle.c25_prompt.proofs.ignored.Ignores.forget.Goals as goal

pub returns : goal.returns
returns c =
    let address = c.args.address in
    filter_same _ (λ (i : Ignored). not (i.address == address)) _ (λ x b f' called. search rules) _ _ c.retain.ensures.filtered
    ∙ ap (λ (counts : List Ignored). without_count counts address) c.self.view_is
