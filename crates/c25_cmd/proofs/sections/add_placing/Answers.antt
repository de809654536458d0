use Rattle.std.proofs.Common.{◌∙◌, ◌++◌, ◌∷◌, [], sym, ap, subst}
use Rattle.std.proofs.lemmas.List.{map_push}
use Rattle.c25_cmd.specs.Known.{HasNames}
use Rattle.c25_cmd.specs.View.{placing_of, placings_of}
use Rattle.c25_cmd.proofs.sections.add_placing.Goals as goal

pub returns-clause-named : goal.returns-clause-named
returns-clause-named c =
    let placing = c.in_ok-placing.placing in
    let pushed = ap placings_of c.in_ok-push.ensures.items ∙ map_push placing_of c.take_name.new.sections.list.items placing
    ∙ ap (λ v. placings_of v.items ++ placing_of placing ∷ []) c.take_name.ensures.list in
    let named = c.in_ok-is_fresh.ensures.named c.if-not-is_fresh.false (placing_of placing)
    (c.in_ok-placing.ensures.name ∙ c.as_str-2.ensures.value ∙ sym c.as_str.ensures.value) in
    subst (HasNames (λ k. k.now) c.take_name.new.sections.names) (sym pushed) named
