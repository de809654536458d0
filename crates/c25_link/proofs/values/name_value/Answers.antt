use Rattle.std.proofs.Common.{◌≡◌, Option, Some, pos, sym, ap, ◌∙◌, rules, to_z, of_z, w64}
use Rattle.std.specs.Option.{option_map_or}
use Rattle.c25_meaning_linking.specs.Words.{Definition, definitions, definition_of, definition_value}
use Rattle.c25_link.specs.Layout.{places_in}
use Rattle.c25_link.specs.View.{definition_view}
use Rattle.c25_link.proofs.Owned.{definition_owned}
use Rattle.c25_link.proofs.values.name_value.Goals as goal

pub returns-in-Some-clause-value : goal.returns-in-Some-clause-value
returns-in-Some-clause-value c =
    let modules = c.args.layout.now.modules.now in
    let found : Some (definition_view c.in-Some.definition) ≡ definition_of c.args.name.now (definitions modules) = c.in-Some.ensures (definitions modules) c.requires.definitions in
    let whole : to_z w64 (of_z w64 c.definition_value.result) ≡ c.definition_value.result = search rules in
    whole ∙ c.definition_value.ensures.value (definition_owned modules c.args.name.now (definition_view c.in-Some.definition) (sym found))
    ∙ ap (λ (o : Option Definition). option_map_or (definition_value modules (places_in c.args.layout.now)) o (pos 0)) found
