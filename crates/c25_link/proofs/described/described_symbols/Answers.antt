use Rattle.std.proofs.Common.{◌≡◌, ◌+◌, ◌<◌, List, map, take, length, get_or, ap, sym, ◌∙◌, ◌++◌, ◌∷◌, [], arith, rules, to_z, of_z, w64}
use Rattle.std.proofs.lemmas.List.{map-append}
use Rattle.c25_map.specs.View.{symbol_data}
use Rattle.c25_meaning_linking.specs.Linking.{symbol_value, named_value}
use Rattle.c25_meaning_linking.specs.MapText.{NamedValue}
use Rattle.c25_link.specs.Layout.{places_in}
use Rattle.c25_link.specs.View.{definition_view, definitions_view}
use Rattle.c25_link.specs.declared.definitions.Definition.{Definition}
use Rattle.c25_link.proofs.Named.{owner_at}
use Rattle.c25_link.proofs.Search.{mapped_more}
use Rattle.c25_link.proofs.described.described_symbols.Goals as goal

pub loop-definition-preserved : goal.loop-definition-preserved
loop-definition-preserved c =
    let same = c.deref-definition-items.ensures.value in
    let modules = c.args.layout.now.modules.now in
    let valued = symbol_value modules (places_in c.args.layout.now) in
    let items = c.args.layout.now.definitions.now.list.items in
    let i = c.loop-definition.definition-index in
    let d = c.definition-item.result in
    let lt : i < length items = omega (arith, ap length same) in
    let at : d ≡ get_or items i d = c.definition-item.is ∙ ap (λ (xs : List Definition). get_or xs i d) same in
    let value = c.definition_value-value.ensures.value (owner_at modules items i d c.requires.definitions.list lt at) in
    let so_far : List NamedValue = map valued (definitions_view (take i items)) in
    let whole : to_z w64 (of_z w64 c.definition_value-value.result) ≡ c.definition_value-value.result = search rules in
    let made : symbol_data c.in_ok-global_symbol.field-0 ≡ valued (definition_view d) = c.in_ok-global_symbol.ensures ∙ (λ j. named_value (c.deref.ensures j) ((whole ∙ value) j)) in
    let more : map valued (definitions_view (take (i + 1) items)) ≡ so_far ++ valued (definition_view d) ∷ [] =
    ap (map valued) (mapped_more definition_view items i d lt at) ∙ map-append valued (definitions_view (take i items)) (definition_view d ∷ []) in
    ap (map symbol_data) c.in_ok-push.ensures.items ∙ map-append symbol_data c.loop-definition.symbols.items (c.in_ok-global_symbol.field-0 ∷ [])
    ∙ ap (λ (ys : List NamedValue). ys ++ symbol_data c.in_ok-global_symbol.field-0 ∷ []) c.loop-definition.invariant
    ∙ ap (λ (y : NamedValue). so_far ++ y ∷ []) made ∙ sym more
