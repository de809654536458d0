use Rattle.std.proofs.Common.{◌∙◌, ℕ, List, ap, map, sym}
use Rattle.c25_bits.specs.Cut.{cut}
use Rattle.c25_map.specs.View.{symbol_data}
use Rattle.c25_meaning_linking.specs.Words.{base_value, name_value}
use Rattle.c25_meaning_objects.specs.declared.object.RelocationBase.{RelocationBase}
use Rattle.c25_module.specs.View.{contents}
use Rattle.c25_symbols.specs.View.{places_view}
use Rattle.c25_page_reports.proofs.Named.{symbols_valued}
use Rattle.c25_page_reports.proofs.operands.base_value.Goals as goal

pub returns-in-External : goal.returns-in-External
returns-in-External c = λ modules number has knows.
    let places = places_view c.args.map.now.sections.items in
    let m = contents c.args.owner.now in
    c.name_value.ensures modules places (ap (map symbol_data) c.deref.ensures.value ∙ symbols_valued modules c.args.map.now has)
    ∙ ap (λ (name : List ℕ). cut (name_value modules places name) 32) c.symbol_name.ensures
    ∙ ap (λ (b : RelocationBase). cut (base_value modules places number m b) 32) (sym c.in-External.is)
