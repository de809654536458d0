use Rattle.std.proofs.Common.{rules, tests, sym, ◌∙◌}
use Rattle.std.proofs.lemmas.Iterator.{YieldsList-from_slice}
use Rattle.std.proofs.lemmas.Iterator.Search.{any_from_yields_List}
use Rattle.std.specs.List.{list_any}
use Rattle.c25_meaning_objects.specs.Module.{Contents}
use Rattle.c25_line_warnings.proofs.Lists.{any_in_all}
use Rattle.c25_warnings.specs.Linking.{reserves}
use Rattle.c25_warnings.proofs.linking.is_reserved.Goals as goal

pub returns : goal.returns
returns c =
    let name = c.args.name.now in
    any_from_yields_List (λ (m : Contents). list_any (reserves name) m.sections) _ _ _ c.any.ensures.ran (YieldsList-from_slice _ c.iter.ensures.rest) (λ x b q k. search (rules, tests))
    ∙ sym (any_in_all (reserves name) (λ (m : Contents). m.sections) c.args.modules.now)
