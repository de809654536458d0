use Rattle.std.proofs.Common.{◌++◌, List, length, map, filter, ap, ◌∙◌, arith}
use Rattle.std.proofs.lemmas.List.{take_all}
use Rattle.c25_meaning_linking.specs.Words.{definition}
use Rattle.c25_link_faults.specs.Sites.{is_local}
use Rattle.c25_module.specs.View.{contents, symbols_data}
use Rattle.c25_module.specs.declared.parts.Symbol.{Symbol}
use Rattle.c25_link_faults.specs.View.{definitions_view}
use Rattle.c25_link_faults.proofs.sites.push_locals.Goals as goal

pub returns : goal.returns
returns c =
    let m = contents c.args.owner.now in
    let all = take_all c.loop-symbol.symbol-index c.args.owner.now.symbols.items (omega (arith, ap length c.deref-symbol-items.ensures.value, c.loop-symbol-test.false)) in
    c.loop-symbol.invariant
    ∙ ap (λ (ss : List Symbol). definitions_view c.args.list.now.items ++ map (definition c.args.number m) (filter is_local (symbols_data ss))) all
