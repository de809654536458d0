use Rattle.std.proofs.Common.{◌++◌, List, length, filter, map, ap, ◌∙◌, arith}
use Rattle.std.proofs.lemmas.List.{take_all}
use Rattle.c25_meaning_linking.specs.Words.{is_defined}
use Rattle.c25_module.specs.View.{contents, symbols_data}
use Rattle.c25_module.specs.declared.parts.Symbol.{Symbol}
use Rattle.c25_symbols.specs.Symbols.{listed}
use Rattle.c25_symbols.specs.View.{entries_view}
use Rattle.c25_symbols.proofs.entries.push_symbols.Goals as goal

pub returns : goal.returns
returns c = λ modules sources places number knows source.
    let m = contents c.args.owner.now in
    let all = take_all c.loop-symbol.symbol-index c.args.owner.now.symbols.items (omega (arith, ap length c.deref-symbol-items.ensures.value, c.loop-symbol-test.false)) in
    c.loop-symbol.invariant modules sources places number knows source
    ∙ ap (λ (ss : List Symbol). entries_view c.args.entries.now.items ++ map (listed modules sources places number m) (filter (λ y. is_defined y.kind) (symbols_data ss))) all
