-- the definitions among the symbols so far stand there
use Rattle.std.proofs.Common.{◌≡◌, ◌++◌, take, map, filter}
use Rattle.c25_meaning_linking.specs.Words.{definition, is_definition}
use Rattle.c25_module.specs.View.{contents, symbols_data}
use Rattle.c25_link_faults.specs.View.{definitions_view}
use Rattle.c25_link_faults.proofs.definitions.push_definitions.Given as goal

abbrev pub invariant-loop-symbol : goal.invariant-loop-symbol
invariant-loop-symbol l = definitions_view l.list.items ≡ definitions_view l.fn.list.items ++ map (definition l.number (contents l.owner)) (filter is_definition (symbols_data (take l.symbol-index l.owner.symbols.items)))
