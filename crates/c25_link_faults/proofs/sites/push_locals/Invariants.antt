-- the symbols so far that are for the module alone stand there
use Rattle.std.proofs.Common.{◌≡◌, ◌++◌, take, map, filter}
use Rattle.c25_meaning_linking.specs.Words.{definition}
use Rattle.c25_module.specs.View.{contents, symbols_data}
use Rattle.c25_link_faults.specs.Sites.{is_local}
use Rattle.c25_link_faults.specs.View.{definitions_view}
use Rattle.c25_link_faults.proofs.sites.push_locals.Given as goal

abbrev pub invariant-loop-symbol : goal.invariant-loop-symbol
invariant-loop-symbol l = definitions_view l.list.items ≡ definitions_view l.fn.list.items ++ map (definition l.number (contents l.owner)) (filter is_local (symbols_data (take l.symbol-index l.owner.symbols.items)))
