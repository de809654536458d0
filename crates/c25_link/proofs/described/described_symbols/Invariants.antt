-- the symbols so far stand there
use Rattle.std.proofs.Common.{◌≡◌, take, map}
use Rattle.c25_map.specs.View.{symbol_data}
use Rattle.c25_meaning_linking.specs.Linking.{symbol_value}
use Rattle.c25_link.specs.Layout.{places_in}
use Rattle.c25_link.specs.View.{definitions_view}
use Rattle.c25_link.proofs.described.described_symbols.Given as goal

abbrev pub invariant-loop-definition : goal.invariant-loop-definition
invariant-loop-definition l = map symbol_data l.symbols.items ≡ map (symbol_value l.layout.modules.now (places_in l.layout)) (definitions_view (take l.definition-index l.layout.definitions.now.list.items))
