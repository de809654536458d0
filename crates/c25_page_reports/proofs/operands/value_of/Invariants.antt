-- what is found in the symbols from here on is what is found in all
use Rattle.std.proofs.Common.{◌≡◌, drop, map}
use Rattle.c25_map.specs.View.{symbol_data}
use Rattle.c25_page_reports.specs.Operands.{value_among}
use Rattle.c25_page_reports.proofs.operands.value_of.Given as goal

abbrev pub invariant-loop-symbol : goal.invariant-loop-symbol
invariant-loop-symbol l = value_among (map symbol_data (drop l.symbol-index l.symbols)) l.name ≡ value_among (map symbol_data l.symbols) l.name
