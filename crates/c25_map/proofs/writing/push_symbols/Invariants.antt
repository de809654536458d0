-- the lines of the symbols so far stand there
use Rattle.std.proofs.Common.{◌≡◌, ◌++◌, take, map, string_bytes}
use Rattle.std.specs.List.{flat_map}
use Rattle.c25_meaning_linking.specs.MapText.{symbol_text}
use Rattle.c25_map.specs.View.{symbol_data}
use Rattle.c25_map.proofs.writing.push_symbols.Given as goal

abbrev pub invariant-loop-symbol : goal.invariant-loop-symbol
invariant-loop-symbol l = string_bytes l.out ≡ string_bytes l.fn.out ++ flat_map symbol_text (map symbol_data (take l.symbol-index l.symbols))
