use Rattle.std.proofs.Common.{◌≡◌, ◌++◌, take}
use Rattle.std.specs.List.{flat_map}
use Rattle.c25_meaning_objects.specs.Records.{symbol_entry}
use Rattle.c25_module.specs.View.{symbols_data}
use Rattle.c25_records.proofs.writing.put_symbols.Given as goal

abbrev pub invariant-loop-symbol : goal.invariant-loop-symbol
invariant-loop-symbol l = l.out.items ≡ l.fn.out.items ++ flat_map symbol_entry (symbols_data (take l.symbol-index l.symbols))
