-- the next place of the symbols that are left and the one so far is that of all
use Rattle.std.proofs.Common.{◌≡◌, None, drop}
use Rattle.c25_module.specs.View.{symbols_data}
use Rattle.c25_warnings.specs.Data.{next_place}
use Rattle.c25_warnings.proofs.data.next_place.Given as goal

abbrev pub invariant-loop-symbol : goal.invariant-loop-symbol
invariant-loop-symbol l = next_place l.section l.place l.next (symbols_data (drop l.symbol-index l.symbols)) ≡ next_place l.section l.place None (symbols_data l.symbols)
