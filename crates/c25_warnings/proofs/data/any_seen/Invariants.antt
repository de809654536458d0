-- one of the symbols that are left is seen where one of all is
use Rattle.std.proofs.Common.{◌≡◌, drop}
use Rattle.std.specs.List.{list_any}
use Rattle.c25_module.specs.View.{symbols_data}
use Rattle.c25_warnings.specs.Data.{is_seen}
use Rattle.c25_warnings.proofs.data.any_seen.Given as goal

abbrev pub invariant-loop-symbol : goal.invariant-loop-symbol
invariant-loop-symbol l = list_any (is_seen l.section) (symbols_data (drop l.symbol-index l.symbols)) ≡ list_any (is_seen l.section) (symbols_data l.symbols)
