use Rattle.std.proofs.Common.{◌≡◌, drop}
use Rattle.std.specs.List.{list_all}
use Rattle.c25_meaning_objects.specs.Module.{symbol_stands}
use Rattle.c25_module.specs.View.{sections_data, symbols_data}
use Rattle.c25_module.proofs.spelling.all_symbols_stand.Given as goal

abbrev pub invariant-loop-symbol : goal.invariant-loop-symbol
invariant-loop-symbol l =
    list_all (symbol_stands l.version (sections_data l.sections)) (symbols_data (drop l.symbol-index l.symbols))
    ≡ list_all (symbol_stands l.version (sections_data l.sections)) (symbols_data l.symbols)
