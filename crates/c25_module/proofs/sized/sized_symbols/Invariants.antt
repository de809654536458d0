use Rattle.std.proofs.Common.{drop}
use Rattle.std.specs.Prelude.{FitsSigned}
use Rattle.std.specs.Int.{w32}
use Rattle.std.specs.List.{AllByRecursion}
use Rattle.c25_module.specs.View.{symbols_data}
use Rattle.c25_module.proofs.sized.sized_symbols.Given as goal

abbrev pub invariant-loop-symbol : goal.invariant-loop-symbol
invariant-loop-symbol l =
    AllByRecursion (λ y. FitsSigned w32 y.value) (symbols_data (drop l.symbol-index l.symbols))
    → AllByRecursion (λ y. FitsSigned w32 y.value) (symbols_data l.symbols)
