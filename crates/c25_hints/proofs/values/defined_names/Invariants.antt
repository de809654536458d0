-- the names so far, with those of the symbols that are left, are those of all
use Rattle.std.proofs.Common.{◌≡◌, ◌++◌, drop, map}
use Rattle.c25_hints.proofs.values.defined_names.Given as goal

abbrev pub invariant-loop-number : goal.invariant-loop-number
invariant-loop-number l = map (λ n. n.now) l.names.items ++ map (λ e. e.0) (drop l.number l.symbols.entries) ≡ map (λ e. e.0) l.symbols.entries
