use Rattle.std.proofs.Common.{◌≡◌, ℕ, ◌+◌, ◌<◌, get_or}
use Rattle.c25_module.specs.Differing.{name_at}
use Rattle.c25_module.specs.View.{symbols_data}
use Rattle.c25_module.proofs.differing.neighbours_differ.Given as goal

abbrev pub invariant-loop-i : goal.invariant-loop-i
invariant-loop-i l = (k : ℕ) → k + 1 < l.i → name_at (symbols_data l.symbols) (get_or l.numbers k 0) ≡ name_at (symbols_data l.symbols) (get_or l.numbers (k + 1) 0) → ⊥
