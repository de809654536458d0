use Rattle.std.proofs.Common.{drop}
use Rattle.std.specs.Prelude.{FitsSigned}
use Rattle.std.specs.Int.{w32}
use Rattle.std.specs.List.{AllByRecursion}
use Rattle.c25_module.proofs.sized.sized_relocations.Given as goal

abbrev pub invariant-loop-relocation : goal.invariant-loop-relocation
invariant-loop-relocation l =
    AllByRecursion (λ r. FitsSigned w32 r.addend) (drop l.relocation-index l.relocations)
    → AllByRecursion (λ r. FitsSigned w32 r.addend) l.relocations
