use Rattle.std.proofs.Common.{ℕ, List, drop}
use Rattle.c25_earlier.proofs.copying.copying_place.Given as goal
use Rattle.c25_earlier.specs.Copying.{Copies}
use Rattle.c25_statements.specs.View.{texts_of}

abbrev pub invariant-loop-source : goal.invariant-loop-source
invariant-loop-source l = (file : List ℕ) (line : ℕ) → Copies l.files (texts_of (drop l.source-index l.sources)) l.name file line
    → Copies l.files (texts_of l.sources) l.name file line
