-- What the lines that a module still has make.
use Rattle.std.specs.Prelude.{◌≡◌, ◌<◌, ℕ, Bool, List, Result, Err}
use Rattle.c25_macro.specs.Expander.{Expansion, Stage, Stands, Absent, Failed}
use Rattle.c25_meaning_language.specs.ExpansionFault.{ExpansionFault, Missing}
use Rattle.c25_meaning_expansion.specs.Files.{Files}
use Rattle.c25_meaning_assembly.specs.ModuleOfSource as source
use Rattle.c25_meaning_common.specs.declared.failure.Failure.{Failure}
use Rattle.c25_phases.specs.declared.fault.AsmFault.{AsmFault}
use Rattle.c25_asm.specs.Listed.{AreAlike, Passes}
use Rattle.c25_asm.specs.declared.lines_so_far.LinesSoFar.{LinesSoFar}

-- what all lines of the module of a name make, where an expansion has come this far and the lines so far have
-- passed
abbrev pub StillComes : Files → List ℕ → Stage → source.LinesSoFar → Result source.LinesSoFar ExpansionFault → Type 0
StillComes files name (Stands c) a meant = (n : ℕ) × (c.left < n) × (source.passed files n c a ≡ meant)
StillComes files name Absent a meant = meant ≡ Err (Missing name 0 name)
StillComes files name (Failed f) a meant = ⊥

-- what all lines make, after lines that are alike to these
pub record Comes (listed : Bool) (files : Files) (name : List ℕ) (stage : Stage) (made : source.LinesSoFar) (meant : Result source.LinesSoFar ExpansionFault) : Type 0 where
  pub behind : source.LinesSoFar
  pub alike : AreAlike listed behind made
  pub still : StillComes files name stage behind meant

-- the answer is what all lines make
abbrev pub IsRest : (listed : Bool) → Expansion → source.LinesSoFar → Result LinesSoFar (Failure AsmFault) → Type 0
IsRest listed e made result = (meant : Result source.LinesSoFar ExpansionFault) → Comes listed e.files e.name e.stage made meant → Passes listed meant result
