-- The lines of a source gone over for all their faults.
use Rattle.std.specs.Prelude.{◌≡◌, ◌<◌, ◌≤◌, ℕ, Bool, true, false, List, [], map}
use Rattle.c25_macro.specs.Expander.{Expansion, Stage, Stands, Absent, Failed}
use Rattle.c25_meaning_assembly.specs.AllFaults.{LinesGoneOver, after_line, faults_of, gone_over, with_fault}
use Rattle.c25_meaning_assembly.specs.ModuleOfSource.{read_and_pass}
use Rattle.c25_meaning_assembly.specs.Sections.{name_count}
use Rattle.c25_meaning_expansion.specs.ExpansionAnswers.{ExpandedLine}
use Rattle.c25_meaning_expansion.specs.ExpansionRuns.{weight}
use Rattle.c25_meaning_expansion.specs.Files.{Files}
use Rattle.c25_meaning_language.specs.ExpansionFault.{ExpansionFault, Missing}
use Rattle.c25_meaning_common.specs.declared.failure.Failure.{Failure}
use Rattle.c25_meaning_common.specs.declared.failure.Failure.TheVariants.{NoMemory, Fault}
use Rattle.c25_phases.specs.View.{fault_of, progress_of}
use Rattle.c25_phases.specs.declared.fault.AsmFault.{AsmFault}
use Rattle.c25_asm.specs.declared.lines_gone_over.LinesGoneOver as code

-- what the lines gone over have made, and their faults
abbrev pub gone_over_of : code.LinesGoneOver → LinesGoneOver
gone_over_of a = record { progress = progress_of a.progress.value; faults = map fault_of a.faults.items }

-- where no line is faulty there are at most 65,535 names
abbrev pub HasRoom : LinesGoneOver → Type 0
HasRoom a = a.faults ≡ [] → name_count a.progress.names a.progress.declared ≤ 65535

-- a line more leads from there to here: what comes next is gone over, or nothing is after the last fault
abbrev pub LeadsTo : ExpandedLine → LinesGoneOver → LinesGoneOver → (more : Bool) → Type 0
LeadsTo l a b true = (go_on : LinesGoneOver → LinesGoneOver) → after_line l (read_and_pass l a.progress) go_on a ≡ go_on b
LeadsTo l a b false = (go_on : LinesGoneOver → LinesGoneOver) → faults_of (after_line l (read_and_pass l a.progress) go_on a) ≡ faults_of b

-- a fault that expansion ends with comes last
abbrev pub EndsWith : Failure AsmFault → LinesGoneOver → LinesGoneOver → Type 0
EndsWith (NoMemory n) a b = ⊥
EndsWith (Fault f) a b = b ≡ with_fault (fault_of f) a

-- what all lines of the module of a name come to, where an expansion has come this far and these lines were
-- gone over
abbrev pub StillComes : Files → (name : List ℕ) → Stage → LinesGoneOver → LinesGoneOver → Type 0
StillComes files name (Stands c) a meant = (n : ℕ) × (weight c < n) × (gone_over files n c a ≡ meant)
StillComes files name Absent a meant = with_fault (Missing name 0 name) a ≡ meant
StillComes files name (Failed f) a meant = ⊥

-- the lines that were gone over have all faults
abbrev pub IsGoneOver : Expansion → (old new : LinesGoneOver) → Type 0
IsGoneOver e old new = (meant : LinesGoneOver) → StillComes e.files e.name e.stage old meant → faults_of meant ≡ faults_of new
