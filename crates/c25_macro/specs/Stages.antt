-- Where an expander stands, as its callers see it.
use Rattle.std.specs.Prelude.{◌≡◌, ℕ, List, Option, Result, Ok, Err}
use Rattle.std.specs.String.{string_bytes}
use Rattle.c25_meaning_language.specs.ExpansionFault.{ExpansionFault, Faulty, Missing}
use Rattle.c25_meaning_expansion.specs.ExpansionRuns.{start_of}
use Rattle.c25_meaning_expansion.specs.Files.{Files, file_name}
use Rattle.c25_meaning_common.specs.declared.failure.Failure.{Failure}
use Rattle.c25_meaning_common.specs.declared.failure.Failure.TheVariants.{NoMemory, Fault}
use Rattle.c25_macro.specs.Config.{config}
use Rattle.c25_macro.specs.Expander as exp
use Rattle.c25_macro.specs.Expander.{ExpandFault, begun_at, Tells}
use Rattle.c25_macro.specs.declared.answer.ExpLine.{ExpLine}
use Rattle.c25_macro.specs.declared.expander_fault.ExpanderFault.{ExpanderFault}
use Rattle.c25_macro.specs.declared.expander_fault.ExpanderFault.TheVariants as refusal
use Rattle.c25_macro.specs.declared.stage.Stage.{Stage}
use Rattle.c25_macro.specs.declared.stage.Stage.TheVariants as stage

-- the failure that a refusal is, with the name of the line's file
abbrev pub failure_in : Files → Failure ExpanderFault → Failure ExpansionFault
failure_in files (NoMemory n) = NoMemory n
failure_in files (Fault (refusal.Faulty place kind)) = Fault (Faulty (file_name files place.file) place.line kind)
failure_in files (Fault (refusal.Missing place name)) = Fault (Missing (file_name files place.file) place.line (string_bytes name))

-- where an expansion stands at this stage of its expander
abbrev pub stage_of : Files → List ℕ → Stage → exp.Stage
stage_of files name stage.Before = begun_at (start_of files name)
stage_of files name (stage.BoundedState s) = exp.Stands (config s.state.value)
stage_of files name stage.NoModule = exp.Failed (Fault (Missing name 0 name))
stage_of files name (stage.NoMemory n) = exp.Failed (NoMemory n)
stage_of files name (stage.Faulty f) = exp.Failed (Fault (Faulty f.place.file.now f.place.line f.fault))
stage_of files name (stage.Missing file line wanted) = exp.Failed (Fault (Missing file.now line (string_bytes wanted)))

-- after this refusal the expansion stands at the failure, and the answer reports it
abbrev pub IsRefused : Files → List ℕ → Failure ExpanderFault → Stage → Result (Option ExpLine) (Failure ExpandFault) → Type 0
IsRefused files name refusal new (Err e) = (stage_of files name new ≡ exp.Failed (failure_in files refusal)) × Tells (failure_in files refusal) e
IsRefused files name refusal new (Ok o) = ⊥
