-- The task `link`: the program of object files on a disk.
use Rattle.std.specs.Prelude.{◌≡◌, ◌⊎◌, ℕ, List, [], Some, Result, Ok, Err}
use Rattle.c25_chain.specs.Linked.{IsLinked, IsRefusedUnder}
use Rattle.c25_chain.specs.Refusal.{Fault, refusal_of}
use Rattle.c25_chain.specs.declared.built.Built.{Built}
use Rattle.c25_disk.specs.Held.{Held, Stay}
use Rattle.c25_meaning_expansion.specs.Files.{Files}
use Rattle.c25_meaning_objects.specs.Module.{Contents}
use Rattle.c25_meaning_common.specs.declared.failure.Failure.TheVariants as failure
use Rattle.c25_inputs.specs.Files.{AfterNamed, plain_names}
use Rattle.c25_inputs.specs.Objects.{AfterObjects, modules_in}
use Rattle.c25_options.specs.Task.{texts_of}
use Rattle.c25_options.specs.declared.task.LinkTask.{LinkTask}
use Rattle.c25_report.specs.ProgramFiles.{files_of}
use Rattle.c25_report.specs.declared.ending.Ending.{Ending}
use Rattle.c25_source_notes.specs.declared.notes.SourceNotes.{SourceNotes}
use Rattle.c25_tasks.specs.Building.{texts_in}
use Rattle.c25_tasks.specs.Reading.{AreNotesUnder, Noting}
use Rattle.c25_tasks.specs.Tells.{IsReportOf, WritesTexts, Wrote}

-- the program of the modules of these files under the text of a command file, without listings, or the first
-- fault: of a module, or else of the command, or else of linking
abbrev pub LinksFiles : Files → List ℕ → Result Built Fault → Type 0
LinksFiles files text (Ok built) =
    (modules : List Contents) × (modules_in files ≡ Ok modules) × IsLinked modules text built.linked × (built.listings.items ≡ [])
LinksFiles files text (Err (failure.NoMemory n)) = Unit {0}
LinksFiles files text (Err (failure.Fault f)) =
    (modules_in files ≡ Err (refusal_of f))
    ⊎ ((modules : List Contents) × (modules_in files ≡ Ok modules) × IsRefusedUnder modules text (refusal_of f))

-- the program of files on a disk: the command file is read first, and then the objects
abbrev pub LinksFrom : Held → (command : List ℕ) → (objects : List (List ℕ)) → Result Built Fault → Type 0
LinksFrom held command objects answer = AfterNamed held command (λ text. AfterObjects held objects (λ files. LinksFiles files text)) answer

-- the files of a linked program are written, unless memory runs out before; where there is no program, nothing is written
abbrev pub WritesLinked : Held → SourceNotes → List ℕ → Result Built Fault → Ending → (note : List ℕ) → Wrote → Type 0
WritesLinked held notes base (Ok built) e note written = WritesTexts held notes (files_of base (texts_in built)) e note written
WritesLinked held notes base (Err fault) e note written = IsReportOf held notes fault e note × Stay written.0 written.1

-- what is done for a task
abbrev pub DoesLink : Held → LinkTask → Ending → (note : List ℕ) → Wrote → Type 0
DoesLink held task e note written =
    Noting (AreNotesUnder task.faults (Some task.command) (plain_names []) (texts_of task.objects.items))
    (λ notes. (told : Result Built Fault) × LinksFrom held task.command.now (texts_of task.objects.items) told × WritesLinked held notes task.base.now told e note written)
