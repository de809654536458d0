-- What is done for tasks that write nothing.
use Rattle.std.proofs.Common.{◌≡◌, subst, ℕ, Bool, true, false, List, [], ◌∷◌, Option}
use Rattle.std.specs.Prelude.{None}
use Rattle.c25_disk.specs.Held.{Held}
use Rattle.c25_fronts.specs.Folders.{Opens}
use Rattle.c25_inputs.specs.Files.{SourceNames, plain_names}
use Rattle.c25_options.specs.Task.{text_of, texts_of}
use Rattle.c25_options.specs.declared.task.CheckTask.{CheckTask}
use Rattle.c25_options.specs.declared.task.DebugTask.{DebugTask}
use Rattle.c25_image_source.specs.declared.asked.Printing.{Printing}
use Rattle.c25_report.specs.declared.ending.Ending.{Ending}
use Rattle.c25_source_notes.specs.Notes.{AreSourceNotes}
use Rattle.c25_source_notes.specs.declared.notes.SourceNotes.{SourceNotes}
use Rattle.c25_tasks.specs.Checking.{ChecksTold, DoesCheck}
use Rattle.c25_tasks.specs.Debugging.{DebugsAsked, DoesDebug}
use Rattle.c25_tasks.specs.Disassembly.{DisassemblesTold, DoesDisassemble}
use Rattle.c25_tasks.specs.Reading.{AreNotesUnder, read_by, run_files, sources_under}
use Rattle.c25_tasks.specs.Tells.{Printed}
use Rattle.c25_tasks.proofs.Noted.{noted}

module _ (held : Held) (opens : Opens) (given : SourceNames) (read : Held) (notes : SourceNotes) (e : Ending) (note : List ℕ) (out : Printed) where
  pub does_debug : (input : Option (List ℕ)) (task : DebugTask) → given ≡ sources_under task.sources.items task.reading → read ≡ read_by (texts_of task.sources.items) (text_of task.script ∷ run_files task.files) task.reading opens held
      → AreSourceNotes task.faults task.files task.script given [] notes → DebugsAsked read notes given (text_of task.script) task.interactive task.files input e note out → DoesDebug held opens input task e note out
  does_debug input task = noted (λ s n. AreSourceNotes task.faults task.files task.script s [] n) (λ h s n. DebugsAsked h n s (text_of task.script) task.interactive task.files input e note out)
      given (sources_under task.sources.items task.reading) read (read_by (texts_of task.sources.items) (text_of task.script ∷ run_files task.files) task.reading opens held) notes

pub does_check : (held : Held) (opens : Opens) (given : SourceNames) (read : Held) (notes : SourceNotes) (e : Ending) (note : List ℕ) (task : CheckTask) → given ≡ sources_under task.sources.items task.reading → read ≡ read_by (texts_of task.sources.items) (text_of task.command ∷ []) task.reading opens held
    → AreNotesUnder (record { explain = task.faults.explain; all = true }) task.command given [] notes → ChecksTold task.faults.explain task.pages read notes given (text_of task.command) e note → DoesCheck held opens task e note
does_check held opens given read notes e note task = noted (λ s n. AreNotesUnder (record { explain = task.faults.explain; all = true }) task.command s [] n) (λ h s n. ChecksTold task.faults.explain task.pages h n s (text_of task.command) e note)
    given (sources_under task.sources.items task.reading) read (read_by (texts_of task.sources.items) (text_of task.command ∷ []) task.reading opens held) notes

pub does_disassemble : (held : Held) (given : SourceNames) (notes : SourceNotes) (explain : Bool) (e : Ending) (note : List ℕ) (out : Printed) (printing : Printing) → given ≡ plain_names [] → AreNotesUnder (record { explain = explain; all = false }) None given (printing.file.now ∷ []) notes
    → DisassemblesTold held notes printing.file.now (text_of printing.from) e note out → DoesDisassemble held explain printing e note out
does_disassemble held given notes explain e note out printing plain asked told = (notes, subst (λ (s : SourceNames). AreNotesUnder (record { explain = explain; all = false }) None s (printing.file.now ∷ []) notes) plain asked, told)
