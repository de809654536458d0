-- How the sources of a task are read, and which notes are reported of its faults.
use Rattle.std.specs.Prelude.{ℕ, List, [], ◌∷◌, Option, None}
use Rattle.std.specs.Borrow.{Bor}
use Rattle.c25_disk.specs.Held.{Held}
use Rattle.c25_fronts.specs.Folders.{Opens, in_folders}
use Rattle.c25_inputs.specs.Files.{SourceNames}
use Rattle.c25_options.specs.Task.{text_of, texts_of}
use Rattle.c25_options.specs.declared.task.FaultOptions.{FaultOptions}
use Rattle.c25_options.specs.declared.task.RunFiles.{RunFiles}
use Rattle.c25_options.specs.declared.task.SourceOptions.{SourceOptions}
use Rattle.c25_source_notes.specs.Notes.{AreSourceNotes}
use Rattle.c25_source_notes.specs.declared.notes.SourceNotes.{SourceNotes}

-- ---- sources

-- the symbols that options define in front of sources
abbrev pub definitions_in : SourceOptions → List (List ℕ)
definitions_in reading = texts_of reading.definitions.items

-- sources, the symbols that options define in front of them, and the folders in which files are looked for that they copy
abbrev pub sources_under : List (Bor (List ℕ)) → SourceOptions → SourceNames
sources_under sources reading =
    record { names = texts_of sources; definitions = definitions_in reading; folders = texts_of reading.folders.items }

-- the files next to sources that a run reads
abbrev pub run_files : RunFiles → List (Option (List ℕ))
run_files files = text_of files.command ∷ text_of files.samples ∷ text_of files.schedule ∷ []

-- what a task reads of a disk: copied files are looked for in the folders of its options too, but not the sources and the
-- files next to them
abbrev pub read_by : (sources : List (List ℕ)) → (beside : List (Option (List ℕ))) → SourceOptions → Opens → Held → Held
read_by sources beside reading opens held = in_folders sources beside (texts_of reading.folders.items) opens held

-- ---- notes

-- the notes of a task that reads no samples, schedule or script
abbrev pub AreNotesUnder : FaultOptions → (command : Option (Bor (List ℕ))) → SourceNames → (objects : List (List ℕ)) → SourceNotes → Type 0
AreNotesUnder options command sources objects notes =
    AreSourceNotes options (record { command = command; samples = None; schedule = None }) None sources objects notes

-- what is done with these notes
abbrev pub Noting : (SourceNotes → Type 0) → (SourceNotes → Type 0) → Type 0
Noting asked done = (notes : SourceNotes) × asked notes × done notes
