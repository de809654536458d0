-- The note of a fault of sources in front of which symbols may be defined.
use Rattle.std.specs.Prelude.{◌≡◌, ◌⊎◌, ◌==◌, ℕ, Bool, true, false, List, [], length, map, Option, String}
use Rattle.std.specs.Borrow.{Bor}
use Rattle.std.specs.declared.alloc.Global.{Global}
use Rattle.c25_chain.specs.declared.fault.ChainFault.{ChainFault}
use Rattle.c25_disk.specs.Held.{Held}
use Rattle.c25_disk.specs.Refusals.{Refuses}
use Rattle.c25_explain.specs.Notes.{AreNotesFor, IsNoted}
use Rattle.c25_explain.specs.declared.notes.Notes.{Notes}
use Rattle.c25_explain.specs.declared.notes.Notes.TheVariants.{Nothing, After}
use Rattle.c25_fronts.specs.Fronts.{front_name, fronted, fronts}
use Rattle.c25_inputs.specs.Files.{SourceNames, source_names}
use Rattle.c25_options.specs.Task.{texts_of}
use Rattle.c25_options.specs.declared.task.FaultOptions.{FaultOptions}
use Rattle.c25_options.specs.declared.task.RunFiles.{RunFiles}
use Rattle.c25_source_notes.specs.Lines.{shown_text}
use Rattle.c25_source_notes.specs.Places.{IsWithFolders}
use Rattle.c25_source_notes.specs.declared.notes.SourceNotes.{SourceNotes}
use Rattle.c25_source_notes.specs.declared.notes.SourceNotes.TheVariants.{Plain, Reading}

-- the notes that options ask for, of these sources and of these other files
abbrev pub AreSourceNotes : FaultOptions → RunFiles → Option (Bor (List ℕ)) → SourceNames → (objects : List (List ℕ)) → SourceNotes → Type 0
AreSourceNotes options files script sources objects (Plain notes) = ⊥
AreSourceNotes options files script sources objects (Reading notes given) =
    (source_names given ≡ sources) × AreNotesFor options files script sources.names objects notes

-- the names of the sources of notes
abbrev pub sources_in : Notes → List (List ℕ)
sources_in Nothing = []
sources_in (After options named) = texts_of named.sources.now

-- the same notes, but of the fronts of the sources
abbrev pub AreOfFronts : Notes → Notes → Type 0
AreOfFronts Nothing shown = shown ≡ Nothing
AreOfFronts (After options named) shown =
    AreNotesFor options named.files named.script (map front_name (texts_of named.sources.now)) (texts_of named.objects.now) shown

-- the note of a fault of sources in front of which these symbols are defined: that of their fronts on a disk that has these in
-- addition, with its lines as they are shown of the sources; or nothing, where memory runs out
abbrev pub IsNoteOfFronts : Refuses → Held → Notes → (definitions : List (List ℕ)) → ChainFault (String Global) → List ℕ → Type 0
IsNoteOfFronts refuses held notes definitions fault note =
    ((shown : Notes) × AreOfFronts notes shown × (text : List ℕ) × IsNoted refuses (fronted (fronts definitions (sources_in notes)) held) shown fault text × (note ≡ shown_text (sources_in notes) text)) ⊎ (note ≡ [])

-- the note of a fault of sources in front of which these symbols are defined; where there are none, that of the sources as they are
abbrev pub IsNoteUnder : (none : Bool) → Refuses → Held → Notes → (definitions : List (List ℕ)) → ChainFault (String Global) → List ℕ → Type 0
IsNoteUnder true refuses held notes definitions fault note = IsNoted refuses held notes fault note
IsNoteUnder false refuses held notes definitions fault note = IsNoteOfFronts refuses held notes definitions fault note

-- the note of a fault of sources, and what it says of the folders in which copied files are looked for
abbrev pub IsNoteOfSources : Refuses → Held → Notes → SourceNames → ChainFault (String Global) → List ℕ → Type 0
IsNoteOfSources refuses held notes sources fault note =
    (plain : List ℕ) × IsNoteUnder (length sources.definitions == 0) refuses held notes sources.definitions fault plain × IsWithFolders held notes sources.folders fault plain note

-- the note of a fault
abbrev pub IsSourceNote : Refuses → Held → SourceNotes → ChainFault (String Global) → List ℕ → Type 0
IsSourceNote refuses held (Plain notes) fault note = IsNoted refuses held notes fault note
IsSourceNote refuses held (Reading notes given) fault note = IsNoteOfSources refuses held notes (source_names given) fault note
