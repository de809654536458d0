-- The note of a fault after its line.
use Rattle.std.specs.Prelude.{◌≡◌, ◌⊎◌, ℕ, ◌+◌, ◌<◌, ◌==◌, Bool, true, false, List, [], ◌++◌, length, take, count_by, Option, Some, None, IfSome, String, option_map, slice_get}
use Rattle.std.specs.Borrow.{Bor}
use Rattle.std.specs.Str.{IsUtf8, IsValidUpTo}
use Rattle.std.specs.String.{string_bytes}
use Rattle.std.specs.declared.alloc.Global.{Global}
use Rattle.c25_chain.specs.declared.fault.ChainFault.{ChainFault}
use Rattle.c25_chain.specs.declared.fault.ChainFault.TheVariants.{Source, NoFile, Object, Command, Link, Hex, Schedule, Samples, Script, File}
use Rattle.c25_disk.specs.Held.{Held, IsAllOf}
use Rattle.c25_disk.specs.Refusals.{Refuses}
use Rattle.c25_disk.specs.declared.fault.FileFault.{FileFault}
use Rattle.c25_disk.specs.declared.fault.FileFault.TheVariants.{CannotWrite, CannotRead, FileTwice}
use Rattle.c25_chain.specs.Refusal.{refusal_of}
use Rattle.c25_explain.specs.Again.{ShowsOtherLinks}
use Rattle.c25_explain.specs.AllFaults.{ShowsOthers}
use Rattle.c25_explain.specs.Note.{IsNoteOf, line_of}
use Rattle.c25_explain.specs.declared.fault.AnyFault.{AnyFault}
use Rattle.c25_explain.specs.declared.named.NamedFiles.{NamedFiles}
use Rattle.c25_explain.specs.declared.note.Shown.{Shown}
use Rattle.c25_explain.specs.declared.note.Shown.TheVariants as shown
use Rattle.c25_explain.specs.declared.note.Unread.{Unread}
use Rattle.c25_explain.specs.declared.note.Unread.TheVariants.{NotOpened, Refused, TooLong, NotRead, ObjectFile, NotUtf8}
use Rattle.c25_explain.specs.Refusals.{of_refusal}
use Rattle.c25_meaning_objects.specs.RecordReading.{has_magic}
use Rattle.c25_options.specs.Task.{text_of, texts_of}
use Rattle.c25_options.specs.declared.task.FaultOptions.{FaultOptions}
use Rattle.c25_options.specs.declared.task.RunFiles.{RunFiles}
use Rattle.c25_explain.specs.LinkNotes.{IsBehind}
use Rattle.c25_explain.specs.declared.notes.Notes.{Notes}
use Rattle.c25_explain.specs.declared.notes.Notes.TheVariants.{Nothing, After}

-- the notes that options ask for, of these files
abbrev pub AreNotesFor : FaultOptions → RunFiles → Option (Bor (List ℕ)) → (sources objects : List (List ℕ)) → Notes → Type 0
AreNotesFor options files script sources objects (After asked named) =
    (asked ≡ options) × (named.files ≡ files) × (named.script ≡ script) × (texts_of named.sources.now ≡ sources) × (texts_of named.objects.now ≡ objects)
AreNotesFor options files script sources objects Nothing = ⊥

-- ---- the line that is shown

-- a line of the file of this name, if there is one
abbrev pub at_line : Option (List ℕ) → ℕ → Option (List ℕ × ℕ)
at_line name line = option_map (λ file. (file, line)) name

-- the file and the number of the line where a fault is, if it is in a line, with the names of the files that
-- a task reads; a hex text is the first of the objects
abbrev pub place_of : NamedFiles → ChainFault (String Global) → Option (List ℕ × ℕ)
place_of named (Source placed) = Some (string_bytes placed.place.file, placed.place.line)
place_of named (NoFile file line name) = Some (string_bytes file, line)
place_of named (Command placed) = at_line (text_of named.files.command) placed.place
place_of named (Samples line) = at_line (text_of named.files.samples) line
place_of named (Schedule line) = at_line (text_of named.files.schedule) line
place_of named (Script line) = at_line (text_of named.script) line
place_of named (Object placed) = None
place_of named (Link placed) = None
place_of named (Hex placed) = at_line (text_of (slice_get named.objects.now 0)) placed.place
place_of named (File placed) = None

-- the line of this number of the file's text, or nothing where there is no such line
abbrev pub IsLineOf : (file : List ℕ) → (number : ℕ) → (text : List ℕ) → Shown → Type 0
IsLineOf file number text shown.Nothing = line_of text number ≡ None
IsLineOf file number text (shown.Line of_file at line) = (of_file.now ≡ file) × (at ≡ number) × (line_of text number ≡ Some line.now)
IsLineOf file number text (shown.Unread of_file why) = ⊥

-- the line of this number of what the file holds, or nothing, for instance where the file cannot be read
abbrev pub IsLineAt : Held → (file : List ℕ) → (number : ℕ) → Shown → Type 0
IsLineAt held file number shown.Nothing = Unit {0}
IsLineAt held file number shows = (text : List ℕ) × IsAllOf (held file) text × IsLineOf file number text shows

-- ---- a file that cannot be read

-- the name of the file, where it cannot be read
abbrev pub name_by : FileFault → List ℕ → Option (List ℕ)
name_by CannotRead name = Some name
name_by CannotWrite name = None
name_by FileTwice name = None

-- the name of the file, where the fault is a file that cannot be read
abbrev pub unread_name : ChainFault (String Global) → Option (List ℕ)
unread_name (File placed) = name_by placed.fault (string_bytes placed.place)
unread_name (Source placed) = None
unread_name (NoFile file line name) = None
unread_name (Object placed) = None
unread_name (Command placed) = None
unread_name (Link placed) = None
unread_name (Hex placed) = None
unread_name (Schedule line) = None
unread_name (Samples line) = None
unread_name (Script line) = None

-- the number of the first line that is not UTF-8, or none where all bytes are UTF-8
abbrev pub IsLineOfNoText : List ℕ → Option ℕ → Type 0
IsLineOfNoText bytes None = IsUtf8 bytes
IsLineOfNoText bytes (Some line) = (n : ℕ) × IsValidUpTo bytes n × (line ≡ count_by (λ byte. byte == 10) (take n bytes) + 1)

-- what keeps bytes from being a text: they begin as those of an object do, and are not UTF-8, or the first line that is not; or
-- nothing is said
abbrev pub IsWhyNoText : List ℕ → Option Unread → Type 0
IsWhyNoText bytes (Some ObjectFile) = (has_magic bytes ≡ true) × ((line : ℕ) × IsLineOfNoText bytes (Some line))
IsWhyNoText bytes (Some (NotUtf8 line)) = IsLineOfNoText bytes (Some line)
IsWhyNoText bytes None = Unit {0}
IsWhyNoText bytes (Some why) = ⊥

-- what is said of why the file of this name cannot be read, by what may be said of it and what is known of its bytes: a reason that the
-- disk says, more bytes than a file may have, or what keeps its bytes from being a text; or that it cannot be opened or a read fails,
-- with no reason
abbrev pub IsWhy : Refuses → Held → (file : List ℕ) → Option Unread → Type 0
IsWhy refuses held file None = Unit {0}
IsWhy refuses held file (Some NotOpened) = Unit {0}
IsWhy refuses held file (Some (Refused why)) = refuses file why
IsWhy refuses held file (Some TooLong) = IfSome (held file) (λ bytes. 16777216 < length bytes)
IsWhy refuses held file (Some NotRead) = Unit {0}
IsWhy refuses held file (Some ObjectFile) = (bytes : List ℕ) × IsAllOf (held file) bytes × IsWhyNoText bytes (Some ObjectFile)
IsWhy refuses held file (Some (NotUtf8 line)) = (bytes : List ℕ) × IsAllOf (held file) bytes × IsWhyNoText bytes (Some (NotUtf8 line))

-- why the file of this name cannot be read, or nothing
abbrev pub IsUnread : Refuses → Held → (file : List ℕ) → Shown → Type 0
IsUnread refuses held file shown.Nothing = Unit {0}
IsUnread refuses held file (shown.Line of_file number text) = ⊥
IsUnread refuses held file (shown.Unread of_file why) = (of_file.now ≡ file) × IsWhy refuses held file (Some why)

-- ---- notes

-- the explanation of a fault in this line of a file, with the lines after that line
abbrev pub IsExplainedAt : Held → (file : List ℕ) → (number : ℕ) → (behind : List ℕ) → AnyFault → List ℕ → Type 0
IsExplainedAt held file number behind fault note = (shows : Shown) × IsLineAt held file number shows × IsNoteOf fault shows behind note

-- the explanation of a fault of a file that cannot be read, with the lines after the reason
abbrev pub IsExplainedUnread : Refuses → Held → (file : List ℕ) → (behind : List ℕ) → AnyFault → List ℕ → Type 0
IsExplainedUnread refuses held file behind fault note = (shows : Shown) × IsUnread refuses held file shows × IsNoteOf fault shows behind note

-- the explanation of a fault in this line of a file, if it is in a line, and else of this file that cannot be
-- read, if there is one
abbrev pub IsExplainedBy : Refuses → Held → (place : Option (List ℕ × ℕ)) → (unread : Option (List ℕ)) → (behind : List ℕ) → AnyFault → List ℕ → Type 0
IsExplainedBy refuses held (Some place) unread behind fault note = IsExplainedAt held place.0 place.1 behind fault note
IsExplainedBy refuses held None (Some file) behind fault note = IsExplainedUnread refuses held file behind fault note
IsExplainedBy refuses held None None behind fault note = IsNoteOf fault shown.Nothing behind note

-- the explanation of a fault at this place, of these files
abbrev pub IsExplained : Refuses → Held → (place : Option (List ℕ × ℕ)) → NamedFiles → ChainFault (String Global) → List ℕ → Type 0
IsExplained refuses held place named refusal note =
    (behind : List ℕ) × IsBehind held named refusal behind × IsExplainedBy refuses held place (unread_name refusal) behind (of_refusal refusal) note

-- the explanation of a fault where it is asked for, unless memory runs out
abbrev pub IsExplanation : Refuses → Held → (explain : Bool) → NamedFiles → ChainFault (String Global) → List ℕ → Type 0
IsExplanation refuses held true named refusal text =
    IsExplained refuses held (place_of named refusal) named refusal text ⊎ (text ≡ [])
IsExplanation refuses held false named refusal text = text ≡ []

-- the lines of all other faults of the sources or of linking, where they are asked for and the fault is one of
-- these
abbrev pub AreOthers : Held → (explain all : Bool) → NamedFiles → ChainFault (String Global) → List ℕ → Type 0
AreOthers held explain true named (Source placed) text = ShowsOthers held (texts_of named.sources.now) (refusal_of (Source placed)) text
AreOthers held explain true named (NoFile file line name) text = ShowsOthers held (texts_of named.sources.now) (refusal_of (NoFile file line name)) text
AreOthers held explain true named (Object placed) text = text ≡ []
AreOthers held explain true named (Command placed) text = text ≡ []
AreOthers held explain true named (Link placed) text =
    ShowsOtherLinks explain held (text_of named.files.command) (texts_of named.sources.now) (texts_of named.objects.now) (refusal_of (Link placed)) text
AreOthers held explain true named (Hex placed) text = text ≡ []
AreOthers held explain true named (Schedule line) text = text ≡ []
AreOthers held explain true named (Samples line) text = text ≡ []
AreOthers held explain true named (Script line) text = text ≡ []
AreOthers held explain true named (File placed) text = text ≡ []
AreOthers held explain false named refusal text = text ≡ []

-- the note of a fault: its explanation, then the lines of all other faults; or nothing, where memory runs out
abbrev pub IsNoted : Refuses → Held → Notes → ChainFault (String Global) → List ℕ → Type 0
IsNoted refuses held Nothing refusal note = note ≡ []
IsNoted refuses held (After options named) refusal note =
    ((explanation others : List ℕ) × IsExplanation refuses held options.explain named refusal explanation × AreOthers held options.explain options.all named refusal others × (note ≡ explanation ++ others)) ⊎ (note ≡ [])
