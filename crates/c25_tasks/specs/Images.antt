-- The task `dis`: a file is printed, or an image is written as a source.
use Rattle.std.specs.Prelude.{◌≡◌, ◌⊎◌, ℕ, Bool, true, false, List, [], ◌∷◌, ◌++◌, Option, Some, None, Result, Ok, Err, String, codes}
use Rattle.std.specs.Io.KnownBytes.{Keeps}
use Rattle.std.specs.String.{string_bytes}
use Rattle.std.specs.declared.alloc.Global.{Global}
use Rattle.c25_binary.specs.declared.binary_fault.BinaryFault.{BinaryFault}
use Rattle.c25_binary.specs.declared.binary_fault.BinaryFault.TheVariants as binary
use Rattle.c25_disk.specs.Held.{Held, Stay}
use Rattle.c25_explain.specs.Note.{IsNoteOf}
use Rattle.c25_explain.specs.Notes.{IsExplainedAt}
use Rattle.c25_explain.specs.declared.fault.AnyFault.{AnyFault}
use Rattle.c25_explain.specs.declared.fault.AnyFault.TheVariants as any
use Rattle.c25_explain.specs.declared.note.Shown.TheVariants.{Nothing}
use Rattle.c25_image_source.specs.Asked.{dis_asked, first_file, mistake_text}
use Rattle.c25_image_source.specs.Faults.{image_fault, image_line, not_made_line}
use Rattle.c25_image_source.specs.Made.{MakesSource, command_name, overwrites, source_name}
use Rattle.c25_image_source.specs.declared.asked.DisAsked.{DisAsked}
use Rattle.c25_image_source.specs.declared.asked.DisAsked.TheVariants as asked
use Rattle.c25_image_source.specs.declared.asked.ImageAsked.{ImageAsked}
use Rattle.c25_image_source.specs.declared.fault.ImageFault.{ImageFault}
use Rattle.c25_image_source.specs.declared.fault.ImageFault.TheVariants as image
use Rattle.c25_image_source.specs.declared.fault.SourceFault.{SourceFault}
use Rattle.c25_image_source.specs.declared.fault.SourceFault.TheVariants as fault
use Rattle.c25_image_source.specs.declared.made.MadeSource.{MadeSource}
use Rattle.c25_image_source.specs.declared.mistake.Mistake.{Mistake}
use Rattle.c25_inputs.specs.Files.{plain_names}
use Rattle.c25_meaning_common.specs.declared.failure.Failure.{Failure}
use Rattle.c25_meaning_common.specs.declared.failure.Failure.TheVariants as failure
use Rattle.c25_meaning_expansion.specs.Files.{Files}
use Rattle.c25_meaning_language.specs.declared.statement.FaultKind.TheVariants as kind
use Rattle.c25_options.specs.Task.{text_of}
use Rattle.c25_options.specs.declared.task.DisassembleTask.{DisassembleTask}
use Rattle.c25_report.specs.Ending.{IsShort}
use Rattle.c25_report.specs.declared.ending.Ending.{Ending}
use Rattle.c25_report.specs.declared.ending.Ending.TheVariants.{NoMemory}
use Rattle.c25_source.specs.declared.source.NotMade.{NotMade}
use Rattle.c25_source.specs.declared.source.NotMade.TheVariants.{LongName, TooManySections}
use Rattle.c25_source.specs.declared.source.Source.{Source}
use Rattle.c25_source_notes.specs.declared.notes.SourceNotes.{SourceNotes}
use Rattle.c25_tasks.specs.BuildToDisk.{WritesAndPrints}
use Rattle.c25_tasks.specs.Disassembly.{DoesDisassemble}
use Rattle.c25_tasks.specs.Reading.{AreNotesUnder, Noting}
use Rattle.c25_tasks.specs.Running.{is_explained}
use Rattle.c25_tasks.specs.Tells.{HasFault, IsMisuse, IsReportOf, IsShortOf, Printed, Wrote}

-- ---- faults

-- a line is reported with a note of which this holds, unless memory ran out
abbrev pub TellsNoted : List ℕ → (List ℕ → Type 0) → Ending → (note : List ℕ) → Type 0
TellsNoted line noted e note = (HasFault line e × noted note) ⊎ (IsShort e × (note ≡ []))

-- the note of a fault that has no line: its explanation, unless memory runs out
abbrev pub IsNoteAlone : AnyFault → (note : List ℕ) → Type 0
IsNoteAlone fault note = IsNoteOf fault Nothing [] note ⊎ (note ≡ [])

-- a fault of binary files among all faults
abbrev pub any_of : BinaryFault → AnyFault
any_of binary.OddLength = any.OddLength
any_of binary.LengthsDiffer = any.LengthsDiffer
any_of binary.TooLong = any.TooLong

-- the note of a line of the hints that is no hint: its explanation after that line, unless memory runs out
abbrev pub IsHintNote : Held → (hints : Option (List ℕ)) → (line : ℕ) → (note : List ℕ) → Type 0
IsHintNote held None line note = note ≡ []
IsHintNote held (Some file) line note = IsExplainedAt held file line [] any.Hint note ⊎ (note ≡ [])

-- the note of a fault of the files of an image, or of its hints, where explanations are asked for
abbrev pub ExplainsImage : Held → (hints : Option (List ℕ)) → ImageFault (String Global) → (note : List ℕ) → Type 0
ExplainsImage held hints (image.Chain f) note = note ≡ []
ExplainsImage held hints (image.NoHex name) note = note ≡ []
ExplainsImage held hints (image.Binary f) note = IsNoteAlone (any_of f.fault) note
ExplainsImage held hints (image.Hint line) note = IsHintNote held hints line note

-- the same, by whether they are asked for
abbrev pub IsImageNote : Held → (hints : Option (List ℕ)) → (explain : Bool) → ImageFault (String Global) → (note : List ℕ) → Type 0
IsImageNote held hints false f note = note ≡ []
IsImageNote held hints true f note = ExplainsImage held hints f note

-- the report of a fault of the files of an image, or of its hints
abbrev pub TellsImage : Held → SourceNotes → (hints : Option (List ℕ)) → ImageFault (String Global) → Ending → (note : List ℕ) → Type 0
TellsImage held notes hints (image.Chain f) e note = IsReportOf held notes (failure.Fault f) e note
TellsImage held notes hints f e note = TellsNoted (image_line (image_fault f)) (IsImageNote held hints (is_explained notes) f) e note

-- the fault for which the words of an image have no source, among all faults
abbrev pub any_not_made : NotMade → AnyFault
any_not_made (TooManySections address) = any.TooManySections
any_not_made LongName = any.Source kind.TooLarge

-- the note of why the words of an image have no source, where explanations are asked for or not
abbrev pub IsNotMadeNote : (explain : Bool) → NotMade → (note : List ℕ) → Type 0
IsNotMadeNote true why note = IsNoteAlone (any_not_made why) note
IsNotMadeNote false why note = note ≡ []

-- the report of a fault for which an image has no source
abbrev pub TellsFault : Held → SourceNotes → (hints : Option (List ℕ)) → SourceFault → Ending → (note : List ℕ) → Type 0
TellsFault held notes hints (fault.Image f) e note = TellsImage held notes hints f e note
TellsFault held notes hints (fault.NotMade why) e note = TellsNoted (not_made_line why) (IsNotMadeNote (is_explained notes) why) e note

-- the report of why an image has no source
abbrev pub TellsFailure : Held → SourceNotes → (hints : Option (List ℕ)) → Failure SourceFault → Ending → (note : List ℕ) → Type 0
TellsFailure held notes hints (failure.NoMemory n) e note = (e ≡ NoMemory n) × (note ≡ [])
TellsFailure held notes hints (failure.Fault f) e note = TellsFault held notes hints f e note

-- ---- sources of images

-- nothing is written and nothing is printed to standard output
abbrev pub IsStill : Wrote → Printed → Type 0
IsStill written out = Stay written.0 written.1 × Keeps out.0 out.1

-- the files of the source of an image: the source, and the command file
abbrev pub made_files : (source command : List ℕ) → Source → Files
made_files source command made = (source, string_bytes made.source) ∷ (command, string_bytes made.command) ∷ []

-- the source of an image is written under these names, and then what is said of it is printed; or it is reported why there is none
abbrev pub WritesMade : Held → SourceNotes → (hints : Option (List ℕ)) → (source command : List ℕ) → Result MadeSource (Failure SourceFault) → Ending → (note : List ℕ) → Wrote → Printed → Type 0
WritesMade held notes hints source command (Ok made) e note written out = WritesAndPrints held notes (made_files source command made.source) (string_bytes made.told) e note written out
WritesMade held notes hints source command (Err f) e note written out = TellsFailure held notes hints f e note × IsStill written out

-- what is made of the files of an image is written: a source that is built to their words
abbrev pub WritesUnder : Held → SourceNotes → ImageAsked → (source command : List ℕ) → Ending → (note : List ℕ) → Wrote → Printed → Type 0
WritesUnder held notes asked source command e note written out =
    (answer : Result MadeSource (Failure SourceFault)) × MakesSource held asked source answer × WritesMade held notes (text_of asked.hints) source command answer e note written out

-- the line for a file that is read and would be written
abbrev pub overwriting_line : (base : List ℕ) → List ℕ
overwriting_line base = codes "c25: --out " ++ base ++ codes " would overwrite a file that is read"

-- an argument is misused, and nothing is done
abbrev pub OnlyMisuse : List ℕ → Ending → (note : List ℕ) → Wrote → Printed → Type 0
OnlyMisuse line e note written out = IsMisuse line e × (note ≡ []) × IsStill written out

-- the same, by whether a file that is read has a name of one that is written: nothing is read then
abbrev pub WritesBy : (overwrites : Bool) → Held → SourceNotes → ImageAsked → (source command : List ℕ) → Ending → (note : List ℕ) → Wrote → Printed → Type 0
WritesBy true held notes asked source command e note written out = OnlyMisuse (overwriting_line asked.base.now) e note written out
WritesBy false held notes asked source command e note written out = WritesUnder held notes asked source command e note written out

abbrev pub WritesUnless : Held → SourceNotes → ImageAsked → (source command : List ℕ) → Ending → (note : List ℕ) → Wrote → Printed → Type 0
WritesUnless held notes asked source command e note written out = WritesBy (overwrites asked source command) held notes asked source command e note written out

-- an image is written as a source, unless memory runs out for its names
abbrev pub DoesSource : Held → (explain : Bool) → ImageAsked → Ending → (note : List ℕ) → Wrote → Printed → Type 0
DoesSource held explain asked e note written out =
    (IsShortOf e note written × Keeps out.0 out.1)
    ⊎ Noting (AreNotesUnder (record { explain = explain; all = false }) None (plain_names []) ((first_file asked.files).now ∷ []))
    (λ notes. WritesUnless held notes asked (source_name asked.base.now) (command_name asked.base.now) e note written out)

-- ---- the task

-- what is done for what is asked for
abbrev pub DoesAsked : Held → (explain : Bool) → DisAsked → Ending → (note : List ℕ) → Wrote → Printed → Type 0
DoesAsked held explain (asked.Print printing) e note written out = DoesDisassemble held explain printing e note out × Stay written.0 written.1
DoesAsked held explain (asked.Source image) e note written out = DoesSource held explain image e note written out

-- what is done by what a command line asks for; where something is wrong with it, nothing is read
abbrev pub DoesBy : Held → (explain : Bool) → Result DisAsked Mistake → Ending → (note : List ℕ) → Wrote → Printed → Type 0
DoesBy held explain (Ok asked) e note written out = DoesAsked held explain asked e note written out
DoesBy held explain (Err mistake) e note written out = OnlyMisuse (mistake_text mistake) e note written out

-- what is done for a task
abbrev pub DoesDis : Held → DisassembleTask → Ending → (note : List ℕ) → Wrote → Printed → Type 0
DoesDis held task e note written out = DoesBy held task.explain (dis_asked task) e note written out
