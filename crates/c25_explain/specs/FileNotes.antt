-- What is shown next to the line of a fault of samples, of a schedule, of a script, or of a file that is no object.
use Rattle.std.specs.Prelude.{◌≡◌, ◌⊎◌, ℕ, List, [], ◌++◌, Option, Some, None, codes}
use Rattle.c25_disk.specs.Held.{Held, IsAllOf}
use Rattle.c25_disk.specs.declared.fault.FileFault.{FileFault}
use Rattle.c25_disk.specs.declared.fault.FileFault.TheVariants.{CannotRead, CannotWrite, FileTwice}
use Rattle.c25_earlier.specs.Copying.{ShowsCopyingOver}
use Rattle.c25_explain.specs.Note.{line_of}
use Rattle.c25_explain.specs.declared.file_notes.ItemFile.{ItemFile}
use Rattle.c25_explain.specs.declared.file_notes.ItemFile.TheVariants.{Samples, Schedule, Script}
use Rattle.c25_file_hints.specs.Items.{cause_text, command_cause, entry_cause, sample_cause}
use Rattle.c25_file_hints.specs.Kinds.{kind_of, kind_text}
use Rattle.c25_file_hints.specs.declared.cause.Cause.{Cause}
use Rattle.c25_meaning_common.specs.Faults.{placed_text}
use Rattle.c25_meaning_common.specs.Items.{line_words}
use Rattle.c25_meaning_objects.specs.declared.object.ObjectFault.{ObjectFault}
use Rattle.c25_meaning_objects.specs.declared.object.ObjectFault.TheVariants.{BadMagic}

-- what is wanted in a line of a file
abbrev pub cause_line : (file : List ℕ) → (line : ℕ) → Cause → List ℕ
cause_line file line cause = placed_text file line (cause_text cause) ++ codes "\n"

-- why the parts of a line of such a file are refused; none where they are a sample, or the line is blank
abbrev pub cause_in : ItemFile → List (List ℕ) → Option Cause
cause_in Samples parts = sample_cause parts
cause_in Schedule parts = Some (entry_cause parts)
cause_in Script parts = Some (command_cause parts)

-- the same, or nothing
abbrev pub IsCauseOf : ItemFile → List (List ℕ) → Option Cause → Type 0
IsCauseOf kind parts None = Unit {0}
IsCauseOf kind parts (Some cause) = cause_in kind parts ≡ Some cause

-- what is wanted in this line of the text of such a file, or nothing
abbrev pub ShowsItem : ItemFile → (file : List ℕ) → (line : ℕ) → (text : List ℕ) → List ℕ → Type 0
ShowsItem kind file line text shown =
    ((row : List ℕ) × (line_of text line ≡ Some row) × ((cause : Cause) × (cause_in kind (line_words row) ≡ Some cause) × (shown ≡ cause_line file line cause)))
    ⊎ (shown ≡ [])

-- what a file of these bytes may be
abbrev pub kind_line : (file : List ℕ) → (bytes : List ℕ) → List ℕ
kind_line file bytes = file ++ codes ": " ++ kind_text (kind_of bytes) ++ codes "\n"

-- what a file may be that is no object, or nothing; nothing of an object with another fault
abbrev pub ShowsKind : Held → ObjectFault → (file : List ℕ) → List ℕ → Type 0
ShowsKind held BadMagic file shown = ((bytes : List ℕ) × IsAllOf (held file) bytes × (shown ≡ kind_line file bytes)) ⊎ (shown ≡ [])
ShowsKind held _ file shown = shown ≡ []

-- the line of the sources that copies a file that cannot be read; nothing for other faults of a file
abbrev pub ShowsCopied : Held → (sources : List (List ℕ)) → FileFault → (name : List ℕ) → List ℕ → Type 0
ShowsCopied held sources CannotRead name shown = ShowsCopyingOver held sources name shown
ShowsCopied held sources CannotWrite name shown = shown ≡ []
ShowsCopied held sources FileTwice name shown = shown ≡ []
