-- The note of a fault: what is shown, and what the fault means.
use Rattle.std.specs.Prelude.{◌≡◌, ℕ, ◌==◌, List, [], ◌++◌, Option, codes, option_map}
use Rattle.std.specs.Fmt.{decimal}
use Rattle.std.specs.List.{find}
use Rattle.c25_disk.specs.declared.refusal.Refusal.{Refusal}
use Rattle.c25_disk.specs.declared.refusal.Refusal.TheVariants.{Missing, Forbidden, IsFolder, FileInPath, LongName, LinkCircle, System}
use Rattle.c25_meaning_common.specs.Faults.{placed_text}
use Rattle.c25_meaning_expansion.specs.Rows.{rows_of}
use Rattle.c25_explain.specs.Explanation.{IsExplanationOf}
use Rattle.c25_explain.specs.declared.fault.AnyFault.{AnyFault}
use Rattle.c25_explain.specs.declared.note.Shown.{Shown}
use Rattle.c25_explain.specs.declared.note.Shown.TheVariants as shown
use Rattle.c25_explain.specs.declared.note.Shown.TheVariants.{Nothing, Line}
use Rattle.c25_explain.specs.declared.note.Unread.{Unread}
use Rattle.c25_explain.specs.declared.note.Unread.TheVariants.{NotOpened, Refused, TooLong, NotRead, ObjectFile, NotUtf8}
use Rattle.c25_explain.specs.declared.parts.Explanation.{Explanation}

-- the text of the line of this number, if there is one
abbrev pub line_of : List ℕ → ℕ → Option (List ℕ)
line_of text number = option_map (λ row. row.text) (find (λ row. row.place.line == number) (rows_of 0 text))

-- the line that says that a file is an object, where a text is wanted
unfoldable pub object_text : List ℕ → List ℕ
object_text file = file ++ codes ": it is an object, which link takes after the command file: name a text here\n"

-- the line that says something of a file
abbrev pub file_text : (file words : List ℕ) → List ℕ
file_text file words = file ++ codes ": " ++ words ++ codes "\n"

-- the line that says with which error the system refuses a file
abbrev pub error_text : (file : List ℕ) → (number : ℕ) → List ℕ
error_text file number = file ++ codes ": the system refuses it with error " ++ decimal number ++ codes "\n"

-- the line that says why the system refuses a file
abbrev pub refused_text : List ℕ → Refusal → List ℕ
refused_text file Missing = file_text file (codes "there is no such file, or a folder of its path is missing")
refused_text file Forbidden = file_text file (codes "its rights, or those of a folder of its path, do not allow to read it: change them")
refused_text file IsFolder = file_text file (codes "it is a folder: name a file in it")
refused_text file FileInPath = file_text file (codes "a part of its path is a file, not a folder: correct the path")
refused_text file LongName = file_text file (codes "its name, or a part of it, is too long for the system: shorten it")
refused_text file LinkCircle = file_text file (codes "its symbolic links lead in a circle, or are too many: name the file itself")
refused_text file (System number) = error_text file number

-- the line that says why a file cannot be read
abbrev pub unread_text : List ℕ → Unread → List ℕ
unread_text file NotOpened = file_text file (codes "it cannot be opened")
unread_text file (Refused why) = refused_text file why
unread_text file TooLong = file_text file (codes "it has more than 16,777,216 bytes: divide it")
unread_text file NotRead = file_text file (codes "a read of it fails")
unread_text file ObjectFile = object_text file
unread_text file (NotUtf8 line) = placed_text file line (codes "the first line that is not UTF-8") ++ codes "\n"

-- what a note shows: nothing, a line with its file and its number, or why a file cannot be read
abbrev pub shown_text : Shown → List ℕ
shown_text Nothing = []
shown_text (Line file number text) = placed_text file.now number text.now ++ codes "\n"
shown_text (shown.Unread file why) = unread_text file.now why

-- what a fault means and what to do
abbrev pub lesson : Explanation → List ℕ
lesson e = e.meaning.now ++ codes "\n" ++ e.advice.now

-- the line that says how to see the example of a fault
abbrev pub example_line : ℕ → List ℕ
example_line number = codes "Example: c25 explain " ++ decimal number

-- what is shown, what the fault means and what to do, and how to see its example, with an empty line between
-- them
abbrev pub note_with : (shown meant example : List ℕ) → List ℕ
note_with shown meant example = shown ++ codes "\n" ++ meant ++ codes "\n" ++ example ++ codes "\n"

-- a note of this fault that shows this, and these lines after it
abbrev pub IsNoteOf : AnyFault → Shown → (behind : List ℕ) → List ℕ → Type 0
IsNoteOf fault shown behind note =
    (e : Explanation) × IsExplanationOf fault e × (note ≡ note_with (shown_text shown ++ behind) (lesson e) (example_line e.number))
