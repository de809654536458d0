-- The task `move`: old sources of a disk, moved into a folder.
use Rattle.std.specs.Prelude.{◌≡◌, ◌⊎◌, ℕ, Bool, true, false, not, ◌||◌, if◌then◌else◌, List, [], ◌∷◌, ◌++◌, codes, map, take, Option, Some, None, bytes_eq, option_to_list, string_bytes}
use Rattle.std.specs.Io.KnownBytes.{Keeps}
use Rattle.std.specs.List.{All, AllZip, Any}
use Rattle.c25_disk.specs.Held.{Adds, Held, IsAllOf, Stay}
use Rattle.c25_disk.specs.Written.{EndsBefore}
use Rattle.c25_disk.specs.declared.fault.FileFault.TheVariants.{CannotWrite}
use Rattle.c25_meaning_expansion.specs.Files.{Files}
use Rattle.c25_move.specs.Bytes.{IsDecoded}
use Rattle.c25_move.specs.declared.code_page.CodePage.{CodePage}
use Rattle.c25_move_lines.specs.declared.style.Style.{Style}
use Rattle.c25_options.specs.Task.{text_of, texts_of}
use Rattle.c25_options.specs.declared.task.MoveTask.{MoveTask}
use Rattle.c25_report.specs.Ending.{IsPrinted}
use Rattle.c25_report.specs.declared.ending.Ending.{Ending}
use Rattle.c25_report.specs.declared.ending.Ending.TheVariants as ending
use Rattle.c25_moving.specs.Compared.{Compares}
use Rattle.c25_move_files.specs.Files.{IsMovedTo, IsRead, Moved, Old, contents, files_of, new_of, notes_of_files, old_of}
use Rattle.c25_move_files.specs.Task.{AreOldFiles, IsOldProgram, Words, code_page_asked, style_asked}
use Rattle.c25_move_files.specs.declared.gathered.OldSources.{OldSources}
use Rattle.c25_move_files.specs.Names.{meet, new_name}
use Rattle.c25_move_files.specs.Holed.{holed}
use Rattle.c25_move_files.specs.Notes.{Noted, are_left, rows}
use Rattle.c25_move_files.specs.Refusals.{AreRefused, IsNoCodePage, IsNoOrder, IsNoProgram, IsNoStyle, file_line}
use Rattle.c25_move_files.specs.Styles.{style_of}
use Rattle.c25_move_files.specs.declared.refusals.Refusal.{Refusal}
use Rattle.c25_move_files.specs.declared.refusals.Refusal.TheVariants as refusal
use Rattle.c25_moving.specs.Making.{IsMadeFrom}
use Rattle.c25_moving.specs.declared.compared.Comparison.{Comparison}
use Rattle.c25_moving.specs.declared.old_words.OldWords.{OldWords}
use Rattle.c25_move_files.specs.declared.gathered.Gathered.{Gathered}
use Rattle.c25_moving.specs.declared.made.Made.{Made}

-- the program ends with a line on what is wrong with the inputs, of which the first holds, or with the argument of an option,
-- of which the second holds, unless memory ran out
abbrev pub EndsBy : (faulty misused : List ℕ → Type 0) → Ending → Type 0
EndsBy faulty misused (ending.Faulty line) = faulty (string_bytes line)
EndsBy faulty misused (ending.Misused line) = misused (string_bytes line)
EndsBy faulty misused (ending.NoMemory n) = Unit {0}
EndsBy faulty misused e = ⊥

-- the program ends with a line on what is wrong with the inputs, of which this holds, unless memory ran out
abbrev pub EndsFaulty : (List ℕ → Type 0) → Ending → Type 0
EndsFaulty holds e = EndsBy holds (λ line. ⊥) e

-- how the program ends where nothing is moved
abbrev pub ending_of : Refusal → Ending
ending_of (refusal.Faulty line) = ending.Faulty line
ending_of (refusal.Misused line) = ending.Misused line
ending_of (refusal.NoMemory n) = ending.NoMemory n

-- ---- the words of the old program

-- the program of the new sources, the first so many of the new files, has been compared with that of this hex text, if
-- one is named
abbrev pub IsCompared : Held → Option (List ℕ) → Made → Comparison → Type 0
IsCompared held None made c = (c.is_same ≡ true) × (string_bytes c.text ≡ [])
IsCompared held (Some name) made c =
    (old : Words) × IsOldProgram held name old
    × Compares name old (files_of made.files.items) (take made.sources (map (λ f. string_bytes f.name) made.files.items)) (string_bytes made.command) c

-- ---- the new files

-- the command file under its name: none where nothing has to be placed
abbrev pub command_output : (name command : List ℕ) → Files
command_output name [] = []
command_output name (c ∷ cs) = (name, c ∷ cs) ∷ []

-- the files that are written
abbrev pub written_files : (folder : List ℕ) → Made → Files
written_files folder made = map new_of made.files.items ++ command_output (new_name folder (codes "move.cmd")) (string_bytes made.command)

-- the names of the files that are read for a task
abbrev pub names_read : List Old → MoveTask → List (List ℕ)
names_read olds task = map (λ f. f.name) olds ++ option_to_list (text_of task.command) ++ option_to_list (text_of task.hex)

-- what is made of the sources of a task, and of the files that they copy
pub record IsMade (held : Held) (task : MoveTask) (made : Made) : Type 0 where
  pub style : Style
  pub macros : List (List ℕ)
  -- the sources, and after them the files that they copy, with what becomes of their lines
  pub moved : List Moved
  pub olds : List Old
  -- what is no UTF-8 is read by the code page that is asked for
  pub page : CodePage
  pub paged : code_page_asked (text_of task.writing.from) ≡ Some page
  pub read : All (IsRead held page) olds
  pub named : take made.sources (map (λ m. m.names.old) moved) ≡ texts_of task.sources.items
  -- the style is the one that is asked for, or the one that the sources show
  pub styled : style_of (style_asked (text_of task.writing.style)) (take made.sources olds) ≡ Some style
  pub are_moved : AllZip (IsMovedTo style macros task.folder.now) olds moved
  -- the new files have the new lines, and the lines of `.bss` that the notes on holes put in around them
  pub holes : List Noted
  pub files : map new_of made.files.items ≡ map contents (map (holed holes) moved)
  -- the report: why this is the style, the notes of the lines, of files and of holes, and the comparison
  pub heading : List ℕ
  pub remarks : List Noted
  pub comparison : Comparison
  pub report : string_bytes made.report ≡ (heading ++ rows task.quiet ((notes_of_files (map (holed holes) moved) ++ remarks) ++ holes)) ++ string_bytes comparison.text
  pub is_left : made.is_left ≡ (are_left ((notes_of_files (map (holed holes) moved) ++ remarks) ++ holes) || not comparison.is_same)
  pub compared : IsCompared held (text_of task.hex) made comparison

-- ---- files that would be overwritten

-- whether a text is that of one of these old files
unfoldable pub has_text : List Old → (text : List ℕ) → Bool
has_text [] text = false
has_text (f ∷ fs) text = if bytes_eq f.read text then true else has_text fs text

-- these bytes are not those of a file that is to be written, and their text, by this code page where they are no UTF-8, is that
-- of an old file
pub record AreOldBytes (page : CodePage) (olds : List Old) (bytes : List ℕ) (file : List ℕ × List ℕ) : Type 0 where
  pub other : bytes_eq bytes file.1 ≡ false
  pub text : List ℕ
  pub used : Option CodePage
  pub decoded : IsDecoded page bytes text used
  pub old : has_text olds text ≡ true

-- a file that is to be written has the bytes of an old file now, and other ones then: it may be that file under another name
abbrev pub MayBeOld : Held → CodePage → List Old → (file : List ℕ × List ℕ) → Type 0
MayBeOld held page olds file = (bytes : List ℕ) × IsAllOf (held file.0) bytes × AreOldBytes page olds bytes file

-- one of the files that are to be written is a file that is read, or may be an old one
abbrev pub AreInPlace : Held → CodePage → List Old → (read : List (List ℕ)) → (files : Files) → Type 0
AreInPlace held page olds read files = (meet (map (λ f. f.0) files) read ≡ true) ⊎ Any (MayBeOld held page olds) files

abbrev pub in_place_line : (folder : List ℕ) → List ℕ
in_place_line folder = folder ++ codes ": a file that is read would be written"

-- the line for files that are not written, since one of them is a file that is read
abbrev pub WouldReplaceNamed : (folder : List ℕ) → (read : List (List ℕ)) → (files : Files) → (line : List ℕ) → Type 0
WouldReplaceNamed folder read files line = (line ≡ in_place_line folder) × (meet (map (λ f. f.0) files) read ≡ true)

-- the line for files that are not written, since one of them is in the place of a file that is read
abbrev pub WouldReplace : Held → CodePage → (folder : List ℕ) → List Old → (read : List (List ℕ)) → (files : Files) → (line : List ℕ) → Type 0
WouldReplace held page folder olds read files line = (line ≡ in_place_line folder) × AreInPlace held page olds read files

-- ---- the task

-- how the program ends where all is written and reported
abbrev pub end_of : Made → Ending
end_of made = if made.is_left then ending.Unfinished else ending.Done

-- files are written and the report is printed, or the first file that cannot be written is reported and no report is printed
abbrev pub WritesThenReports : Files → Made → Ending → (before after : Option Files) → (old new : Option (List ℕ)) → Type 0
WritesThenReports files made e before after old new =
    (Adds before after files × IsPrinted (string_bytes made.report) (end_of made) e old new)
    ⊎ (((file : List ℕ × List ℕ) × EndsBefore before after files file × EndsFaulty (λ line. line ≡ file_line file.0 CannotWrite) e) × Keeps old new)

-- nothing is written and nothing is printed, but a line on what is wrong with the inputs, of which this holds, unless memory
-- ran out
abbrev pub IsRefused : (List ℕ → Type 0) → Ending → (before after : Option Files) → (old new : Option (List ℕ)) → Type 0
IsRefused holds e before after old new = EndsFaulty holds e × Stay before after × Keeps old new

-- files are written and the report is printed, unless one of them is in the place of a file that is read
abbrev pub WritesApart : Held → MoveTask → CodePage → List Old → (read : List (List ℕ)) → Made → Ending → (before after : Option Files) → (old new : Option (List ℕ)) → Type 0
WritesApart held task page olds read made e before after old new =
    IsRefused (WouldReplace held page task.folder.now olds read (written_files task.folder.now made)) e before after old new
    ⊎ ((meet (map (λ f. f.0) (written_files task.folder.now made)) read ≡ false) × WritesThenReports (written_files task.folder.now made) made e before after old new)

-- the old sources that a task asks for
pub record IsAskedBy (task : MoveTask) (asked : OldSources) : Type 0 where
  pub named : map (λ n. n.now) asked.names.now ≡ texts_of task.sources.items
  pub styled : asked.style ≡ style_asked (text_of task.writing.style)
  pub paged : code_page_asked (text_of task.writing.from) ≡ Some asked.code_page
  pub commanded : text_of asked.command ≡ text_of task.command

-- why the program of the hex text of this name, if one is named, is not read
abbrev pub IsNoProgramOf : Held → Option (List ℕ) → (line : List ℕ) → Type 0
IsNoProgramOf held None line = ⊥
IsNoProgramOf held (Some name) line = IsNoProgram held name line

-- why the files of a task are not read
abbrev pub AreUnread : Held → MoveTask → (line : List ℕ) → Type 0
AreUnread held task line = ((asked : OldSources) × IsAskedBy task asked × AreRefused held asked line) ⊎ IsNoProgramOf held (text_of task.hex) line

-- an option of a task has an argument that it does not take
abbrev pub HasNoArgument : MoveTask → (line : List ℕ) → Type 0
HasNoArgument task line =
    IsNoStyle (text_of task.writing.style) line
    ⊎ (IsNoOrder (text_of task.writing.long_order) line ⊎ IsNoCodePage (text_of task.writing.from) line)

-- why nothing is made of the files of a task
abbrev pub IsRefusal : Held → MoveTask → Ending → Type 0
IsRefusal held task e = EndsBy (AreUnread held task) (HasNoArgument task) e

-- what is done for a task: its files are not read, and a line says why, or all that is to be made of them is made, and is
-- written and reported; its report has no note
abbrev pub DoesMove : Held → MoveTask → Ending → (before after : Option Files) → (old new : Option (List ℕ)) → Type 0
DoesMove held task e before after old new =
    (IsRefusal held task e × Stay before after × Keeps old new)
    ⊎ ((made : Made) × (is : IsMade held task made) × WritesApart held task is.page is.olds (names_read is.olds task) made e before after old new)

-- ---- the steps of the task

-- the old files of a task
abbrev pub AreOldFilesOf : Held → MoveTask → Gathered → Type 0
AreOldFilesOf held task g = (asked : OldSources) × IsAskedBy task asked × AreOldFiles held asked g

-- the names of the files that are read for a task, by its old files
abbrev pub names_of_task : Gathered → MoveTask → List (List ℕ)
names_of_task g task = map (λ f. f.name) (map old_of g.files.items) ++ option_to_list (text_of task.command) ++ option_to_list (text_of task.hex)

-- what is made of old files, with the program of the hex text of this name, if one is named
abbrev pub IsMadeBy : Held → Option (List ℕ) → MoveTask → Gathered → Made → Type 0
IsMadeBy held None task g made = IsMadeFrom g task.folder.now (record { quiet = task.quiet; old = None }) made
IsMadeBy held (Some name) task g made =
    (old : OldWords) × (old.name.now ≡ name) × IsOldProgram held name old.words.now × IsMadeFrom g task.folder.now (record { quiet = task.quiet; old = Some old }) made

-- what is made of the old files of a task
abbrev pub IsMadeHeld : Held → MoveTask → Gathered → Made → Type 0
IsMadeHeld held task g made = IsMadeBy held (text_of task.hex) task g made

-- what is made of old files is written and reported
abbrev pub Finishes : Held → MoveTask → Gathered → Made → Ending → (before after : Option Files) → (old new : Option (List ℕ)) → Type 0
Finishes held task g made e before after old new = WritesApart held task g.code_page (map old_of g.files.items) (names_of_task g task) made e before after old new
