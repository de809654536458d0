-- Old files of a disk, moved.
use Rattle.std.specs.Prelude.{◌≡◌, ◌⊎◌, ℕ, Bool, true, if◌then◌else◌, List, [], ◌∷◌, ◌++◌, map, Option, Some, None, is_some}
use Rattle.std.specs.List.{All, AllZip, flat_map, fold}
use Rattle.std.specs.Str.{str_eq_ignore_ascii_case}
use Rattle.std.specs.String.{string_bytes}
use Rattle.c25_disk.specs.Held.{Held, IsAllOf}
use Rattle.c25_meaning_expansion.specs.Files.{Files, text_named}
use Rattle.c25_move.specs.Bytes.{IsDecoded}
use Rattle.c25_move.specs.declared.code_page.CodePage.{CodePage}
use Rattle.c25_move.specs.Promises.{IsMoved}
use Rattle.c25_move.specs.Rewritten.{Rewritten, new_text, rewritten_of}
use Rattle.c25_move_lines.specs.declared.style.Style.{Style}
use Rattle.c25_move_files.specs.Names.{new_name}
use Rattle.c25_move_files.specs.Notes.{FileNames, Noted, notes_of}
use Rattle.c25_move_files.specs.declared.gathered.Gathered.{Gathered}
use Rattle.c25_move_files.specs.declared.old.OldFile.{OldFile}
use Rattle.c25_move_files.specs.declared.moved.MovedFile.{MovedFile}
use Rattle.c25_move_files.specs.declared.new.NewFile.{NewFile}

-- an old file: its name, the text that its bytes stand for, and that text with its names in one spelling, where that is
-- asked for
pub record Old : Type 0 where
  pub name : List ℕ
  pub read : List ℕ
  pub text : List ℕ

abbrev pub old_of : OldFile → Old
old_of file = record {
  name = string_bytes file.name;
  read = elim file.unspelled [ None ↦ string_bytes file.text | Some text ↦ string_bytes text ];
  text = string_bytes file.text;
}

-- a text is another one, or differs from it in the case of letters alone
abbrev pub IsSpelledAs : (read text : List ℕ) → Type 0
IsSpelledAs read text = (text ≡ read) ⊎ (str_eq_ignore_ascii_case text read ≡ true)

-- the text is that of all bytes of the file: as UTF-8 where they are, else by this code page
abbrev pub IsRead : Held → CodePage → Old → Type 0
IsRead held page file =
    ((bytes : List ℕ) × (used : Option CodePage) × IsAllOf (held file.name) bytes × IsDecoded page bytes file.read used)
    × IsSpelledAs file.read file.text

-- files are these sources, and after them others that are read too
pub record AreGathered (held : Held) (page : CodePage) (sources files : List OldFile) : Type 0 where
  pub copied : List OldFile
  pub all : files ≡ sources ++ copied
  pub read : All (λ f. IsRead held page (old_of f)) copied

-- an old file that is moved: its name and that of the new file, and its lines with what becomes of them
pub record Moved : Type 0 where
  pub names : FileNames
  pub lines : List Rewritten

abbrev pub moved_of : MovedFile → Moved
moved_of file = record { names = record { old = file.old.now; new = string_bytes file.new }; lines = map rewritten_of file.lines.items }

-- a text is moved into a folder, line by line, where so many blocks of local labels began before it
pub record IsMovedTo (style : Style) (macros : List (List ℕ)) (folder : List ℕ) (file : Old) (moved : Moved) : Type 0 where
  pub blocks : ℕ
  pub old : moved.names.old ≡ file.name
  pub new : moved.names.new ≡ new_name folder file.name
  pub lines : IsMoved style macros blocks file.text moved.lines

-- the new file: its name and its text
abbrev pub contents : Moved → List ℕ × List ℕ
contents m = (m.names.new, new_text m.lines)

abbrev pub new_of : NewFile → List ℕ × List ℕ
new_of file = (string_bytes file.name, string_bytes file.text)

-- the notes of files
abbrev pub notes_of_files : List Moved → List Noted
notes_of_files files = flat_map (λ m. notes_of m.names m.lines) files

-- notes are those of the lines of files, and further ones
abbrev pub IsReportedOf : List Moved → List Noted → Type 0
IsReportedOf files notes = (remarks : List Noted) × (notes ≡ notes_of_files files ++ remarks)

-- old files are moved into a folder, each as it is written, where some macros are defined
abbrev pub AreMovedAll : Gathered → (folder : List ℕ) → List Moved → Type 0
AreMovedAll g folder moved = (macros : List (List ℕ)) × AllZip (IsMovedTo g.style macros folder) (map old_of g.files.items) moved

-- ---- the files of which the program is built

-- files with one more, unless one of them has its name
abbrev pub with_file : Files → List ℕ × List ℕ → Files
with_file files file = if is_some (text_named files file.0) then files else files ++ file ∷ []

-- a new file by the name under which others copy it
abbrev pub copy_of : NewFile → List ℕ × List ℕ
copy_of file = (string_bytes file.part, string_bytes file.text)

-- new files by their names, and all of them by the names under which others copy them
abbrev pub files_of : List NewFile → Files
files_of files = fold with_file (fold with_file [] (map new_of files)) (map copy_of files)
