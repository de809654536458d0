-- What is made of old files that are read.
use Rattle.std.specs.Prelude.{◌≡◌, ℕ, Bool, true, not, ◌||◌, List, [], ◌++◌, map, take, Option, Some, None, string_bytes}
use Rattle.c25_moving.specs.Compared.{Compares}
use Rattle.c25_move_files.specs.Files.{AreMovedAll, Moved, contents, files_of, new_of, notes_of_files}
use Rattle.c25_move_files.specs.Holed.{holed}
use Rattle.c25_move_files.specs.Notes.{Noted, are_left, rows}
use Rattle.c25_moving.specs.declared.compared.Comparison.{Comparison}
use Rattle.c25_moving.specs.declared.old_words.OldWords.{OldWords}
use Rattle.c25_move_files.specs.declared.gathered.Gathered.{Gathered}
use Rattle.c25_moving.specs.declared.made.Made.{Made}
use Rattle.c25_moving.specs.declared.making.Reporting.{Reporting}
use Rattle.c25_move_files.specs.declared.new.NewFile.{NewFile}

-- the program of new files, the first so many of which are sources, is compared with the old one, if there is one
abbrev pub ComparesMade : List NewFile → (sources : ℕ) → (command : List ℕ) → Option OldWords → Comparison → Type 0
ComparesMade files sources command None c = (c.is_same ≡ true) × (string_bytes c.text ≡ [])
ComparesMade files sources command (Some old) c = Compares old.name.now old.words.now (files_of files) (take sources (map (λ f. string_bytes f.name) files)) command c

-- the new files, the report and the comparison of files that are moved, of which these notes are reported
pub record IsMadeOf (sources : ℕ) (heading : List ℕ) (moved : List Moved) (notes : List Noted) (reporting : Reporting) (made : Made) : Type 0 where
  pub counted : made.sources ≡ sources
  pub files : map new_of made.files.items ≡ map contents moved
  pub comparison : Comparison
  pub report : string_bytes made.report ≡ (heading ++ rows reporting.quiet notes) ++ string_bytes comparison.text
  pub is_left : made.is_left ≡ (are_left notes || not comparison.is_same)
  pub compared : ComparesMade made.files.items made.sources (string_bytes made.command) reporting.old comparison

-- what is made of old files: they are moved, holes of `.bss` are put in, and notes on the files follow those of their lines, and
-- last the notes on the holes
pub record IsMadeFrom (g : Gathered) (folder : List ℕ) (reporting : Reporting) (made : Made) : Type 0 where
  pub moved : List Moved
  pub are_moved : AreMovedAll g folder moved
  pub remarks : List Noted
  pub holes : List Noted
  pub is_made : IsMadeOf g.sources (string_bytes g.heading) (map (holed holes) moved) ((notes_of_files (map (holed holes) moved) ++ remarks) ++ holes) reporting made
