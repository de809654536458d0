-- What is made of the old files of a task.
use Rattle.std.proofs.Common.{◌≡◌, ◌∙◌, ℕ, List, [], ◌∷◌, Option, Some, None, Result, Ok, Err, IfOk, ap, inr, map, refl, subst, sym, take}
use Rattle.std.proofs.lemmas.List.{take-map}
use Rattle.std.proofs.lemmas.List.Elements.{All-cons, All-head, All-nil, All-tail}
use Rattle.std.specs.List.{All, AllZip}
use Rattle.std.specs.Prelude.{String, string_bytes}
use Rattle.std.specs.declared.alloc.Global.{Global}
use Rattle.c25_meaning_common.specs.declared.no_memory.NoMemory.{NoMemory}
use Rattle.c25_disk.specs.Held.{Held}
use Rattle.c25_meaning_expansion.specs.Files.{Files}
use Rattle.c25_move.specs.declared.code_page.CodePage.{CodePage}
use Rattle.c25_move_lines.specs.declared.style.Style.{Style}
use Rattle.c25_options.specs.Task.{text_of}
use Rattle.c25_options.specs.declared.task.MoveTask.{MoveTask}
use Rattle.c25_report.specs.declared.ending.Ending.{Ending}
use Rattle.c25_move_files.specs.Files.{IsMovedTo, IsRead, Moved, files_of, old_of}
use Rattle.c25_move_files.specs.Styles.{style_of}
use Rattle.c25_move_files.specs.declared.gathered.Gathered.{Gathered}
use Rattle.c25_move_files.specs.declared.new.NewFile.{NewFile}
use Rattle.c25_move_files.specs.declared.old.OldFile.{OldFile}
use Rattle.c25_moving.specs.Compared.{Compares}
use Rattle.c25_moving.specs.Making.{ComparesMade, IsMadeFrom}
use Rattle.c25_move_files.specs.Task.{IsOldProgram}
use Rattle.c25_moving.specs.Moving.{AreOldFilesOf, DoesMove, Finishes, IsCompared, IsMade, IsMadeBy, IsMadeHeld}
use Rattle.c25_moving.specs.declared.compared.Comparison.{Comparison}
use Rattle.c25_moving.specs.declared.old_words.OldWords.{OldWords}
use Rattle.c25_moving.specs.declared.made.Made.{Made}

-- old files that are read
reads : (held : Held) (page : CodePage) (olds : List OldFile) → All (λ f. IsRead held page (old_of f)) olds → All (IsRead held page) (map old_of olds)
reads held page [] read = All-nil (IsRead held page)
reads held page (f ∷ fs) read =
    All-cons (IsRead held page) (old_of f) (map old_of fs) (All-head (λ f. IsRead held page (old_of f)) f fs read)
    (reads held page fs (All-tail (λ f. IsRead held page (old_of f)) f fs read))

-- files that are moved keep their names
names_kept : (style : Style) (macros : List (List ℕ)) (folder : List ℕ) (olds : List OldFile) (moved : List Moved) → AllZip (IsMovedTo style macros folder) (map old_of olds) moved
    → map (λ m. m.names.old) moved ≡ map (λ f. (old_of f).name) olds
names_kept style macros folder [] [] all = refl
names_kept style macros folder [] (m ∷ ms) all = absurd all
names_kept style macros folder (f ∷ fs) [] all = absurd all
names_kept style macros folder (f ∷ fs) (m ∷ ms) all =
    ap (λ n. n ∷ map (λ m. m.names.old) ms) all.0.old ∙ ap (λ ns. (old_of f).name ∷ ns) (names_kept style macros folder fs ms all.1)

abbrev made_by : (held : Held) (task : MoveTask) (g : Gathered) (made : Made) (words : Option OldWords) → AreOldFilesOf held task g → (from : IsMadeFrom g task.folder.now (record { quiet = task.quiet; old = words }) made)
    → IsCompared held (text_of task.hex) made from.is_made.comparison → IsMade held task made
made_by held task g made words old from compared = record {
  style = g.style;
  macros = from.are_moved.0;
  moved = from.moved;
  olds = map old_of g.files.items;
  page = g.code_page;
  paged = old.1.paged ∙ ap Some (sym old.2.paged);
  read = reads held g.code_page g.files.items (subst (λ (page : CodePage). All (λ f. IsRead held page (old_of f)) g.files.items) (sym old.2.paged) old.2.read);
  named = ap (λ n. take n (map (λ m. m.names.old) from.moved)) from.is_made.counted
      ∙ ap (take g.sources) (names_kept g.style from.are_moved.0 task.folder.now g.files.items from.moved from.are_moved.1) ∙ old.2.named ∙ old.1.named;
  styled = ap (λ s. style_of s (take made.sources (map old_of g.files.items))) (sym old.1.styled)
      ∙ ap (λ n. style_of old.0.style (take n (map old_of g.files.items))) from.is_made.counted ∙ old.2.shown;
  are_moved = from.are_moved.1;
  files = from.is_made.files;
  holes = from.holes;
  heading = string_bytes g.heading;
  remarks = from.remarks;
  comparison = from.is_made.comparison;
  report = from.is_made.report;
  is_left = from.is_made.is_left;
  compared = compared;
}

-- the task is done where what is made of its old files is written, with the program of a hex text, if there is one
done_by : (held : Held) (task : MoveTask) (g : Gathered) (made : Made) (e : Ending) (before after : Option Files) (old new : Option (List ℕ)) → AreOldFilesOf held task g → (hex : Option (List ℕ)) → hex ≡ text_of task.hex
    → IsMadeBy held hex task g made → Finishes held task g made e before after old new → DoesMove held task e before after old new
done_by held task g made e before after old new olds None same from writes =
    inr (made, made_by held task g made None olds from (subst (λ (h : Option (List ℕ)). IsCompared held h made from.is_made.comparison) same from.is_made.compared), writes)
done_by held task g made e before after old new olds (Some name) same (words, named, program, from) writes =
    let compared = subst (λ (n : List ℕ). Compares n words.words.now (files_of made.files.items) (take made.sources (map (λ f. string_bytes f.name) made.files.items)) (string_bytes made.command) from.is_made.comparison) named from.is_made.compared in
    inr (made, made_by held task g made (Some words) olds from (subst (λ (h : Option (List ℕ)). IsCompared held h made from.is_made.comparison) same (words.words.now, program, compared)), writes)

-- the task is done where what is made of its old files is written
pub done : (held : Held) (task : MoveTask) (g : Gathered) (made : Made) (e : Ending) (before after : Option Files) (old new : Option (List ℕ)) → AreOldFilesOf held task g → IsMadeBy held (text_of task.hex) task g made
    → Finishes held task g made e before after old new → DoesMove held task e before after old new
done held task g made e before after old new olds from writes = done_by held task g made e before after old new olds (text_of task.hex) refl from writes

-- what is made of old files is compared with the program of a hex text
pub made_held : (held : Held) (task : MoveTask) (g : Gathered) (old : OldWords) (r : Result Made Ending) → IfOk r (IsMadeFrom g task.folder.now (record { quiet = task.quiet; old = Some old }))
    → text_of task.hex ≡ Some old.name.now → IsOldProgram held old.name.now old.words.now → IfOk r (IsMadeHeld held task g)
made_held held task g old (Err e) from named program = tt
made_held held task g old (Ok made) from named program = subst (λ (hex : Option (List ℕ)). IsMadeBy held hex task g made) (sym named) (old, refl, program, from)

-- the program of the first so many of new files is compared with an old one
pub compared_made : (files : List NewFile) (sources : ℕ) (command : List ℕ) (old : Option OldWords) (words : OldWords) (texts : Files) (names cut shown : List (String Global)) (r : Result Comparison NoMemory)
    → IfOk r (Compares words.name.now words.words.now texts (map string_bytes shown) command) → old ≡ Some words → texts ≡ files_of files → map string_bytes names ≡ map (λ f. string_bytes f.name) files
    → cut ≡ take sources names → shown ≡ cut → IfOk r (ComparesMade files sources command old)
compared_made files sources command old words texts names cut shown r compared is are named first same =
    let of_sources : map string_bytes shown ≡ take sources (map (λ f. string_bytes f.name) files) = ap (map string_bytes) (same ∙ first) ∙ sym (take-map string_bytes sources names) ∙ ap (take sources) named in
    let by_names : IfOk r (Compares words.name.now words.words.now texts (take sources (map (λ f. string_bytes f.name) files)) command) =
    subst (λ (ns : List (List ℕ)). IfOk r (Compares words.name.now words.words.now texts ns command)) of_sources compared in
    subst (λ (o : Option OldWords). IfOk r (ComparesMade files sources command o)) (sym is)
    (subst (λ (fs : Files). IfOk r (Compares words.name.now words.words.now fs (take sources (map (λ f. string_bytes f.name) files)) command)) are by_names)
