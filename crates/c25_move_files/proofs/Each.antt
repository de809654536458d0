-- Files that are read or moved, one after another.
use Rattle.std.proofs.Common.{◌≡◌, ◌<◌, ◌≤◌, ◌+◌, ◌++◌, ◌∙◌, ℕ, List, [], ◌∷◌, Option, Result, Ok, Err, IfOk, None, Some, append-nil, ap, get_or, length, map, refl, subst, sym, take}
use Rattle.std.proofs.lemmas.List.Elements.{All-append, All-nil, All-push}
use Rattle.std.proofs.lemmas.List.{drop_all, map-append, map_more, take-append-drop, take-map, take_at}
use Rattle.std.specs.Borrow.{Bor}
use Rattle.std.specs.List.{All, AllZip}
use Rattle.c25_disk.specs.Held.{Held, IsAllOf}
use Rattle.c25_hex.specs.Hex.{SpellsWords}
use Rattle.c25_move_lines.specs.declared.style.Style.{Style}
use Rattle.c25_move.specs.Promises.{IsMoved}
use Rattle.c25_move.specs.declared.code_page.CodePage.{CodePage}
use Rattle.c25_move_files.specs.Names.{new_name}
use Rattle.c25_move_files.specs.Files.{AreGathered, IsMovedTo, IsRead, Moved, Old, contents, moved_of, old_of}
use Rattle.c25_move_files.specs.Styles.{style_of}
use Rattle.c25_move_files.specs.Task.{AreOldFiles, IsOldProgram, Words}
use Rattle.c25_move_files.specs.declared.gathered.Gathered.{Gathered}
use Rattle.c25_move_files.specs.declared.gathered.OldSources.{OldSources}
use Rattle.c25_move_files.specs.declared.moved.MovedFile.{MovedFile}
use Rattle.c25_move_files.specs.declared.old.OldFile.{OldFile}

zip_push : {A B : Type 0} (R : A → B → Type 0) (xs : List A) (ys : List B) (x : A) (y : B) → AllZip R xs ys → R x y → AllZip R (xs ++ x ∷ []) (ys ++ y ∷ [])
zip_push R [] [] x y all r = (r, tt)
zip_push R [] (z ∷ ys) x y all r = absurd all
zip_push R (z ∷ xs) [] x y all r = absurd all
zip_push R (v ∷ xs) (z ∷ ys) x y all r = (all.0, zip_push R xs ys x y all.1 r)

all_taken : {A : Type 0} (xs : List A) (i : ℕ) → length xs ≤ i → take i xs ≡ xs
all_taken xs i high = sym (append-nil (take i xs)) ∙ ap (λ rest. take i xs ++ rest) (sym (drop_all i xs high)) ∙ take-append-drop i xs

-- a file is moved, where so many blocks of local labels began before it
pub moved_to : (style : Style) (macros : List (List ℕ)) (folder : List ℕ) (file : Old) (moved : Moved) (blocks : ℕ) → moved.names.old ≡ file.name → moved.names.new ≡ new_name folder file.name → IsMoved style macros blocks file.text moved.lines
    → IsMovedTo style macros folder file moved
moved_to style macros folder file moved blocks old new lines = record { blocks = blocks; old = old; new = new; lines = lines }

-- one file more is moved
pub moved_more : (R : Old → Moved → Type 0) (files : List OldFile) (i : ℕ) (d : OldFile) (moved longer : List MovedFile) (m : MovedFile) → i < length files → longer ≡ moved ++ m ∷ []
    → AllZip R (map old_of (take i files)) (map moved_of moved) → R (old_of (get_or files i d)) (moved_of m) → AllZip R (map old_of (take (i + 1) files)) (map moved_of longer)
moved_more R files i d moved longer m low is all here =
    let olds : map old_of (take (i + 1) files) ≡ map old_of (take i files) ++ old_of (get_or files i d) ∷ [] = map_more old_of files i d low in
    let news : map moved_of longer ≡ map moved_of moved ++ moved_of m ∷ [] = ap (map moved_of) is ∙ map-append moved_of moved (m ∷ []) in
    subst (λ (xs : List Old). AllZip R xs (map moved_of longer)) (sym olds)
    (subst (λ (ys : List Moved). AllZip R (map old_of (take i files) ++ old_of (get_or files i d) ∷ []) ys) (sym news) (zip_push R (map old_of (take i files)) (map moved_of moved) (old_of (get_or files i d)) (moved_of m) all here))

-- all files are moved
pub moved_all : (R : Old → Moved → Type 0) (files : List OldFile) (i : ℕ) (moved : List MovedFile) → length files ≤ i → AllZip R (map old_of (take i files)) (map moved_of moved) → AllZip R (map old_of files) (map moved_of moved)
moved_all R files i moved high all = subst (λ (xs : List OldFile). AllZip R (map old_of xs) (map moved_of moved)) (all_taken files i high) all

-- the names of files with one more
pub named_more : (names : List (Bor (List ℕ))) (i : ℕ) (d : Bor (List ℕ)) (files longer : List OldFile) (f : OldFile) → i < length names → longer ≡ files ++ f ∷ [] → map (λ f. (old_of f).name) files ≡ map (λ n. n.now) (take i names)
    → (old_of f).name ≡ (get_or names i d).now → map (λ f. (old_of f).name) longer ≡ map (λ n. n.now) (take (i + 1) names)
named_more names i d files longer f low is so_far here =
    ap (map (λ f. (old_of f).name)) is ∙ map-append (λ f. (old_of f).name) files (f ∷ [])
    ∙ ap (λ xs. xs ++ (old_of f).name ∷ []) so_far ∙ ap (λ x. map (λ n. n.now) (take i names) ++ x ∷ []) here ∙ sym (map_more (λ n. n.now) names i d low)

pub named_all : (names : List (Bor (List ℕ))) (i : ℕ) (files : List OldFile) → length names ≤ i → map (λ f. (old_of f).name) files ≡ map (λ n. n.now) (take i names) → map (λ f. (old_of f).name) files ≡ map (λ n. n.now) names
named_all names i files high so_far = so_far ∙ ap (map (λ n. n.now)) (all_taken names i high)

-- files that are read with one more
pub read_more : (held : Held) (page : CodePage) (files longer : List OldFile) (f : OldFile) → longer ≡ files ++ f ∷ [] → All (λ f. IsRead held page (old_of f)) files → IsRead held page (old_of f) → All (λ f. IsRead held page (old_of f)) longer
read_more held page files longer f is all here =
    subst (All (λ f. IsRead held page (old_of f))) (sym is) (All-push (λ f. IsRead held page (old_of f)) files f all here)

pub read_none : (held : Held) (page : CodePage) (files : List OldFile) → files ≡ [] → All (λ f. IsRead held page (old_of f)) files
read_none held page files none = subst (All (λ f. IsRead held page (old_of f))) (sym none) (All-nil (λ f. IsRead held page (old_of f)))

-- the contents of files that are moved
pub moved_contents : (files : List MovedFile) → map (λ m. contents (moved_of m)) files ≡ map contents (map moved_of files)
moved_contents [] = refl
moved_contents (m ∷ ms) = ap (λ cs. contents (moved_of m) ∷ cs) (moved_contents ms)

-- the words that all of a file spells are those of the old program
pub program_spelled : {E : Type 0} (held : Held) (name all text : List ℕ) (words : Result Words E) → IsAllOf (held name) all → text ≡ all → IfOk words (SpellsWords text) → IfOk words (IsOldProgram held name)
program_spelled held name all text (Ok words) whole same spells = (text, subst (IsAllOf (held name)) (sym same) whole, spells)
program_spelled held name all text (Err e) whole same spells = tt

some_is : (s t : Style) → Some s ≡ Some t → t ≡ s
some_is s t same = sym (ap (λ (o : Option Style). elim o [ None ↦ s | Some x ↦ x ]) same)

-- the first so many of files are the sources
taken : {A : Type 0} (view : OldFile → A) (sources copied files : List OldFile) (n : ℕ) → files ≡ sources ++ copied → n ≡ length sources → take n (map view files) ≡ map view sources
taken view sources copied files n all count =
    ap (λ fs. take n (map view fs)) all ∙ take-map view n (sources ++ copied) ∙ ap (map view) (take_at sources copied n (sym count))

-- sources that are read, and the files that they copy, are the old files of a task
pub are_old_files : (held : Held) (asked : OldSources) (sources : List OldFile) (g : Gathered) → map (λ f. (old_of f).name) sources ≡ map (λ n. n.now) asked.names.now → All (λ f. IsRead held asked.code_page (old_of f)) sources → AreGathered held asked.code_page sources g.files.items
    → g.code_page ≡ asked.code_page → g.sources ≡ length sources → style_of asked.style (map old_of sources) ≡ Some g.style → AreOldFiles held asked g
are_old_files held asked sources g named read files paged count shown = record {
  named = taken (λ f. (old_of f).name) sources files.copied g.files.items g.sources files.all count ∙ named;
  paged = paged;
  read = subst (All (λ f. IsRead held asked.code_page (old_of f))) (sym files.all) (All-append (λ f. IsRead held asked.code_page (old_of f)) sources files.copied read files.read);
  styled = λ s is. some_is s g.style (ap (λ (a : Option Style). style_of a (map old_of sources)) (sym is) ∙ shown);
  shown = ap (style_of asked.style) (taken old_of sources files.copied g.files.items g.sources files.all count) ∙ shown;
}
