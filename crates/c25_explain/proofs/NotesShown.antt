-- Notes that are shown one after the other.
use Rattle.std.proofs.Common.{◌≡◌, ℕ, suc, ◌+◌, ◌<◌, ◌≤◌, List, [], ◌∷◌, ◌++◌, drop, get_or, length, refl, sym, ap, subst, ◌∙◌, append_assoc, add-one}
use Rattle.std.proofs.Math.Seq.{drop-cons}
use Rattle.std.proofs.lemmas.List.{append-nil, drop_all}
use Rattle.c25_disk.specs.Held.{Held}
use Rattle.c25_explain.specs.Again.{ShowsNote, ShowsNotes, note_view, notes_view}
use Rattle.c25_explain.specs.declared.note_lines.LinkNote.{LinkNote}

-- with the notes that are left, shown, a text shows all of them
abbrev pub ShowsWith : Held → List LinkNote → List LinkNote → List ℕ → Type 0
ShowsWith held notes left text = (rest : List ℕ) → ShowsNotes held (notes_view left) rest → ShowsNotes held (notes_view notes) (text ++ rest)

-- one note more
pub shown_next : (held : Held) (notes : List LinkNote) (i : ℕ) (note : LinkNote) (text shown new : List ℕ) → i < length notes → note ≡ get_or notes i note → ShowsNote held (note_view note) shown → new ≡ text ++ shown
    → ShowsWith held notes (drop i notes) text → ShowsWith held notes (drop (i + 1) notes) new
shown_next held notes i note text shown new lt at shows grown so_far = λ rest left.
    let split : drop i notes ≡ note ∷ drop (i + 1) notes = drop-cons notes i note lt ∙ ap (λ x. x ∷ drop (suc i) notes) (sym at) ∙ ap (λ n. note ∷ drop n notes) (sym (add-one i)) in
    let all : ShowsNotes held (notes_view notes) (text ++ (shown ++ rest)) = so_far (shown ++ rest) (subst (λ ns. ShowsNotes held (notes_view ns) (shown ++ rest)) (sym split) (shown, rest, shows, left, refl)) in
    subst (ShowsNotes held (notes_view notes)) (sym (append_assoc text shown rest) ∙ ap (λ t. t ++ rest) (sym grown)) all

-- all notes
pub shown_all : (held : Held) (notes : List LinkNote) (i : ℕ) (text : List ℕ) → length notes ≤ i → ShowsWith held notes (drop i notes) text → ShowsNotes held (notes_view notes) text
shown_all held notes i text le so_far =
    subst (ShowsNotes held (notes_view notes)) (append-nil text) (so_far [] (subst (λ ns. ShowsNotes held (notes_view ns) []) (sym (drop_all i notes le)) refl))
