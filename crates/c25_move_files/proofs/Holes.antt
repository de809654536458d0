-- Files into which notes put no line.
use Rattle.std.proofs.Common.{◌≡◌, ◌++◌, ◌∙◌, ℕ, List, [], ◌∷◌, append-nil, ap, map, refl, sym, length, true, ◌==◌, arith}
use Rattle.std.proofs.lemmas.Bool.{eqb-true}
use Rattle.c25_move.specs.Rewritten.{Rewritten}
use Rattle.c25_move_files.specs.Files.{Moved}
use Rattle.c25_move_files.specs.Holed.{holed, lines_with_holes, with_holes}
use Rattle.c25_move_files.specs.Notes.{later, noted}
use Rattle.c25_move_files.specs.declared.notes.Note.{Note}

no_lines : (file : List ℕ) (number : ℕ) (ms : List Rewritten) → lines_with_holes [] file number ms ≡ ms
unfolding lines_with_holes
no_lines file number [] = refl
no_lines file number (m ∷ ms) =
    ap (λ (ls : List (List ℕ)). record m { lines = ls } ∷ lines_with_holes [] file (later number 1) ms) (append-nil m.lines)
    ∙ ap (λ (rest : List Rewritten). m ∷ rest) (no_lines file (later number 1) ms)

-- without notes files stay as they are
pub without_notes : (ms : List Moved) → ms ≡ map (holed []) ms
without_notes [] = refl
without_notes (m ∷ ms) =
    ap (λ (ls : List Rewritten). record m { lines = ls } ∷ ms) (sym (no_lines m.names.old 1 m.lines)) ∙ ap (λ (rest : List Moved). holed [] m ∷ rest) (without_notes ms)

-- where there are no notes files stay as they are
pub no_holes : (notes : List Note) (ms : List Moved) → (length notes == 0) ≡ true → ms ≡ map (holed (map noted notes)) ms
no_holes [] ms none = without_notes ms
no_holes (n ∷ ns) ms none = absurd (omega (arith, eqb-true (length (n ∷ ns)) 0 none))
