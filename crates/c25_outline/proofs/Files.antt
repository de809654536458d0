-- The macros of files, one file after another.
use Rattle.std.proofs.Common.{◌≡◌, ◌<◌, ℕ, zero, suc, ◌+◌, List, [], ◌∷◌, ◌++◌, drop, get_or, length, ap, sym, ◌∙◌, refl, arith}
use Rattle.std.specs.List.{flat_map}
use Rattle.std.proofs.lemmas.List.{append_assoc, drop_more}
use Rattle.c25_meaning_expansion.specs.Files.{Files, file_name, text_named}
use Rattle.c25_outline.specs.Macros.{macros_in_file}

-- the name of a file, by its number
file_at : (files : Files) (i : ℕ) (d : List ℕ × List ℕ) → i < length files → file_name files i ≡ (get_or files i d).0
file_at [] i d lt = absurd (omega (arith, lt))
file_at (f ∷ files) zero d lt = refl
file_at (f ∷ files) (suc i) d lt = file_at files i d (omega (arith, lt))

-- the macros of one file more come after those of the files before it
pub file_more : (files : Files) (i : ℕ) (before after all : List (List ℕ)) → i < length files → after ≡ before ++ macros_in_file (text_named files (file_name files i))
    → before ++ flat_map (λ f. macros_in_file (text_named files f.0)) (drop i files) ≡ all → after ++ flat_map (λ f. macros_in_file (text_named files f.0)) (drop (i + 1) files) ≡ all
file_more files i before after all lt is told =
    let d : List ℕ × List ℕ = ([], []) in
    let f : List ℕ × List ℕ → List (List ℕ) = λ g. macros_in_file (text_named files g.0) in
    ap (λ l. l ++ flat_map f (drop (i + 1) files)) (is ∙ ap (λ n. before ++ macros_in_file (text_named files n)) (file_at files i d lt))
    ∙ append_assoc before (f (get_or files i d)) (flat_map f (drop (i + 1) files))
    ∙ ap (λ ys. before ++ flat_map f ys) (sym (drop_more files i d lt))
    ∙ told
