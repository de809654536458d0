-- Texts of files, one after the other.
use Rattle.std.proofs.Common.{◌≡◌, ◌<◌, ℕ, zero, suc, ◌+◌, List, [], ◌∷◌, ◌++◌, drop, get_or, length, ap, sym, ◌∙◌, refl, arith}
use Rattle.std.specs.List.{flat_map}
use Rattle.std.proofs.lemmas.List.{append_assoc, drop_more}
use Rattle.c25_meaning_expansion.specs.Files.{Files, file_name}

-- the name of a file, by its number
file_at : (files : Files) (i : ℕ) (d : List ℕ × List ℕ) → i < length files → file_name files i ≡ (get_or files i d).0
file_at [] i d lt = absurd (omega (arith, lt))
file_at (f ∷ files) zero d lt = refl
file_at (f ∷ files) (suc i) d lt = file_at files i d (omega (arith, lt))

-- what the name of one file more gives comes after what those before it give
pub name_more : (files : Files) (gives : List ℕ → List ℕ) (i : ℕ) (before after all : List ℕ) → i < length files → after ≡ before ++ gives (file_name files i)
    → before ++ flat_map (λ f. gives f.0) (drop i files) ≡ all → after ++ flat_map (λ f. gives f.0) (drop (i + 1) files) ≡ all
name_more files gives i before after all lt is told =
    let d : List ℕ × List ℕ = ([], []) in
    let f : List ℕ × List ℕ → List ℕ = λ g. gives g.0 in
    ap (λ l. l ++ flat_map f (drop (i + 1) files)) (is ∙ ap (λ n. before ++ gives n) (file_at files i d lt))
    ∙ append_assoc before (f (get_or files i d)) (flat_map f (drop (i + 1) files))
    ∙ ap (λ ys. before ++ flat_map f ys) (sym (drop_more files i d lt))
    ∙ told
