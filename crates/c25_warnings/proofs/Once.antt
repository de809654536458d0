-- Warnings that are added to those so far.
use Rattle.std.proofs.Common.{◌≡◌, ◌+◌, ℕ, zero, suc, List, [], ◌∷◌, ◌++◌, add-one, drop, refl, ap, sym, ◌∙◌}
use Rattle.std.specs.Prelude.{slice_get}
use Rattle.c25_meaning_expansion.specs.Files.{Files}
use Rattle.c25_meaning_linking.specs.Place.{Place}
use Rattle.c25_meaning_objects.specs.Module.{Contents}
use Rattle.c25_line_warnings.specs.Reach.{after}
use Rattle.c25_line_warnings.specs.Said.{spelling_in}
use Rattle.c25_line_warnings.specs.SourceLine.{SourceLine}
use Rattle.c25_line_warnings.specs.declared.reach.Before.{Before}
use Rattle.c25_warnings.specs.Sources.{of_found}
use Rattle.c25_warnings.specs.Warnings.{Known, Warning, each_once, of_line, of_lines, of_sources, with_new}

-- some warnings after others
pub after_others : (seen a b : List Warning) → each_once seen (a ++ b) ≡ each_once (each_once seen a) b
after_others seen [] b = refl
after_others seen (w ∷ a) b = after_others (with_new seen w) a b

-- the same, as a body comes to it
pub one_after_other : (seen a b : List Warning) → each_once (each_once seen a) b ≡ each_once seen (a ++ b)
one_after_other seen a b = sym (after_others seen a b)

-- the warnings of a line, and then those of the lines after it
pub line_more : (k : Known) (b next : Before) (old new : List Warning) (l : SourceLine) (rest : List SourceLine) → new ≡ each_once old (of_line k b l) → next ≡ after b l (spelling_in l.text)
    → each_once new (of_lines k next rest) ≡ each_once old (of_lines k b (l ∷ rest))
line_more k b next old new l rest added goes_on =
    ap (λ seen. each_once seen (of_lines k next rest)) added ∙ ap (λ n. each_once (each_once old (of_line k b l)) (of_lines k n rest)) goes_on
    ∙ one_after_other old (of_line k b l) (of_lines k (after b l (spelling_in l.text)) rest)

-- the warnings of a source, whose module has this number, and then those of the sources after it
numbered_more : (files : Files) (places : List Place) (name : List ℕ) (names : List (List ℕ)) (ms : List Contents) (n : ℕ)
    → of_found files name places (slice_get ms n) ++ of_sources files names (drop (suc n) ms) places ≡ of_sources files (name ∷ names) (drop n ms) places
numbered_more files places name [] [] zero = refl
numbered_more files places name [] [] (suc n) = refl
numbered_more files places name (next ∷ names) [] zero = refl
numbered_more files places name (next ∷ names) [] (suc n) = refl
numbered_more files places name names (m ∷ ms) zero = refl
numbered_more files places name names (m ∷ ms) (suc n) = numbered_more files places name names ms n

pub source_more : (files : Files) (places : List Place) (name : List ℕ) (names : List (List ℕ)) (ms : List Contents) (n : ℕ) (old new : List Warning)
    → new ≡ each_once old (of_found files name places (slice_get ms n)) → each_once new (of_sources files names (drop (n + 1) ms) places) ≡ each_once old (of_sources files (name ∷ names) (drop n ms) places)
source_more files places name names ms n old new added =
    ap (λ seen. each_once seen (of_sources files names (drop (n + 1) ms) places)) added
    ∙ one_after_other old (of_found files name places (slice_get ms n)) (of_sources files names (drop (n + 1) ms) places)
    ∙ ap (λ (k : ℕ). each_once old (of_found files name places (slice_get ms n) ++ of_sources files names (drop k ms) places)) (add-one n)
    ∙ ap (each_once old) (numbered_more files places name names ms n)
