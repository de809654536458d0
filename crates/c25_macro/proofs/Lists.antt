use Rattle.std.proofs.Common.{◌≡◌, List, [], ◌∷◌, ◌++◌, map, refl, ap, ◌∙◌, length, reverse, sum_by, ◌+◌, sym, Bool, ◌||◌}
use Rattle.std.proofs.lemmas.List.Sorted.{sum_by-IsPermutation, IsPermutation-reverse, list_any-IsPermutation}
use Rattle.std.proofs.lemmas.List.Sums.{sum_by-cons}
use Rattle.std.specs.List.{list_any}
use Rattle.c25_meaning_expansion.specs.Expansion.{SourceFrame, Kind}
use Rattle.c25_macro.specs.SourceFrames.{frames, scope_of, kind_of}
use Rattle.c25_macro.specs.declared.frames.Source.{Source}
use Rattle.c25_meaning_expansion.specs.Expansion.{LineOrEnd, Read, Close, after_close}
use Rattle.c25_meaning_expansion.specs.Rows.{Row}

-- past the lines of a source and its end
pub after_close-append : (lines : List Row) (items : List LineOrEnd) → after_close (map Read lines ++ Close ∷ items) ≡ items
after_close-append [] items = refl
after_close-append (line ∷ lines) items = after_close-append lines items

pub ruleset after_closes = (after_close-append)

-- the blocks of the sources in either order
scopes_sum : (sources : List Source) → sum_by (λ f. length f.branches + 1) (frames sources) ≡ sum_by (λ s. length s.frame.branches + 1) sources
scopes_sum [] = refl
scopes_sum (s ∷ ss) =
    sum_by-cons (λ (f : SourceFrame). length f.branches + 1) (scope_of s.frame) (frames ss) ∙ ap (λ n. length s.frame.branches + 1 + n) (scopes_sum ss)
    ∙ sym (sum_by-cons (λ (s : Source). length s.frame.branches + 1) s ss)

pub sum_scopes : (sources : List Source) → sum_by (λ f. length f.branches + 1) (frames (reverse sources)) ≡ sum_by (λ s. length s.frame.branches + 1) sources
sum_scopes sources = scopes_sum (reverse sources) ∙ sum_by-IsPermutation (λ (s : Source). length s.frame.branches + 1) sources (reverse sources) (IsPermutation-reverse sources)

scopes_any : (test : Kind → Bool) (sources : List Source) → list_any (λ f. test f.kind) (frames sources) ≡ list_any (λ s. test (kind_of s.frame.kind)) sources
scopes_any test [] = refl
scopes_any test (s ∷ ss) = ap (λ b. test (kind_of s.frame.kind) || b) (scopes_any test ss)

pub any_scopes : (test : Kind → Bool) (sources : List Source) → list_any (λ f. test f.kind) (frames (reverse sources)) ≡ list_any (λ s. test (kind_of s.frame.kind)) sources
any_scopes test sources = scopes_any test (reverse sources) ∙ sym (list_any-IsPermutation (λ (s : Source). test (kind_of s.frame.kind)) sources (reverse sources) (IsPermutation-reverse sources))
