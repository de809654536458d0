-- How many sources are open, and the line that a rewriting is of.
use Rattle.std.proofs.Common.{◌≡◌, ℕ, suc, ◌-◌, ◌<◌, ◌≤◌, nat_le, nat_lt, if◌then◌else◌, Bool, true, false, List, [], ◌∷◌, ◌++◌, length, take, drop, map, reverse, refl, ap, sym, ◌∙◌, arith, Option, Some, None, option_map, slice_get}
use Rattle.std.proofs.lemmas.Bool.Decides.{nat_tests}
use Rattle.std.proofs.lemmas.List.{drop_all, drop_at, length-drop, length-reverse, reverse-append, take-append-drop}
use Rattle.c25_meaning_expansion.specs.Rows.{Row}
use Rattle.c25_meaning_expansion.specs.Expansion.{Read}
use Rattle.c25_meaning_common.specs.declared.placed.FileLine.{FileLine}
use Rattle.c25_meaning_expansion.specs.Trail.{next_place}
use Rattle.c25_macro.specs.SourceFrames.{after, frames}
use Rattle.c25_macro.specs.declared.frames.Source.{Source}

-- as many as sources
scopes_length : (sources : List Source) → length (frames sources) ≡ length sources
scopes_length [] = refl
scopes_length (s ∷ ss) = ap suc (scopes_length ss)

pub length_scopes : (sources : List Source) → length (frames (reverse sources)) ≡ length sources
length_scopes sources = scopes_length (reverse sources) ∙ length-reverse sources

-- the next line of a source that has one
pub found : (rows : List Row) (sources : List Source) (last place : FileLine ℕ) → Some place ≡ option_map (λ row. row.place) (slice_get rows 0)
    → place ≡ next_place (map Read rows ++ after sources) last
found [] sources last place e = absurd (cc)
found (row ∷ rows) sources last place e = cc

-- the next line of a source that has none
pub missed : (rows : List Row) (sources : List Source) (last : FileLine ℕ) → None ≡ option_map (λ row. row.place) (slice_get rows 0)
    → last ≡ next_place (map Read rows ++ after sources) last
missed [] [] last e = refl
missed [] (s ∷ ss) last e = refl
missed (row ∷ rows) sources last e = absurd (cc)

-- a list without so many at its end, turned, is the turned list without so many at its front
within : {A : Type 0} (xs : List A) (n : ℕ) → n ≤ length xs → reverse (take (length xs - n) xs) ≡ drop n (reverse xs)
within xs n h =
    let m = length xs - n in
    let long : length (reverse (drop m xs)) ≡ n = omega (arith, length-reverse (drop m xs), length-drop m xs) in
    sym (drop_at (reverse (drop m xs)) (reverse (take m xs)) n long)
    ∙ ap (drop n) (sym (reverse-append (take m xs) (drop m xs)) ∙ ap reverse (take-append-drop m xs))

beyond : {A : Type 0} (xs : List A) (n : ℕ) → length xs < n → reverse (take (length xs - n) xs) ≡ drop n (reverse xs)
beyond xs n h =
    let none : length xs - n ≡ 0 = omega arith in
    ap (λ m. reverse (take m xs)) none ∙ sym (drop_all n (reverse xs) (omega (arith, length-reverse xs)))

pub reverse-take : {A : Type 0} (xs : List A) (n : ℕ) → reverse (take (length xs - n) xs) ≡ drop n (reverse xs)
reverse-take xs n = by (nat_le n (length xs)) refl
  where
    by : (b : Bool) → nat_le n (length xs) ≡ b → reverse (take (length xs - n) xs) ≡ drop n (reverse xs)
    by true e = within xs n (grind (arith, nat_tests, e))
    by false e = beyond xs n (grind (arith, nat_tests, e))

-- what is dropped where no more are open than before
pub not_more : {A : Type 0} (xs ys : List A) (before after : ℕ) → after ≤ before → ys ≡ (if nat_lt before after then xs else ys)
not_more xs ys before after h = by (nat_lt before after) refl
  where
    by : (b : Bool) → nat_lt before after ≡ b → ys ≡ (if b then xs else ys)
    by true e = absurd (grind (arith, nat_tests, e, h))
    by false e = refl
