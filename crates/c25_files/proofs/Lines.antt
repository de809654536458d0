-- The lines of a text are the first one and those after it; so are lines with their places.
use Rattle.std.proofs.Common.{◌≡◌, ℕ, ◌+◌, ◌-◌, ◌<◌, ◌≤◌, zero, suc, Bool, not, true, false, cond, List, [], ◌∷◌, ◌++◌, length, take, drop, refl, ap, sym, ◌∙◌, arith, eqb, get_or, length-append, Some, None}
use Rattle.std.proofs.lemmas.List.{drop-drop, take-take, take_at, length-take-le}
use Rattle.std.specs.List.{position_or_len, before_first, after_first, slice_split, onto_first, slice_get}
use Rattle.std.specs.Str.Lines.{lines, lines_of_parts, strip_carriage_return}
use borrow.Author.Tests.{ne_eqb}
use Rattle.std.proofs.lemmas.List.Splits.{slice_split_first, length-slice_split}
use Rattle.c25_meaning_expansion.specs.Rows.{Row, rows_from, last_place}
use Rattle.c25_meaning_common.specs.declared.placed.FileLine.{FileLine}

-- ---- the lines of a text

pub not_zero : (n : ℕ) → eqb (suc n) 0 ≡ false
not_zero n = ne_eqb (suc n) 0 (λ z. omega arith)

abbrev pub is_feed : ℕ → Bool
is_feed b = eqb b 10

lines_of_parts-cons : (x : List ℕ) (parts : List (List ℕ)) → 0 < length parts → lines_of_parts (x ∷ parts) ≡ strip_carriage_return x ∷ lines_of_parts parts
lines_of_parts-cons x [] l = absurd (omega arith)
lines_of_parts-cons x (y ∷ more) l = refl

-- a line feed ends the first one
pub lines_ended : (w : List ℕ) → position_or_len is_feed w < length w → lines w ≡ strip_carriage_return (before_first is_feed w) ∷ lines (after_first is_feed w)
lines_ended w h =
    ap lines_of_parts (slice_split_first is_feed w 0 h)
    ∙ lines_of_parts-cons (before_first is_feed w) (slice_split is_feed (after_first is_feed w)) (omega (arith, length-slice_split is_feed (after_first is_feed w)))

-- one byte more in front of a part
part_more : (b : ℕ) (v : Bool) (bs : List ℕ) (n : ℕ) → (n ≡ length bs → slice_split is_feed bs ≡ bs ∷ []) → cond v 0 (1 + n) ≡ suc (length bs) → cond v ([] ∷ slice_split is_feed bs) (onto_first b (slice_split is_feed bs)) ≡ (b ∷ bs) ∷ []
part_more b true bs n h e = absurd (omega (arith, e))
part_more b false bs n h e = ap (onto_first b) (h (omega (arith, e)))

by_not : (v : Bool) (n : ℕ) → cond (not v) (1 + n) 0 ≡ cond v 0 (1 + n)
by_not true n = refl
by_not false n = refl

-- without a line feed there is one part
one_part : (w : List ℕ) → position_or_len is_feed w ≡ length w → slice_split is_feed w ≡ w ∷ []
one_part [] h = refl
one_part (b ∷ bs) h = part_more b (is_feed b) bs (position_or_len is_feed bs) (one_part bs) (sym (by_not (is_feed b) (position_or_len is_feed bs)) ∙ h)

-- the end of the text ends the last one
pub lines_last : (w : List ℕ) → 0 < length w → position_or_len is_feed w ≡ length w → lines w ≡ w ∷ []
lines_last [] l h = absurd (omega arith)
lines_last (b ∷ bs) l h = ap lines_of_parts (one_part (b ∷ bs) h) ∙ ap (λ t. cond t [] ((b ∷ bs) ∷ [])) (not_zero (length bs))

-- ---- lines with their places

-- all of them
pub take_rows : (file line : ℕ) (texts : List (List ℕ)) → take (length texts) (rows_from file line texts) ≡ rows_from file line texts
take_rows file line [] = refl
take_rows file line (x ∷ texts) = ap (λ rows. record { place = record { file = file; line = line }; text = x } ∷ rows) (take_rows file (line + 1) texts)

-- one more line in front of some
last_more : (place : FileLine ℕ) (r : Row) (rows : List Row) → 0 < length rows → last_place place (r ∷ rows) ≡ last_place place rows
last_more place r [] h = absurd (omega arith)
last_more place r (s ∷ rows) h =
    let e : suc (suc (length rows)) - 1 ≡ suc (suc (length rows) - 1) = omega arith in
    ap (λ n. elim (slice_get (r ∷ s ∷ rows) n) [ None ↦ place | Some row ↦ row.place ]) e

-- the last of so many
pub last_of_rows : (place : FileLine ℕ) (file line count : ℕ) (texts : List (List ℕ)) → count < length texts → last_place place (take (suc count) (rows_from file line texts)) ≡ record { file = file; line = line + count }
last_of_rows place file line count [] h = absurd (omega arith)
last_of_rows place file line zero (x ∷ texts) h =
    let e : line ≡ line + 0 = omega arith in
    ap (λ n. record { file = file; line = n }) e
last_of_rows place file line (suc count) (x ∷ []) h = absurd (omega arith)
last_of_rows place file line (suc count) (x ∷ y ∷ texts) h =
    let e : line + 1 + count ≡ line + suc count = omega arith in
    last_more place (record { place = record { file = file; line = line }; text = x }) (take (suc count) (rows_from file (line + 1) (y ∷ texts))) (omega arith)
    ∙ last_of_rows place file (line + 1) count (y ∷ texts) (omega arith) ∙ ap (λ n. record { file = file; line = n }) e

pub length-rows : (file line : ℕ) (texts : List (List ℕ)) → length (rows_from file line texts) ≡ length texts
length-rows file line [] = refl
length-rows file line (x ∷ texts) = ap suc (length-rows file (line + 1) texts)

-- the line after so many
pub one_more : (file line n : ℕ) (texts ys : List (List ℕ)) (x : List ℕ) → drop n texts ≡ x ∷ ys
    → take (suc n) (rows_from file line texts) ≡ take n (rows_from file line texts) ++ record { place = record { file = file; line = line + n }; text = x } ∷ []
one_more file line zero [] ys x e = absurd (omega (arith, ap length e))
one_more file line (suc n) [] ys x e = absurd (omega (arith, ap length e))
one_more file line zero (t ∷ texts) ys x e =
    let h : t ≡ x = ap (λ l. get_or l zero t) e in
    let z : line ≡ line + 0 = omega arith in
    λ i. record { place = record { file = file; line = z i }; text = h i } ∷ []
one_more file line (suc n) (t ∷ texts) ys x e =
    let z : line + 1 + n ≡ line + suc n = omega arith in
    ap (λ rows. record { place = record { file = file; line = line }; text = t } ∷ rows) (one_more file (line + 1) n texts ys x e)
    ∙ ap (λ k. record { place = record { file = file; line = line }; text = t } ∷ (take n (rows_from file (line + 1) texts) ++ record { place = record { file = file; line = k }; text = x } ∷ [])) z

-- what stands after one more
pub drop_next : {A : Type 0} (xs ys : List A) (x : A) (n : ℕ) → drop n xs ≡ x ∷ ys → drop (n + 1) xs ≡ ys
drop_next xs ys x n e = sym (drop-drop 1 n xs) ∙ ap (drop 1) e

-- so many without the last one
pub before_last : {A : Type 0} (xs body : List A) (last : A) (n : ℕ) → n ≤ length xs → take n xs ≡ body ++ last ∷ [] → take (n - 1) xs ≡ body
before_last xs body last n h e =
    let long : length body + 1 ≡ n = omega (arith, length-take-le n xs h, ap length e, length-append body (last ∷ [])) in
    sym (take-take (n - 1) n xs (omega arith)) ∙ ap (take (n - 1)) e ∙ take_at body (last ∷ []) (n - 1) (omega arith)
