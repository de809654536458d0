-- The tokens of a line have bytes, follow one another and end within it, and so do those of each operand.
use Rattle.std.proofs.Common.{◌≡◌, ℕ, zero, suc, ◌+◌, ◌<◌, ◌≤◌, Bool, true, false, cond, List, [], ◌∷◌, length, Option, Some, None, Ok, MatchBool, refl, sym, subst, arith}
use Rattle.std.specs.Prelude.{slice_get}
use Rattle.std.specs.List.{slice_split, onto_first}
use Rattle.c25_meaning_language.specs.Line.{Piece, Parts, AreTokens, IsStatement, comment_line, is_comment_line, line_of, word_end}
use Rattle.c25_meaning_language.specs.Operands.{is_comma, operands_of}
use Rattle.c25_text.proofs.Scans.{token_within}
use Rattle.c25_text.proofs.Splits.{parts_are}
use Rattle.c25_places.specs.Refused.{AreWithin, comma_at, end_of, part_between}
use Rattle.c25_places.specs.declared.part.Part.{Part}

-- a token has bytes, from a place on, and ends within a text of this length
pub record Within (from n : ℕ) (p : Piece) : Type 0 where
  pub after : from ≤ p.start
  pub some : p.start < end_of p
  pub within : end_of p ≤ n

-- ---- the tokens of a line

pub within_tokens : (text : List ℕ) (at : ℕ) (ps : List Piece) (stop : ℕ) → AreTokens text at ps stop → AreWithin at (length text) ps
within_tokens text at [] stop h = tt
within_tokens text at (p ∷ ps) stop h =
    let w = token_within p.start text p.kind (length p.text) h.1 h.2 in
    (omega (arith, h.0), omega (arith, w.0), w.1, within_tokens text (p.start + length p.text) ps stop h.4)

pub lowered : (a b n : ℕ) (ps : List Piece) → a ≤ b → AreWithin b n ps → AreWithin a n ps
lowered a b n [] l h = tt
lowered a b n (p ∷ ps) l h = (omega (arith, h.0), h.1, h.2, h.3)

pub widened : (a n m : ℕ) (ps : List Piece) → n ≤ m → AreWithin a n ps → AreWithin a m ps
widened a n m [] l h = tt
widened a n m (p ∷ ps) l h = (h.0, h.1, omega (arith, h.2), widened (end_of p) n m ps l h.3)

within_statement : (b : Bool) (text : List ℕ) (p : Parts) → MatchBool b (p ≡ comment_line text) ((stop : ℕ) × IsStatement text p stop) → AreWithin 0 (length text) p.pieces
within_statement true text p h = subst (λ (q : Parts). AreWithin 0 (length text) q.pieces) (sym h) tt
within_statement false text p h = lowered 0 (word_end text) (length text) p.pieces (omega arith) (within_tokens text (word_end text) p.pieces h.0 h.1.tokens)

pub within_line : (text : List ℕ) (p : Parts) → line_of text ≡ Ok p → AreWithin 0 (length text) p.pieces
within_line text p h = within_statement (is_comment_line text) text p ((parts_are text p).1 h)

-- ---- single tokens

pub piece_within : (a n : ℕ) (ps : List Piece) (k : ℕ) (p : Piece) → AreWithin a n ps → slice_get ps k ≡ Some p → Within a n p
piece_within a n [] k p h e = absurd (cc)
piece_within a n (q ∷ ps) zero p h e =
    let same : q ≡ p = cc in
    subst (Within a n) same (record { after = h.0; some = h.1; within = h.2 })
piece_within a n (q ∷ ps) (suc k) p h e =
    let w = piece_within (end_of q) n ps k p h.3 e in
    record { after = omega (arith, w.after, h.0, h.1); some = w.some; within = w.within }

-- the step of a search for a comma
comma_step : (b : Bool) (n : ℕ) (p : Piece) (here more : Option Piece) → cond b here more ≡ Some p → (here ≡ Some p → Within 0 n p) → (more ≡ Some p → Within 0 n p) → Within 0 n p
comma_step true n p here more e y o = y e
comma_step false n p here more e y o = o e

pub comma_within : (a n k : ℕ) (ps : List Piece) (p : Piece) → AreWithin a n ps → comma_at k ps ≡ Some p → Within 0 n p
comma_within a n k [] p h e = absurd (cc)
comma_within a n zero (q ∷ ps) p h e =
    comma_step (is_comma q.kind) n p (Some q) (comma_at zero ps) e
    (λ y. let same : q ≡ p = cc in subst (Within 0 n) same (record { after = omega arith; some = h.1; within = h.2 }))
    (λ o. comma_within (end_of q) n zero ps p h.3 o)
comma_within a n (suc k) (q ∷ ps) p h e =
    comma_step (is_comma q.kind) n p (comma_at k ps) (comma_at (suc k) ps) e
    (λ y. comma_within (end_of q) n k ps p h.3 y)
    (λ o. comma_within (end_of q) n (suc k) ps p h.3 o)

-- ---- parts

-- a part has bytes and ends within a text of this length
pub record PartWithin (n : ℕ) (p : Part) : Type 0 where
  pub some : p.start < p.end
  pub within : p.end ≤ n

last_within : (n : ℕ) (q : Piece) (ps : List Piece) (k : ℕ) (p : Piece) → AreWithin 0 n (q ∷ ps) → slice_get (q ∷ ps) k ≡ Some p → PartWithin n (record { start = q.start; end = end_of p })
last_within n q ps zero p h e =
    let same : q ≡ p = cc in
    subst (λ (x : Piece). PartWithin n (record { start = q.start; end = end_of x })) same (record { some = h.1; within = h.2 })
last_within n q ps (suc k) p h e =
    let w = piece_within (end_of q) n ps k p h.3 e in
    record { some = omega (arith, w.after, w.some, h.1); within = w.within }

-- the part between the first token and another
pub between_within : (n : ℕ) (ps : List Piece) (k : ℕ) (p : Part) → AreWithin 0 n ps → part_between (slice_get ps 0) (slice_get ps k) ≡ Some p → PartWithin n p
between_within n [] k p h e = absurd (cc)
between_within n (q ∷ ps) k p h e = by (slice_get (q ∷ ps) k) refl e
  where
    by : (o : Option Piece) → slice_get (q ∷ ps) k ≡ o → part_between (Some q) o ≡ Some p → PartWithin n p
    by None was e = absurd (cc)
    by (Some last) was e =
        let same : (let r : Part = record { start = q.start; end = end_of last } in r) ≡ p = cc in
        subst (PartWithin n) same (last_within n q ps k last h was)

-- ---- operands

abbrev pub AllWithin : ℕ → ℕ → List (List Piece) → Type 0
AllWithin a n [] = Unit {0}
AllWithin a n (o ∷ os) = AreWithin a n o × AllWithin a n os

all_lowered : (a b n : ℕ) (os : List (List Piece)) → a ≤ b → AllWithin b n os → AllWithin a n os
all_lowered a b n [] l h = tt
all_lowered a b n (o ∷ os) l h = (lowered a b n o l h.0, all_lowered a b n os l h.1)

onto_first_within : (a n : ℕ) (p : Piece) (os : List (List Piece)) → a ≤ p.start → p.start < end_of p → end_of p ≤ n → AllWithin (end_of p) n os → AllWithin a n (onto_first p os)
onto_first_within a n p [] l some w h = ((l, some, w, tt), tt)
onto_first_within a n p (o ∷ os) l some w h = ((l, some, w, h.0), all_lowered a (end_of p) n os (omega (arith, l, some)) h.1)

split_step : (b : Bool) (a n : ℕ) (p : Piece) (rest : List (List Piece)) → a ≤ p.start → p.start < end_of p → end_of p ≤ n → AllWithin (end_of p) n rest → AllWithin a n (cond b ([] ∷ rest) (onto_first p rest))
split_step true a n p rest l some w more = (tt, all_lowered a (end_of p) n rest (omega (arith, l, some)) more)
split_step false a n p rest l some w more = onto_first_within a n p rest l some w more

split_within : (a n : ℕ) (ps : List Piece) → AreWithin a n ps → AllWithin a n (slice_split (λ (q : Piece). is_comma q.kind) ps)
split_within a n [] h = (tt, tt)
split_within a n (p ∷ ps) h = split_step (is_comma p.kind) a n p (slice_split (λ (q : Piece). is_comma q.kind) ps) h.0 h.1 h.2 (split_within (end_of p) n ps h.3)

pub operands_within : (n : ℕ) (ps : List Piece) → AreWithin 0 n ps → AllWithin 0 n (operands_of ps)
operands_within n [] h = tt
operands_within n (p ∷ ps) h = split_within 0 n (p ∷ ps) h
