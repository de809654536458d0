-- What the pieces that tokens stand for say of the tokens.
use Rattle.std.proofs.Common.{◌≡◌, Bor, ℕ, zero, suc, ◌+◌, ◌-◌, ◌<◌, ◌≤◌, Bool, true, false, cond, List, [], ◌∷◌, length, get_or, Option, Some, None, Result, Ok, sym, ap, subst, ◌∙◌, arith}
use Rattle.std.specs.Prelude.{slice_get}
use Rattle.std.specs.Option.{option_map, ok_or}
use Rattle.std.proofs.lemmas.List.{length-map}
use Rattle.std.proofs.lemmas.Option.{slice_get-map}
use Rattle.c25_meaning_instructions.specs.declared.mnemonic.Spelling.{Spelling}
use Rattle.c25_meaning_language.specs.Line.{Piece}
use Rattle.c25_meaning_language.specs.declared.statement.FaultKind.{FaultKind}
use Rattle.c25_meaning_language.specs.declared.statement.FaultKind.TheVariants as fault
use Rattle.c25_text.specs.View.{piece_of}
use Rattle.c25_text.specs.declared.tokens.Token.{Token}
use Rattle.c25_expr.specs.Pieces.{operands_view, pieces_of}
use Rattle.c25_places.specs.Refused.{AreWithin, end_of, first_refused, part_between, part_of}
use Rattle.c25_places.specs.Wanted.{has_fault, wants}
use Rattle.c25_places.specs.declared.wanted.Operation.{Operation}
use Rattle.c25_places.specs.declared.wanted.Operation.TheVariants.{Runs}
use Rattle.c25_places.proofs.Pieces.{AllWithin}

-- the end of a token by its index
pub end_at : (a n : ℕ) (ts : List Token) (k : ℕ) (d : Token) → AreWithin a n (pieces_of ts) → k < length ts → end_of (piece_of (get_or ts k d)) ≤ n
end_at a n [] k d h l = absurd (omega (arith, l))
end_at a n (t ∷ ts) zero d h l = h.2
end_at a n (t ∷ ts) (suc k) d h l = end_at (end_of (piece_of t)) n ts k d h.3 (omega (arith, l))

pub end_below : (a : ℕ) (ts : List Token) (k : ℕ) (d : Token) → AreWithin a 18446744073709551615 (pieces_of ts) → k < length ts → end_of (piece_of (get_or ts k d)) < 18446744073709551616
end_below a ts k d h l = omega (arith, end_at a 18446744073709551615 ts k d h l)

pub end_got : (a n : ℕ) (ts : List Token) (k : ℕ) (t : Token) → AreWithin a n (pieces_of ts) → Some t ≡ slice_get ts k → end_of (piece_of t) ≤ n
end_got a n [] k t h e = absurd (cc)
end_got a n (u ∷ ts) zero t h e = let same : u ≡ t = cc in subst (λ (x : Token). end_of (piece_of x) ≤ n) same h.2
end_got a n (u ∷ ts) (suc k) t h e = end_got (end_of (piece_of u)) n ts k t h.3 e

-- the part from the first token to the last
pub between : (ts : List Token) (first last : Token) → Some first ≡ slice_get ts 0 → Some last ≡ slice_get ts (length ts - 1) → part_between (Some (piece_of first)) (Some (piece_of last)) ≡ part_of (pieces_of ts)
between ts first last f l =
    let one : Some (piece_of first) ≡ slice_get (pieces_of ts) 0 = ap (option_map piece_of) f ∙ sym (slice_get-map piece_of ts 0) in
    let same : length ts - 1 ≡ length (pieces_of ts) - 1 = ap (λ (n : ℕ). n - 1) (sym (length-map ts piece_of)) in
    let other : Some (piece_of last) ≡ slice_get (pieces_of ts) (length (pieces_of ts) - 1) = ap (option_map piece_of) l ∙ sym (slice_get-map piece_of ts (length ts - 1)) ∙ ap (slice_get (pieces_of ts)) same in
    ap (λ (o : Option Piece). part_between o (Some (piece_of last))) one ∙ ap (part_between (slice_get (pieces_of ts) 0)) other

-- an instruction by its spelling
pub runs : (o : Option Spelling) (s : Spelling) → (let r : Result Spelling FaultKind = Ok s in r) ≡ ok_or o fault.UnknownMnemonic → Some (Runs s) ≡ option_map Runs o
runs None s h = absurd (cc)
runs (Some t) s h = let same : s ≡ t = cc in ap (λ (x : Spelling). Some (Runs x)) same

-- the operand that is found is one of the line's
pub found_within : (n : ℕ) (kind : FaultKind) (op : Operation) (k : ℕ) (os : List (List Piece)) (r : ℕ × List Piece) → AllWithin 0 n os → first_refused kind op k os ≡ Some r → AreWithin 0 n r.1
unfolding first_refused
found_within n kind op k [] r h e = absurd (cc)
found_within n kind op k (o ∷ os) r h e = by (has_fault kind (wants op k) o) (found_within n kind op (k + 1) os r h.1) e
  where
    by : (b : Bool) → (first_refused kind op (k + 1) os ≡ Some r → AreWithin 0 n r.1) → cond b (Some (let q : ℕ × List Piece = (k, o) in q)) (first_refused kind op (k + 1) os) ≡ Some r → AreWithin 0 n r.1
    by true more e = let same : (let q : ℕ × List Piece = (k, o) in q) ≡ r = cc in subst (λ (q : ℕ × List Piece). AreWithin 0 n q.1) same h.0
    by false more e = more e

-- the first operand of a line has its tokens within it
pub first_within : (n : ℕ) (os : List (Bor (List Token))) (o : Bor (List Token)) → AllWithin 0 n (operands_view os) → Some o ≡ slice_get os 0 → AreWithin 0 n (pieces_of o.now)
first_within n [] o all h = absurd (cc)
first_within n (q ∷ os) o all h = let same : q ≡ o = cc in subst (λ (x : Bor (List Token)). AreWithin 0 n (pieces_of x.now)) same all.0

-- an operand of a line has its tokens within it
pub got_within : (n : ℕ) (os : List (Bor (List Token))) (k : ℕ) (o : Bor (List Token)) → AllWithin 0 n (operands_view os) → slice_get os k ≡ Some o → AreWithin 0 n (pieces_of o.now)
got_within n [] k o all h = absurd (cc)
got_within n (q ∷ os) zero o all h = let same : q ≡ o = cc in subst (λ (x : Bor (List Token)). AreWithin 0 n (pieces_of x.now)) same all.0
got_within n (q ∷ os) (suc k) o all h = got_within n os k o all.1 h
