-- Written lines as the lines of a text, whole and cut.
use Rattle.std.proofs.Common.{◌≡◌, ℕ, ◌+◌, ◌-◌, ◌<◌, Bool, true, false, eqb, List, [], ◌∷◌, ◌++◌, length, get_or, take, Ok, refl, sym, ap, subst, ◌∙◌, arith, inl, inr, lit<, append_assoc}
use Rattle.std.specs.Prelude.{All}
use Rattle.std.specs.List.{list_all, slice_split}
use Rattle.std.specs.Str.Lines.{lines, lines_of_parts, strip_carriage_return}
use Rattle.std.proofs.lemmas.Bool.{ne_eqb, cases_lt, cond-false, and_parts}
use Rattle.std.proofs.lemmas.List.{get_or_past}
use Rattle.std.proofs.lemmas.List.Elements.{All-nil, All-cons, All-head, All-tail}
use Rattle.std.proofs.lemmas.List.Splits.{slice_split_at, slice_split_none, length-slice_split}
use Rattle.hex.specs.Hex.{is_hex_digit, encode_upper}
use Rattle.c25_hex.specs.Hex.{HexState, after_line, after_lines}
use Rattle.c25_hex.specs.HexText.{hex_line, text_of, line_body, with_sum}
use Rattle.c25_hex.proofs.Lines.{digits_of_line}
use Rattle.c25_hex.proofs.Stretches.{Goes, IsWritten}

-- ---- no line end within a line

-- characters above those of line ends
abbrev pub IsPrint : ℕ → Type 0
IsPrint c = 13 < c

digit_prints : (c : ℕ) → is_hex_digit c ≡ true → IsPrint c
digit_prints c h = grind (arith)

digits_print : (ds : List ℕ) → list_all is_hex_digit ds ≡ true → All IsPrint ds
digits_print [] h = All-nil IsPrint
digits_print (d ∷ ds) h =
    let parts = and_parts (is_hex_digit d) (list_all is_hex_digit ds) h in
    All-cons IsPrint d ds (digit_prints d parts.0) (digits_print ds parts.1)

pub line_prints : (line : List ℕ) → IsWritten line → All IsPrint line
unfolding hex_line
line_prints line is =
    let P : List ℕ → Type 0 = λ t. All IsPrint t in
    subst P (sym is.same) (All-cons IsPrint 58 (encode_upper (with_sum (line_body is.address is.kind is.bytes))) (lit< tt)
    (digits_print (encode_upper (with_sum (line_body is.address is.kind is.bytes))) (digits_of_line is.address is.kind is.bytes is.form)))

not_line_end : (c : ℕ) → IsPrint c → eqb c 10 ≡ false
not_line_end c h = ne_eqb c 10 (λ same. omega arith)

no_line_end : (xs : List ℕ) → All IsPrint xs → All (λ c. eqb c 10 ≡ false) xs
no_line_end [] h = All-nil (λ (c : ℕ). eqb c 10 ≡ false)
no_line_end (x ∷ xs) h = All-cons (λ (c : ℕ). eqb c 10 ≡ false) x xs (not_line_end x (All-head IsPrint x xs h)) (no_line_end xs (All-tail IsPrint x xs h))

no_return : (xs : List ℕ) (k : ℕ) → All IsPrint xs → eqb (get_or xs k 0) 13 ≡ false
no_return xs k h = elim (cases_lt k (length xs)) [
  | inl lt ↦ (let print = h k 0 lt in ne_eqb (get_or xs k 0) 13 (λ same. omega arith))
  | inr le ↦ (let gone = get_or_past xs k 0 le in ne_eqb (get_or xs k 0) 13 (λ same. omega arith))
]

kept : (xs : List ℕ) → All IsPrint xs → strip_carriage_return xs ≡ xs
kept xs h = cond-false (eqb (get_or xs (length xs - 1) 0) 13) (take (length xs - 1) xs) xs (no_return xs (length xs - 1) h)

parts_more : (x : List ℕ) (ps : List (List ℕ)) → 0 < length ps → lines_of_parts (x ∷ ps) ≡ strip_carriage_return x ∷ lines_of_parts ps
parts_more x [] h = absurd (omega arith)
parts_more x (p ∷ ps) h = refl

abbrev is_end : ℕ → Bool
is_end c = eqb c 10

-- a line and its end in front of a text
pub line_first : (xs more : List ℕ) → All IsPrint xs → lines (xs ++ 10 ∷ more) ≡ xs ∷ lines more
line_first xs more h =
    ap (λ (ps : List (List ℕ)). lines_of_parts ps) (slice_split_at is_end xs 10 more (no_line_end xs h) refl)
    ∙ parts_more xs (slice_split is_end more) (let e = length-slice_split is_end more in omega arith)
    ∙ ap (λ (first : List ℕ). first ∷ lines more) (kept xs h)

-- a line without its end is the last one
pub line_last : (x : ℕ) (xs : List ℕ) → All IsPrint (x ∷ xs) → lines (x ∷ xs) ≡ (x ∷ xs) ∷ []
line_last x xs h =
    ap (λ (ps : List (List ℕ)). lines_of_parts ps) (slice_split_none is_end (x ∷ xs) (no_line_end (x ∷ xs) h))
    ∙ cond-false (eqb (length (x ∷ xs)) 0) [] ((x ∷ xs) ∷ []) (ne_eqb (length (x ∷ xs)) 0 (λ same. omega arith))

pub text_more : (line : List ℕ) (rest : List (List ℕ)) → text_of (line ∷ rest) ≡ line ++ 10 ∷ text_of rest
text_more line rest = append_assoc line (10 ∷ []) (text_of rest)

-- ---- whole texts

-- the lines of a written text
pub lines_back : (s t : HexState) (all : List (List ℕ)) → Goes s all t → lines (text_of all) ≡ all
lines_back s t [] goes = refl
lines_back s t (line ∷ rest) goes =
    ap (λ (text : List ℕ). lines text) (text_more line rest) ∙ line_first line (text_of rest) (line_prints line goes.2)
    ∙ ap (λ (ls : List (List ℕ)). line ∷ ls) (lines_back goes.0 t rest goes.4)

pub one_line : (n : ℕ) (s u : HexState) (line : List ℕ) (rest : List (List ℕ)) → after_line s line ≡ Ok u → after_lines n s (line ∷ rest) ≡ after_lines (n + 1) u rest
unfolding after_lines
one_line n s u line rest taken = rw taken refl

-- lines that are read to the end line give the bytes of the last state
pub goes_to : (n : ℕ) (s t : HexState) (all : List (List ℕ)) → Goes s all t → t.ended ≡ true → after_lines n s all ≡ Ok t.bytes
unfolding after_lines
goes_to n s t [] goes ended = rw goes (rw ended refl)
goes_to n s t (line ∷ rest) goes ended = one_line n s goes.0 line rest goes.3 ∙ goes_to (n + 1) goes.0 t rest goes.4 ended
