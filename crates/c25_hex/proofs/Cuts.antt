-- What begins a written text.
use Rattle.std.proofs.Common.{◌≡◌, ◌≢◌, ℕ, ◌+◌, false, List, [], ◌∷◌, ◌++◌, length, Result, Ok, Err, refl, sym, ap, subst, ◌∙◌, arith, inl, inr, ◌⊎◌}
use Rattle.std.specs.Prelude.{All}
use Rattle.std.specs.Ordering.{nat_cmp}
use Rattle.std.specs.FinMap as map
use Rattle.std.specs.Str.Lines.{lines}
use Rattle.std.proofs.lemmas.List.{append-nil, length-append, nil_from_length}
use Rattle.std.proofs.lemmas.List.Elements.{All-nil, All-cons, All-head, All-tail}
use Rattle.c25_hex.specs.declared.hex_fault.HexFault.{HexFault}
use Rattle.c25_hex.specs.Hex.{HexState, after_line, after_lines}
use Rattle.c25_hex.specs.HexText.{hex_line, text_of}
use Rattle.c25_hex.proofs.Lines.{cut_refused}
use Rattle.c25_hex.proofs.Stretches.{Goes, IsWritten}
use Rattle.c25_hex.proofs.Texts.{IsPrint, line_prints, line_first, line_last, text_more, one_line}

-- two ways to cut one list
split : (p q l m : List ℕ) → p ++ q ≡ l ++ m → ((r : List ℕ) × (l ≡ p ++ r) × (q ≡ r ++ m)) ⊎ ((r : List ℕ) × (p ≡ l ++ r) × (m ≡ r ++ q))
split [] q l m e = inl (l, refl, e)
split (x ∷ p) q [] m e = inr (x ∷ p, refl, sym e)
split (x ∷ p) q (y ∷ l) m e =
    let first : x ≡ y = cc e in
    let later : p ++ q ≡ l ++ m = cc e in
    elim (split p q l m later) [
      | inl h ↦ inl (h.0, cc (h.1, first), h.2)
      | inr h ↦ inr (h.0, cc (h.1, first), h.2)
    ]

nothing_left : (p q : List ℕ) → p ++ q ≡ [] → q ≡ []
nothing_left [] q e = e
nothing_left (x ∷ p) q e = cc e

front_prints : (xs ys : List ℕ) → All IsPrint (xs ++ ys) → All IsPrint xs
front_prints [] ys h = All-nil IsPrint
front_prints (x ∷ xs) ys h = All-cons IsPrint x xs (All-head IsPrint x (xs ++ ys) h) (front_prints xs ys (All-tail IsPrint x (xs ++ ys) h))

pub nothing_behind : (p : List ℕ) → p ++ 10 ∷ [] ≡ [] → ⊥
nothing_behind [] e = cc e
nothing_behind (x ∷ p) e = cc e

no_text : (line : List ℕ) (rest : List (List ℕ)) → text_of (line ∷ rest) ≡ [] → ⊥
no_text [] rest e = cc e
no_text (x ∷ line) rest e = cc e

-- no end line has been met
not_ended : (n : ℕ) (s : HexState) (bytes : map.FinMap nat_cmp ℕ) → s.ended ≡ false → after_lines n s [] ≡ Ok bytes → ⊥
unfolding after_lines
not_ended n s bytes running read = cc (rw running at read)

begins : (line : List ℕ) → IsWritten line → (more : List ℕ) × (line ≡ 58 ∷ more)
unfolding hex_line
begins line is = (_, is.same)

-- the last line is a whole one, and not the end line
whole_line : (n : ℕ) (s t : HexState) (line : List ℕ) (rest : List (List ℕ)) (bytes : map.FinMap nat_cmp ℕ) → Goes s (line ∷ rest) t → text_of rest ≢ []
    → after_lines n s (lines line) ≡ Ok bytes → ⊥
whole_line n s t line [] bytes goes some read = some refl
whole_line n s t line (m ∷ rest) bytes goes some read =
    let is = begins line goes.2 in
    let prints : All IsPrint (58 ∷ is.0) = (let P : List ℕ → Type 0 = λ l. All IsPrint l in subst P is.1 (line_prints line goes.2)) in
    let alone : lines line ≡ line ∷ [] = ap (λ (l : List ℕ). lines l) is.1 ∙ line_last 58 is.0 prints ∙ ap (λ (l : List ℕ). l ∷ []) (sym is.1) in
    not_ended (n + 1) goes.0 bytes goes.4.1 (sym (one_line n s goes.0 line [] goes.3) ∙ ap (λ (ls : List (List ℕ)). after_lines n s ls) (sym alone) ∙ read)

-- a last line that is taken must be read whole
last_taken : (n : ℕ) (s : HexState) (line : List ℕ) (bytes : map.FinMap nat_cmp ℕ) (taken : Result HexState HexFault) → after_line s line ≡ taken
    → after_lines n s (line ∷ []) ≡ Ok bytes → (u : HexState) × (after_line s line ≡ Ok u)
unfolding after_lines
last_taken n s line bytes (Ok u) is read = (u, is)
last_taken n s line bytes (Err f) is read = cc (rw is at read)

-- the last line is a part of a written one
part_line : (n : ℕ) (s t : HexState) (line part left : List ℕ) (rest : List (List ℕ)) (bytes : map.FinMap nat_cmp ℕ) → Goes s (line ∷ rest) t → line ≡ part ++ left → left ≢ []
    → after_lines n s (lines part) ≡ Ok bytes → ⊥
part_line n s t line [] left rest bytes goes joined some read = not_ended n s bytes goes.1 read
part_line n s t line (x ∷ part) left rest bytes goes joined some read =
    let prints : All IsPrint ((x ∷ part) ++ left) = (let P : List ℕ → Type 0 = λ l. All IsPrint l in subst P joined (line_prints line goes.2)) in
    let alone = line_last x part (front_prints (x ∷ part) left prints) in
    let last : after_lines n s ((x ∷ part) ∷ []) ≡ Ok bytes = ap (λ (ls : List (List ℕ)). after_lines n s ls) (sym alone) ∙ read in
    let taken = last_taken n s (x ∷ part) bytes (after_line s (x ∷ part)) refl last in
    cut_refused s goes.2.address goes.2.kind goes.2.bytes (x ∷ part) left taken.0 goes.2.form (sym joined ∙ goes.2.same) (λ none. cc none) some goes.1 taken.1

front_of : (p l r q m : List ℕ) → l ≡ p ++ r → r ≡ [] → q ≡ r ++ m → (p ≡ l) × (q ≡ m)
front_of p l r q m e none f = (sym (e ∙ ap (λ (t : List ℕ). p ++ t) none ∙ append-nil p), f ∙ ap (λ (t : List ℕ). t ++ m) none)

whole_front : (n : ℕ) (s t : HexState) (line p q : List ℕ) (rest : List (List ℕ)) (bytes : map.FinMap nat_cmp ℕ) → Goes s (line ∷ rest) t → p ≡ line → q ≡ 10 ∷ text_of rest → q ≢ 10 ∷ []
    → after_lines n s (lines p) ≡ Ok bytes → ⊥
whole_front n s t line p q rest bytes goes same left more read =
    whole_line n s t line rest bytes goes (λ none. more (left ∙ ap (λ (text : List ℕ). 10 ∷ text) none)) (ap (λ (text : List ℕ). after_lines n s (lines text)) (sym same) ∙ read)

cut_in : (n : ℕ) (s t : HexState) (line p q r : List ℕ) (rest : List (List ℕ)) (bytes : map.FinMap nat_cmp ℕ) → Goes s (line ∷ rest) t → line ≡ p ++ r → q ≡ r ++ 10 ∷ text_of rest → q ≢ 10 ∷ []
    → after_lines n s (lines p) ≡ Ok bytes → ⊥
cut_in n s t line p q [] rest bytes goes joined left more read =
    let f = front_of p line [] q (10 ∷ text_of rest) joined refl left in whole_front n s t line p q rest bytes goes f.0 f.1 more read
cut_in n s t line p q (y ∷ r) rest bytes goes joined left more read = part_line n s t line p (y ∷ r) rest bytes goes joined (λ none. cc none) read

-- the text is cut after a line
cut_behind : (n : ℕ) (s t : HexState) (line p q r : List ℕ) (rest : List (List ℕ)) (bytes : map.FinMap nat_cmp ℕ) (goes : Goes s (line ∷ rest) t)
    → ((r : List ℕ) → r ++ q ≡ text_of rest → after_lines (n + 1) goes.0 (lines r) ≡ Ok bytes → ⊥)
    → p ≡ line ++ r → 10 ∷ text_of rest ≡ r ++ q → q ≢ 10 ∷ [] → after_lines n s (lines p) ≡ Ok bytes → ⊥
cut_behind n s t line p q [] rest bytes goes further same left more read = whole_front n s t line p q rest bytes goes (same ∙ append-nil line) (sym left) more read
cut_behind n s t line p q (c ∷ r) rest bytes goes further same left more read =
    let ends : c ≡ 10 = cc left in
    let later : r ++ q ≡ text_of rest = cc left in
    let here : lines p ≡ line ∷ lines r = ap (λ (text : List ℕ). lines text) (same ∙ ap (λ (d : ℕ). line ++ d ∷ r) ends) ∙ line_first line r (line_prints line goes.2) in
    further r later (sym (one_line n s goes.0 line (lines r) goes.3) ∙ ap (λ (ls : List (List ℕ)). after_lines n s ls) (sym here) ∙ read)

-- what begins a written text is not read to an end
pub cut_text : (n : ℕ) (s t : HexState) (all : List (List ℕ)) (p q : List ℕ) (bytes : map.FinMap nat_cmp ℕ) → Goes s all t → p ++ q ≡ text_of all → q ≢ [] → q ≢ 10 ∷ []
    → after_lines n s (lines p) ≡ Ok bytes → ⊥
cut_text n s t [] p q bytes goes joined some more read = some (nothing_left p q joined)
cut_text n s t (line ∷ rest) p q bytes goes joined some more read =
    elim (split p q line (10 ∷ text_of rest) (joined ∙ text_more line rest)) [
      | inl h ↦ cut_in n s t line p q h.0 rest bytes goes h.1 h.2 more read
      | inr h ↦ cut_behind n s t line p q h.0 rest bytes goes (λ r later further. cut_text (n + 1) goes.0 t rest r q bytes goes.4 later some more further) h.1 h.2 more read
    ]

-- ---- the text without its last LF

behind_line : (s t : HexState) (line p r : List ℕ) (rest : List (List ℕ)) (goes : Goes s (line ∷ rest) t)
    → ((r : List ℕ) → r ++ 10 ∷ [] ≡ text_of rest → text_of rest ≢ [] → lines r ≡ rest)
    → p ≡ line ++ r → 10 ∷ text_of rest ≡ r ++ 10 ∷ [] → lines p ≡ line ∷ rest
behind_line s t line p [] [] goes further same left =
    let is = begins line goes.2 in
    let prints : All IsPrint (58 ∷ is.0) = (let P : List ℕ → Type 0 = λ l. All IsPrint l in subst P is.1 (line_prints line goes.2)) in
    ap (λ (l : List ℕ). lines l) (same ∙ append-nil line ∙ is.1) ∙ line_last 58 is.0 prints ∙ ap (λ (l : List ℕ). l ∷ []) (sym is.1)
behind_line s t line p [] (m ∷ rest) goes further same left =
    let none : text_of (m ∷ rest) ≡ [] = cc left in
    absurd (no_text m rest none)
behind_line s t line p (c ∷ r) rest goes further same left =
    let ends : c ≡ 10 = cc left in
    let later : r ++ 10 ∷ [] ≡ text_of rest = cc left in
    let some : text_of rest ≢ [] = λ none. nothing_behind r (later ∙ none) in
    ap (λ (text : List ℕ). lines text) (same ∙ ap (λ (d : ℕ). line ++ d ∷ r) ends) ∙ line_first line r (line_prints line goes.2)
    ∙ ap (λ (ls : List (List ℕ)). line ∷ ls) (further r later some)

-- the lines of the text without its last LF are those of the whole text
pub lines_without_last : (s t : HexState) (all : List (List ℕ)) (p : List ℕ) → Goes s all t → p ++ 10 ∷ [] ≡ text_of all → text_of all ≢ [] → lines p ≡ all
lines_without_last s t [] p goes joined some = absurd (some refl)
lines_without_last s t (line ∷ rest) p goes joined some =
    elim (split p (10 ∷ []) line (10 ∷ text_of rest) (joined ∙ text_more line rest)) [
      | inl h ↦ behind_line s t line p [] rest goes (λ r later more. lines_without_last goes.0 t rest r goes.4 later more)
          (let none = nil_from_length h.0 (let e = ap (λ (l : List ℕ). length l) h.2 in let f = length-append h.0 (10 ∷ text_of rest) in omega arith) in
          sym (h.1 ∙ ap (λ (r : List ℕ). p ++ r) none ∙ append-nil p) ∙ sym (append-nil line))
          (let none = nil_from_length h.0 (let e = ap (λ (l : List ℕ). length l) h.2 in let f = length-append h.0 (10 ∷ text_of rest) in omega arith) in
          sym (h.2 ∙ ap (λ (r : List ℕ). r ++ 10 ∷ text_of rest) none))
      | inr h ↦ behind_line s t line p h.0 rest goes (λ r later more. lines_without_last goes.0 t rest r goes.4 later more) h.1 h.2
    ]
