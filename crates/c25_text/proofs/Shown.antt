-- A scan gives the tokens of the text.
use Rattle.std.proofs.Common.{◌≡◌, ℕ, zero, suc, ◌+◌, ◌<◌, ◌≤◌, Bool, true, false, not, cond, eqb, nat_le, ◌&&◌, List, [], ◌∷◌, length, get_or, take, drop, Option, Some, None, refl, sym, ap, subst, ◌∙◌, inl, inr, arith}
use Rattle.std.specs.List.{prefix_len, list_all, take_while}
use Rattle.std.proofs.lemmas.Bool.{cond_both, cond-true, both_ways, true_from_ne_false, false_from_ne_true, cases_lt}
use Rattle.std.proofs.lemmas.List.{get_or-drop, length-drop, length-take}
use Rattle.std.proofs.lemmas.List.Sums.{prefix_len-drop_yes, prefix_len-drop_no, prefix_len-drop_all}
use Rattle.c25_meaning_common.specs.Bytes.{is_blank, is_digit, is_letter_or_digit, begins_name, goes_on_name, is_plain}
use Rattle.c25_meaning_language.specs.Constant.{is_constant}
use Rattle.c25_meaning_language.specs.Lexeme.{lexeme, name_of, constant_of, character_of, quoted_by, quoted_len, dotted_of, sign_by, double_sign, single_sign}
use Rattle.c25_meaning_language.specs.Line.{Scan, scan_from, past_blanks, AreTokens, Operands, Piece}
use Rattle.c25_meaning_language.specs.declared.line.Lexeme.{Lexeme}
use Rattle.c25_meaning_language.specs.declared.line.Lexeme.TheVariants.{Blank, Comment, Token, Fault}
use Rattle.c25_meaning_language.specs.declared.line.LineFault.{LineFault}
use Rattle.c25_meaning_language.specs.declared.line.LineFault.TheVariants as fault
use Rattle.c25_meaning_language.specs.declared.line.TokenKind.{TokenKind}
use Rattle.c25_meaning_language.specs.declared.line.TokenKind.TheVariants as kind
use Rattle.c25_meaning_language.specs.declared.line.Sign.{Sign}
use Rattle.c25_text.proofs.Scans.{scan_blank, scan_comment, scan_fault, scan_token, scan_end, token_within}

-- a lexeme is no blank
abbrev pub NoBlank : Lexeme → Type 0
NoBlank l = l ≡ Blank → ⊥

pub not_token : (k : TokenKind) (n : ℕ) → NoBlank (Token k n)
not_token k n h = cc

pub not_fault : (f : LineFault) → NoBlank (Fault f)
not_fault f h = cc

either : (b : Bool) (k : TokenKind) (n : ℕ) (f : LineFault) → NoBlank (cond b (Token k n) (Fault f))
either true k n f = not_token k n
either false k n f = not_fault f

not_character : (c d e : ℕ) → NoBlank (character_of c d e)
not_character c d e = cond_both (eqb c 39 && eqb d 39 && eqb e 39) (Token kind.Character 4) _ NoBlank (λ _. not_token kind.Character 4)
    (λ _. either (is_plain c && not (eqb c 39) && eqb d 39) kind.Character 3 fault.OpenQuote)

not_quoted : (o : Option ℕ) (rest : List ℕ) → NoBlank (quoted_by o rest)
not_quoted None rest = not_fault _
not_quoted (Some n) rest = cond_both (list_all is_plain (take n rest)) (Token kind.Quoted (n + 1)) (Fault fault.StrayText) NoBlank (λ _. not_token _ _) (λ _. not_fault _)

not_sign : (two one : Option Sign) → NoBlank (sign_by two one)
not_sign (Some s) one = not_token _ _
not_sign None (Some s) = not_token _ _
not_sign None None = not_fault _

pub not_comment : NoBlank Comment
not_comment h = cc

-- a lexeme is blank only at a blank
pub blank_is : (t : List ℕ) → lexeme t ≡ Blank → is_blank (get_or t 0 0) ≡ true
unfolding lexeme
blank_is t h =
    let b : ℕ = get_or t 0 0 in
    true_from_ne_false (is_blank b) (λ no.
    (cond_both (is_blank b) Blank _ (λ (l : Lexeme). is_blank b ≡ false → NoBlank l) (λ yes n _. both_ways _ n yes)
    (λ _ _. cond_both (eqb b 59) Comment _ NoBlank (λ _. not_comment)
    (λ _. cond_both (begins_name b) (name_of (prefix_len goes_on_name t)) _ NoBlank (λ _. either (nat_le (prefix_len goes_on_name t) 128) kind.Name (prefix_len goes_on_name t) fault.BadLabel)
    (λ _. cond_both (is_digit b) (constant_of (take_while is_letter_or_digit t)) _ NoBlank (λ _. either (is_constant (take_while is_letter_or_digit t)) kind.Constant (length (take_while is_letter_or_digit t)) fault.BadConstant)
    (λ _. cond_both (eqb b 39) (character_of (get_or t 1 0) (get_or t 2 0) (get_or t 3 0)) _ NoBlank (λ _. not_character (get_or t 1 0) (get_or t 2 0) (get_or t 3 0))
    (λ _. cond_both (eqb b 34) (quoted_by (quoted_len true (drop 1 t)) (drop 1 t)) _ NoBlank (λ _. not_quoted (quoted_len true (drop 1 t)) (drop 1 t))
    (λ _. cond_both (eqb b 46) (dotted_of (drop 1 t)) _ NoBlank (λ _. either (begins_name (get_or (drop 1 t) 0 0)) kind.DottedName (prefix_len goes_on_name (drop 1 t) + 1) fault.StrayText)
    (λ _. not_sign (double_sign b (get_or t 1 0)) (single_sign b))))))))) no h)

pub is_blank-lexeme : (t : List ℕ) → is_blank (get_or t 0 0) ≡ true → lexeme t ≡ Blank
unfolding lexeme
is_blank-lexeme t h = cond-true (is_blank (get_or t 0 0)) Blank _ h

here_blank : (at : ℕ) (text : List ℕ) → is_blank (get_or (drop at text) 0 0) ≡ is_blank (get_or text at 0)
here_blank at text = let e : at + 0 ≡ at = omega arith in ap is_blank (get_or-drop at text 0 0 ∙ ap (λ (i : ℕ). get_or text i 0) e)

pub past_yes : (at : ℕ) (text : List ℕ) → at < length text → lexeme (drop at text) ≡ Blank → past_blanks (at + 1) text ≡ past_blanks at text
past_yes at text l e = omega (arith, prefix_len-drop_yes is_blank text at 0 l (sym (here_blank at text) ∙ blank_is (drop at text) e))

pub past_no : (at : ℕ) (text : List ℕ) → at < length text → NoBlank (lexeme (drop at text)) → at ≡ past_blanks at text
past_no at text l e = omega (arith, prefix_len-drop_no is_blank text at 0 l (false_from_ne_true _ (λ yes. e (is_blank-lexeme (drop at text) (here_blank at text ∙ yes)))))

pub past_end : (at : ℕ) (text : List ℕ) → length text ≤ at → at ≡ past_blanks at text
past_end at text l = omega (arith, prefix_len-drop_all is_blank text at l)

more_blank : (text : List ℕ) (at stop : ℕ) (ps : List Piece) → past_blanks (at + 1) text ≡ past_blanks at text → AreTokens text (at + 1) ps stop → AreTokens text at ps stop
more_blank text at stop [] e h = h ∙ e
more_blank text at stop (p ∷ ps) e h = (h.0 ∙ e, h.1, h.2, h.3, h.4)

operands_blank : (text : List ℕ) (at : ℕ) (s : Scan) (f : Option LineFault) → past_blanks (at + 1) text ≡ past_blanks at text → Operands text (at + 1) s f → Operands text at s f
operands_blank text at s None e h = (more_blank text at s.stop s.pieces e h.0, h.1)
operands_blank text at s (Some f) e h = (more_blank text at s.stop s.pieces e h.0, h.1)

operands_token : (text : List ℕ) (at : ℕ) (k : TokenKind) (m : ℕ) (s : Scan) (f : Option LineFault) → at < length text → at + m ≤ length text → lexeme (drop at text) ≡ Token k m → Operands text (at + m) s f → Operands text at (record { pieces = record { kind = k; start = at; text = take m (drop at text) } ∷ s.pieces; fault = s.fault; stop = s.stop }) f
operands_token text at k m s f l w e h = by_fault f h
  where
    len : length (take m (drop at text)) ≡ m
    len = omega (arith, length-take m (drop at text), length-drop at text, w)

    none : NoBlank (lexeme (drop at text))
    none b = not_token k m (sym e ∙ b)

    tokens : AreTokens text (at + m) s.pieces s.stop → AreTokens text at (record { kind = k; start = at; text = take m (drop at text) } ∷ s.pieces) s.stop
    tokens t = (past_no at text l none, l, e ∙ ap (Token k) (sym len), ap (λ n. take n (drop at text)) (sym len), subst (λ (n : ℕ). AreTokens text (at + n) s.pieces s.stop) (sym len) t)

    by_fault : (f : Option LineFault) → Operands text (at + m) s f → Operands text at (record { pieces = record { kind = k; start = at; text = take m (drop at text) } ∷ s.pieces; fault = s.fault; stop = s.stop }) f
    by_fault None h = (tokens h.0, h.1)
    by_fault (Some g) h = (tokens h.0, h.1)

abbrev Shown : List ℕ → ℕ → Scan → Type 0
Shown text at s = Operands text at s s.fault

by_lexeme : (text : List ℕ) (at : ℕ) (x : Lexeme) → at < length text → lexeme (drop at text) ≡ x → ((m : ℕ) → 0 < m → Shown text (at + m) (scan_from (at + m) text)) → Shown text at (scan_from at text)
by_lexeme text at Blank l e more =
    subst (Shown text at) (sym (scan_blank at text l e)) (operands_blank text at (scan_from (at + 1) text) _ (past_yes at text l e) (more 1 (omega arith)))
by_lexeme text at Comment l e more =
    subst (Shown text at) (sym (scan_comment at text l e)) (past_no at text l (λ b. not_comment (sym e ∙ b)), λ _. e)
by_lexeme text at (Token k m) l e more =
    let w = token_within at text k m l e in
    subst (Shown text at) (sym (scan_token at text k m l e)) (operands_token text at k m (scan_from (at + m) text) _ l w.1 e (more m w.0))
by_lexeme text at (Fault f) l e more =
    subst (Shown text at) (sym (scan_fault at text f l e)) (past_no at text l (λ b. not_fault f (sym e ∙ b)), (l, e))

at_end : (text : List ℕ) (at : ℕ) → length text ≤ at → Shown text at (scan_from at text)
at_end text at l = subst (Shown text at) (sym (scan_end at text l)) (past_end at text l, λ less. absurd (omega arith))

within : (n at : ℕ) (text : List ℕ) → length text ≤ at + n → Shown text at (scan_from at text)
within zero at text h = at_end text at (omega arith)
within (suc n) at text h = elim (cases_lt at (length text)) [
  | inl l ↦ by_lexeme text at (lexeme (drop at text)) l refl (λ m p. within n (at + m) text (omega arith))
  | inr l ↦ at_end text at l
]

-- a scan gives the text's tokens, and the comment, the end or the first fault after them
pub operands_shown : (text : List ℕ) (at : ℕ) → Operands text at (scan_from at text) (scan_from at text).fault
operands_shown text at = within (length text) at text (omega arith)
