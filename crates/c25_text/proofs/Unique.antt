-- A text has no other tokens than those of its scan.
use Rattle.std.proofs.Common.{◌≡◌, ℕ, zero, suc, ◌+◌, ◌<◌, ◌≤◌, List, [], ◌∷◌, length, take, drop, Option, Some, None, refl, sym, ap, ◌∙◌, inl, inr, arith}
use Rattle.std.proofs.lemmas.Bool.{cases_lt}
use Rattle.c25_meaning_language.specs.Lexeme.{lexeme}
use Rattle.c25_meaning_language.specs.Line.{Piece, scan_from, before, past_blanks, AreTokens, EndsAt, FailsAt}
use Rattle.c25_meaning_language.specs.declared.line.Lexeme.{Lexeme}
use Rattle.c25_meaning_language.specs.declared.line.Lexeme.TheVariants.{Blank, Comment, Token, Fault}
use Rattle.c25_meaning_language.specs.declared.line.LineFault.{LineFault}
use Rattle.c25_text.proofs.Scans.{scan_blank, scan_comment, scan_fault, scan_token, scan_end}
use Rattle.c25_text.proofs.Shown.{not_comment, not_token, not_fault, past_yes, past_no, past_end}

here : (at : ℕ) (text : List ℕ) → at ≡ past_blanks at text → scan_from at text ≡ scan_from (past_blanks at text) text
here at text h = ap (λ (a : ℕ). scan_from a text) h

past_by : (at : ℕ) (text : List ℕ) (x : Lexeme) → at < length text → lexeme (drop at text) ≡ x → (scan_from (at + 1) text ≡ scan_from (past_blanks (at + 1) text) text) → scan_from at text ≡ scan_from (past_blanks at text) text
past_by at text Blank l e more = scan_blank at text l e ∙ more ∙ ap (λ (a : ℕ). scan_from a text) (past_yes at text l e)
past_by at text Comment l e more = here at text (past_no at text l (λ b. not_comment (sym e ∙ b)))
past_by at text (Token k n) l e more = here at text (past_no at text l (λ b. not_token k n (sym e ∙ b)))
past_by at text (Fault f) l e more = here at text (past_no at text l (λ b. not_fault f (sym e ∙ b)))

past_within : (n at : ℕ) (text : List ℕ) → length text ≤ at + n → scan_from at text ≡ scan_from (past_blanks at text) text
past_within zero at text h = here at text (past_end at text (omega (arith, h)))
past_within (suc n) at text h = elim (cases_lt at (length text)) [
  | inl l ↦ past_by at text (lexeme (drop at text)) l refl (past_within n (at + 1) text (omega (arith, h)))
  | inr l ↦ here at text (past_end at text l)
]

-- blanks are passed over
past : (at : ℕ) (text : List ℕ) → scan_from at text ≡ scan_from (past_blanks at text) text
past at text = past_within (length text) at text (omega arith)

piece_is : (p : Piece) (text : List ℕ) → p.text ≡ text → (let q : Piece = record { kind = p.kind; start = p.start; text = text } in q) ≡ p
piece_is p text h = ap (λ (t : List ℕ). let q : Piece = record { kind = p.kind; start = p.start; text = t } in q) (sym h)

-- what a text shows after its tokens, whatever the end is
scan_rest : (text : List ℕ) (at stop : ℕ) (ps : List Piece) (f : Option LineFault) → AreTokens text at ps stop
    → scan_from stop text ≡ record { pieces = []; fault = f; stop = stop } → scan_from at text ≡ record { pieces = ps; fault = f; stop = stop }
scan_rest text at stop [] f h e = past at text ∙ ap (λ (a : ℕ). scan_from a text) (sym h) ∙ e
scan_rest text at stop (p ∷ ps) f h e =
    past at text ∙ ap (λ (a : ℕ). scan_from a text) (sym h.0)
    ∙ scan_token p.start text p.kind (length p.text) h.1 h.2
    ∙ ap (before (Token p.kind (length p.text)) p.start (drop p.start text)) (scan_rest text (p.start + length p.text) stop ps f h.4 e)
    ∙ ap (λ (q : Piece). record { pieces = q ∷ ps; fault = f; stop = stop }) (piece_is p (take (length p.text) (drop p.start text)) h.3)

-- tokens up to a comment or the end are those of the scan
pub scan_ends : (text : List ℕ) (at stop : ℕ) (ps : List Piece) → AreTokens text at ps stop → EndsAt text stop → scan_from at text ≡ record { pieces = ps; fault = None; stop = stop }
scan_ends text at stop ps h e = scan_rest text at stop ps None h (elim (cases_lt stop (length text)) [
  | inl l ↦ scan_comment stop text l (e l)
  | inr l ↦ scan_end stop text l
])

-- tokens up to a fault are those of the scan
pub scan_fails : (text : List ℕ) (at stop : ℕ) (ps : List Piece) (f : LineFault) → AreTokens text at ps stop → FailsAt text stop f → scan_from at text ≡ record { pieces = ps; fault = Some f; stop = stop }
scan_fails text at stop ps f h e = scan_rest text at stop ps (Some f) h (scan_fault stop text f e.0 e.1)
