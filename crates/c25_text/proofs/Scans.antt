-- The steps of a scan.
use Rattle.std.proofs.Common.{◌≡◌, ℕ, zero, suc, ◌+◌, ◌-◌, ◌<◌, ◌≤◌, List, [], ◌∷◌, length, get_or, take, drop, None, Some, refl, sym, ap, subst, ◌∙◌, arith}
use Rattle.std.proofs.lemmas.List.{drop-drop, drop_all, length-drop, take_rest, get_or-drop}
use Rattle.std.specs.Str.{IsUtf8, IsCharBoundary}
use Rattle.std.proofs.lemmas.Str.{IsCharBoundary-before_ascii, IsCharBoundary-after_ascii}
use Rattle.c25_meaning_language.specs.Lexeme.{lexeme}
use Rattle.c25_meaning_language.specs.Line.{Scan, scan, scan_from, before, covered}
use Rattle.c25_meaning_language.specs.declared.line.Lexeme.{Lexeme}
use Rattle.c25_meaning_language.specs.declared.line.Lexeme.TheVariants.{Blank, Comment, Token, Fault}
use Rattle.c25_meaning_language.specs.declared.line.LineFault.{LineFault}
use Rattle.c25_meaning_language.specs.declared.line.TokenKind.{TokenKind}
use Rattle.c25_text.specs.View.{IsFirstToken}
use Rattle.c25_text.proofs.Fits.{token_fits}

-- a token that runs on is passed over
passed : (k at : ℕ) (t : List ℕ) → k ≤ length t → scan k at t ≡ scan 0 (at + k) (drop k t)
unfolding scan
passed zero at t h = ap (λ (a : ℕ). scan 0 a t) (omega arith)
passed (suc k) at [] h = absurd (omega arith)
passed (suc k) at (b ∷ t) h = passed k (at + 1) t (omega arith) ∙ ap (λ (a : ℕ). scan 0 a (drop k t)) (omega arith)

-- one step, at a text that is not empty
first : (at : ℕ) (t : List ℕ) (d : ℕ) → 0 < length t → scan 0 at t ≡ before (lexeme t) at t (scan (covered (lexeme t)) (at + 1) (drop 1 t))
unfolding scan
first at [] d h = absurd (omega arith)
first at (b ∷ t) d h = refl

drop_after : (at n : ℕ) (text : List ℕ) → 0 < n → drop (n - 1) (drop 1 (drop at text)) ≡ drop (at + n) text
drop_after at n text h =
    let e : 1 + (n - 1) ≡ n = omega arith in
    drop-drop (n - 1) 1 (drop at text) ∙ ap (λ (k : ℕ). drop k (drop at text)) e ∙ drop-drop n at text

step : (at : ℕ) (text : List ℕ) → at < length text → scan_from at text ≡ before (lexeme (drop at text)) at (drop at text) (scan (covered (lexeme (drop at text))) (at + 1) (drop 1 (drop at text)))
step at text l = first at (drop at text) 0 (omega (arith, length-drop at text))

pub scan_blank : (at : ℕ) (text : List ℕ) → at < length text → lexeme (drop at text) ≡ Blank → scan_from at text ≡ scan_from (at + 1) text
scan_blank at text l e =
    step at text l ∙ ap (λ (x : Lexeme). before x at (drop at text) (scan (covered x) (at + 1) (drop 1 (drop at text)))) e ∙ ap (scan 0 (at + 1)) (drop-drop 1 at text)

pub scan_comment : (at : ℕ) (text : List ℕ) → at < length text → lexeme (drop at text) ≡ Comment → scan_from at text ≡ record { pieces = []; fault = None; stop = at }
scan_comment at text l e =
    step at text l ∙ ap (λ (x : Lexeme). before x at (drop at text) (scan (covered x) (at + 1) (drop 1 (drop at text)))) e

pub scan_fault : (at : ℕ) (text : List ℕ) (f : LineFault) → at < length text → lexeme (drop at text) ≡ Fault f → scan_from at text ≡ record { pieces = []; fault = Some f; stop = at }
scan_fault at text f l e =
    step at text l ∙ ap (λ (x : Lexeme). before x at (drop at text) (scan (covered x) (at + 1) (drop 1 (drop at text)))) e

pub scan_token : (at : ℕ) (text : List ℕ) (k : TokenKind) (n : ℕ) → at < length text → lexeme (drop at text) ≡ Token k n → scan_from at text ≡ before (Token k n) at (drop at text) (scan_from (at + n) text)
scan_token at text k n l e =
    let fits = token_fits (drop at text) k n e in
    let some : 0 < n = fits.some in
    let room : n - 1 ≤ length (drop 1 (drop at text)) = omega (arith, fits.within, length-drop 1 (drop at text)) in
    let place : at + 1 + (n - 1) ≡ at + n = omega arith in
    step at text l
    ∙ ap (λ (x : Lexeme). before x at (drop at text) (scan (covered x) (at + 1) (drop 1 (drop at text)))) e
    ∙ ap (before (Token k n) at (drop at text)) (passed (n - 1) (at + 1) (drop 1 (drop at text)) room ∙ ap (λ (p : ℕ). scan 0 p (drop (n - 1) (drop 1 (drop at text)))) place ∙ ap (scan 0 (at + n)) (drop_after at n text some))

pub scan_end : (at : ℕ) (text : List ℕ) → length text ≤ at → scan_from at text ≡ record { pieces = []; fault = None; stop = at }
unfolding scan
scan_end at text l = ap (scan 0 at) (drop_all at text l)

-- what the code reads of the text from a place on
pub seen : (at : ℕ) (text : List ℕ) (x : Lexeme) → x ≡ lexeme (take (length text - at) (drop at text)) → lexeme (drop at text) ≡ x
seen at text x h = ap lexeme (sym (take_rest text at)) ∙ sym h

-- where a token ends
pub token_within : (at : ℕ) (text : List ℕ) (k : TokenKind) (n : ℕ) → at < length text → lexeme (drop at text) ≡ Token k n → (0 < n) × (at + n ≤ length text)
token_within at text k n l e =
    let fits = token_fits (drop at text) k n e in
    (fits.some, omega (arith, fits.within, length-drop at text))

-- the first token, where one stands here
pub first_token : (from at : ℕ) (text : List ℕ) (k : TokenKind) (n : ℕ) → at < length text → lexeme (drop at text) ≡ Token k n → (scan_from at text).pieces ≡ (scan_from from text).pieces → IsFirstToken text from k at (at + n)
first_token from at text k n l e same =
    let fits = token_fits (drop at text) k n e in
    let some : 0 < n = fits.some in
    let here : at + 0 ≡ at = omega arith in
    let there : at + (n - 1) ≡ at + n - 1 = omega arith in
    let len : n ≡ at + n - at = omega arith in
    record {
      some = omega arith;
      within = (token_within at text k n l e).1;
      first = subst (λ (b : ℕ). b < 128) (get_or-drop at text 0 0 ∙ ap (λ (i : ℕ). get_or text i 0) here) fits.first;
      last = subst (λ (b : ℕ). b < 128) (get_or-drop at text (n - 1) 0 ∙ ap (λ (i : ℕ). get_or text i 0) there) fits.last;
      pieces = sym same ∙ ap (λ (s : Scan). s.pieces) (scan_token at text k n l e) ∙ ap (λ (m : ℕ). record { kind = k; start = at; text = take m (drop at text) } ∷ (scan_from (at + n) text).pieces) len;
    }

-- a first token is cut between characters
pub first_token-start : (text : List ℕ) (from : ℕ) (k : TokenKind) (start end : ℕ) → IsFirstToken text from k start end → IsCharBoundary text start
first_token-start text from k start end f = IsCharBoundary-before_ascii text start (omega (arith, f.some, f.within)) f.first

pub first_token-end : (text : List ℕ) (from : ℕ) (k : TokenKind) (start end : ℕ) → IsUtf8 text → IsFirstToken text from k start end → IsCharBoundary text end
first_token-end text from k start end u f =
    let place : end - 1 + 1 ≡ end = omega (arith, f.some) in
    subst (IsCharBoundary text) place (IsCharBoundary-after_ascii text (end - 1) u (omega (arith, f.some, f.within)) f.last)
