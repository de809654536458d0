-- The steps of a scan.
use Rattle.std.proofs.Common.{◌≡◌, ℕ, zero, suc, ◌+◌, ◌-◌, ◌<◌, ◌≤◌, List, [], ◌∷◌, length, drop, ◌++◌, refl, sym, ap, ◌∙◌, append_assoc, arith}
use Rattle.std.proofs.lemmas.List.{drop-drop, length-drop, drop_all}
use Rattle.c25_meaning_linking.specs.CommandTokens.{Token, scan, before, covered, lexeme, end_at}
use Rattle.c25_meaning_linking.specs.declared.command_token.Lexeme.{Lexeme}

-- a lexeme that runs on is passed over
passed : (k at : ℕ) (t : List ℕ) → k ≤ length t → scan k at t ≡ scan 0 (at + k) (drop k t)
unfolding scan
passed zero at t h = ap (λ (a : ℕ). scan 0 a t) (omega arith)
passed (suc k) at [] h = absurd (omega arith)
passed (suc k) at (b ∷ t) h = passed k (at + 1) t (omega arith) ∙ ap (λ (a : ℕ). scan 0 a (drop k t)) (omega arith)

-- one step, at a text that is not empty
first : (at : ℕ) (t : List ℕ) → 0 < length t → scan 0 at t ≡ before (lexeme t) at t (scan (covered (lexeme t) (drop 1 t)) (at + 1) (drop 1 t))
unfolding scan
first at [] h = absurd (omega arith)
first at (b ∷ t) h = refl

drop_after : (at k : ℕ) (text : List ℕ) → drop k (drop 1 (drop at text)) ≡ drop (at + 1 + k) text
drop_after at k text =
    drop-drop k 1 (drop at text) ∙ drop-drop (1 + k) at text ∙ ap (λ (n : ℕ). drop n text) (omega arith)

pub scan_step : (at : ℕ) (text : List ℕ) → at < length text → covered (lexeme (drop at text)) (drop 1 (drop at text)) ≤ length (drop at text) - 1
    → scan 0 at (drop at text) ≡ before (lexeme (drop at text)) at (drop at text)
    (scan 0 (at + 1 + covered (lexeme (drop at text)) (drop 1 (drop at text))) (drop (at + 1 + covered (lexeme (drop at text)) (drop 1 (drop at text))) text))
scan_step at text l fits =
    let d = drop at text in
    let k = covered (lexeme d) (drop 1 d) in
    let room : k ≤ length (drop 1 d) = omega (arith, fits, length-drop 1 d) in
    first at d (omega (arith, length-drop at text))
    ∙ ap (before (lexeme d) at d) (passed k (at + 1) (drop 1 d) room ∙ ap (scan 0 (at + 1 + k)) (drop_after at k text))

pub scan_done : (at : ℕ) (text : List ℕ) → length text ≤ at → scan 0 at (drop at text) ≡ end_at at ∷ []
unfolding scan
scan_done at text l = ap (scan 0 at) (drop_all at text l)

assoc : (a b c : List Token) → (a ++ b) ++ c ≡ a ++ (b ++ c)
assoc a b c = simp append_assoc

-- a lexeme more
pub more : (front new found : List Token) (at k : ℕ) (piece : Lexeme) (text : List ℕ) (total : List Token) → at < length text → new ≡ front ++ found
    → piece ≡ lexeme (drop at text) → k ≡ covered piece (drop 1 (drop at text)) → covered piece (drop 1 (drop at text)) ≤ length (drop at text) - 1
    → ((later : List Token) → before piece at (drop at text) later ≡ found ++ later)
    → front ++ scan 0 at (drop at text) ≡ total → new ++ scan 0 (at + 1 + k) (drop (at + 1 + k) text) ≡ total
more front new found at k piece text total l is_new is_piece is_k fits found_is so_far =
    let d = drop at text in
    let step : scan 0 at d ≡ before piece at d (scan 0 (at + 1 + k) (drop (at + 1 + k) text)) =
    rw (is_k, is_piece) (scan_step at text l (rw is_piece at fits)) in
    let later = scan 0 (at + 1 + k) (drop (at + 1 + k) text) in
    ap (λ (ts : List Token). ts ++ later) is_new ∙ assoc front found later ∙ ap (λ (ts : List Token). front ++ ts) (sym (found_is later) ∙ sym step) ∙ so_far
