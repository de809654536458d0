-- Tokens one after another are the pieces of their text.
use Rattle.std.proofs.Common.{◌≡◌, ℕ, suc, ◌+◌, ◌*◌, ◌-◌, ◌<◌, ◌≤◌, ◌==◌, ◌||◌, not, Bool, true, List, [], ◌∷◌, ◌++◌, length, None, refl, ap, ◌∙◌, arith}
use Rattle.std.specs.List.{list_all}
use Rattle.std.proofs.lemmas.Bool.{and_from}
use Rattle.std.proofs.lemmas.List.{length-append}
use Rattle.std.proofs.lemmas.List.Folds.{list_all-append}
use Rattle.std.proofs.Math.Seq.{take-append_seam}
use Rattle.c25_meaning_language.specs.Lexeme.{lexeme}
use Rattle.c25_meaning_language.specs.Line.{Piece, Scan, scan}
use Rattle.c25_meaning_language.specs.declared.line.TokenKind.{TokenKind}
use Rattle.c25_meaning_language.specs.declared.line.Lexeme.TheVariants.{Token}

-- a token, wherever it stands
pub record Word : Type 0 where
  pub kind : TokenKind
  pub text : List ℕ

-- the text of tokens
abbrev pub texts : List Word → List ℕ
texts [] = []
texts (w ∷ ws) = w.text ++ texts ws

-- tokens as the pieces of a line
abbrev pub placed : ℕ → List Word → List Piece
placed at [] = []
placed at (w ∷ ws) = record { kind = w.kind; start = at; text = w.text } ∷ placed (at + length w.text) ws

-- where tokens end
abbrev pub behind : ℕ → List Word → ℕ
behind at [] = at
behind at (w ∷ ws) = behind (at + length w.text) ws

-- a byte that no name, no end of a line and no number of an expansion is read from: no `?`, LF or CR
abbrev pub is_quiet : ℕ → Bool
is_quiet b = not (b == 63 || b == 10 || b == 13)

-- each token is the lexeme at its place, has such bytes alone, and not many
abbrev pub AreLexed : List Word → Type 0
AreLexed [] = Unit {0}
AreLexed (w ∷ ws) = (lexeme (w.text ++ texts ws) ≡ Token w.kind (length w.text)) × (0 < length w.text) × (list_all is_quiet w.text ≡ true) × (length w.text ≤ 20) × AreLexed ws

-- a token runs on to its end
run_on : (word more : List ℕ) (at : ℕ) → scan (length word) at (word ++ more) ≡ scan 0 (at + length word) more
unfolding scan
run_on [] more at = ap (λ k. scan 0 k more) (omega arith)
run_on (b ∷ word) more at = run_on word more (at + 1) ∙ ap (λ k. scan 0 k more) (omega arith)

-- a piece in front
abbrev pub led : TokenKind → ℕ → List ℕ → Scan → Scan
led kind at text s = record { pieces = record { kind = kind; start = at; text = text } ∷ s.pieces; fault = s.fault; stop = s.stop }

pub one : (kind : TokenKind) (text more : List ℕ) (at : ℕ) → lexeme (text ++ more) ≡ Token kind (length text) → 0 < length text
    → scan 0 at (text ++ more) ≡ led kind at text (scan 0 (at + length text) more)
unfolding scan
one kind [] more at e some = absurd (omega arith)
one kind (b ∷ word) more at e some =
    let less : suc (length word) - 1 ≡ length word = omega arith in
    let here : at + 1 + length word ≡ at + suc (length word) = omega arith in
    rw (e, less, run_on word more (at + 1), take-append_seam word more, here) refl

pub scanned : (ws : List Word) (at : ℕ) → AreLexed ws → scan 0 at (texts ws) ≡ record { pieces = placed at ws; fault = None; stop = behind at ws }
unfolding scan
scanned [] at h = refl
scanned (w ∷ ws) at h = one w.kind w.text (texts ws) at h.0 h.1 ∙ ap (led w.kind at w.text) (scanned ws (at + length w.text) h.4)

-- ---- the bytes of all

pub texts_quiet : (ws : List Word) → AreLexed ws → list_all is_quiet (texts ws) ≡ true
texts_quiet [] h = refl
texts_quiet (w ∷ ws) h = list_all-append is_quiet w.text (texts ws) ∙ and_from (list_all is_quiet w.text) (list_all is_quiet (texts ws)) h.2 (texts_quiet ws h.4)

pub texts_short : (ws : List Word) → AreLexed ws → length (texts ws) ≤ 20 * length ws
texts_short [] h = omega arith
texts_short (w ∷ ws) h = let one = h.3 in let others = texts_short ws h.4 in let both = length-append w.text (texts ws) in omega (arith, one, others, both)
