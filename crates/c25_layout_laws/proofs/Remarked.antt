-- Tokens before a tab and a comment, or at the end of a line, are the pieces of their text.
use Rattle.std.proofs.Common.{◌≡◌, ℕ, ◌+◌, ◌<◌, ◌≤◌, true, List, [], ◌∷◌, ◌++◌, length, None, refl, ap, ◌∙◌, arith, append_assoc}
use Rattle.std.specs.List.{list_all, prefix_len}
use Rattle.std.proofs.lemmas.Bool.{and_from}
use Rattle.std.proofs.lemmas.List.Folds.{list_all-append}
use Rattle.c25_meaning_common.specs.Bytes.{is_field}
use Rattle.c25_meaning_language.specs.Lexeme.{lexeme}
use Rattle.c25_meaning_language.specs.Line.{scan}
use Rattle.c25_meaning_language.specs.declared.line.TokenKind.{TokenKind}
use Rattle.c25_meaning_language.specs.declared.line.Lexeme.TheVariants.{Token}
use Rattle.c25_print_laws.proofs.Lines.{spaced}
use Rattle.c25_print_laws.proofs.Tokens.{AreLexed, Word, behind, is_quiet, led, one, placed, texts}
use Rattle.c25_layout_laws.proofs.Tails.{token_stays}

-- each token is the lexeme at its place, and has no byte of a line's end and no `?`; a name may be long
abbrev pub IsLexed : List Word → Type 0
IsLexed [] = Unit {0}
IsLexed (w ∷ ws) = (lexeme (w.text ++ texts ws) ≡ Token w.kind (length w.text)) × (0 < length w.text) × (list_all is_quiet w.text ≡ true) × (length w.text ≤ 128) × IsLexed ws

pub lexed_of : (ws : List Word) → AreLexed ws → IsLexed ws
lexed_of [] h = tt
lexed_of (w ∷ ws) h = let short = h.3 in (h.0, h.1, h.2, omega (arith, short), lexed_of ws h.4)

-- ---- at the end of a line

scanned_last : (ws : List Word) (at : ℕ) → IsLexed ws → scan 0 at (texts ws) ≡ record { pieces = placed at ws; fault = None; stop = behind at ws }
unfolding scan
scanned_last [] at h = refl
scanned_last (w ∷ ws) at h = one w.kind w.text (texts ws) at h.0 h.1 ∙ ap (led w.kind at w.text) (scanned_last ws (at + length w.text) h.4)

-- ---- before a comment

-- a tab and a comment
abbrev pub remark : List ℕ → List ℕ
remark more = 9 ∷ 59 ∷ more

module _ (more : List ℕ) where
  token_before : (text rest : List ℕ) (kind : TokenKind) (n : ℕ) → 0 < length text → lexeme (text ++ rest) ≡ Token kind n → lexeme (text ++ (rest ++ remark more)) ≡ Token kind n
  token_before [] rest kind n some is = absurd (omega (arith, some))
  token_before (b ∷ text) rest kind n some is = ap (λ (xs : List ℕ). lexeme (b ∷ xs)) (assoc text rest) ∙ token_stays kind n (59 ∷ more) b (text ++ rest) is
    where
      assoc : (text rest : List ℕ) → text ++ (rest ++ remark more) ≡ (text ++ rest) ++ remark more
      assoc [] rest = refl
      assoc (c ∷ text) rest = ap (λ (xs : List ℕ). c ∷ xs) (assoc text rest)

  scanned_before : (ws : List Word) (at : ℕ) → IsLexed ws → scan 0 at (texts ws ++ remark more) ≡ record { pieces = placed at ws; fault = None; stop = behind at ws + 1 }
  unfolding scan lexeme
  scanned_before [] at h = refl
  scanned_before (w ∷ ws) at h =
      ap (scan 0 at) (append_assoc w.text (texts ws) (remark more))
      ∙ one w.kind w.text (texts ws ++ remark more) at (token_before w.text (texts ws) w.kind (length w.text) h.1 h.0) h.1
      ∙ ap (led w.kind at w.text) (scanned_before ws (at + length w.text) h.4)

-- ---- after a first word

-- a text after a first word is these tokens
pub record AreAfter (ws : List Word) (tail : List ℕ) : Type 0 where
  pub ends : prefix_len is_field tail ≡ 0
  pub scanned : (at : ℕ) → (stop : ℕ) × (scan 0 at tail ≡ record { pieces = placed (at + 1) ws; fault = None; stop = stop })

pub last_after : (ws : List Word) → IsLexed ws → AreAfter ws (spaced ws)
unfolding scan lexeme
last_after [] h = record { ends = refl; scanned = λ at. (at, refl) }
last_after (w ∷ ws) h = record { ends = refl; scanned = λ at. (behind (at + 1) (w ∷ ws), scanned_last (w ∷ ws) (at + 1) h) }

pub before_after : (ws : List Word) (more : List ℕ) → IsLexed ws → AreAfter ws (spaced ws ++ remark more)
unfolding scan lexeme
before_after [] more h = record { ends = refl; scanned = λ at. (at + 1, refl) }
before_after (w ∷ ws) more h = record { ends = refl; scanned = λ at. (behind (at + 1) (w ∷ ws) + 1, scanned_before more (w ∷ ws) (at + 1) h) }

-- ---- the bytes of all

pub texts_quiet : (ws : List Word) → IsLexed ws → list_all is_quiet (texts ws) ≡ true
texts_quiet [] h = refl
texts_quiet (w ∷ ws) h = list_all-append is_quiet w.text (texts ws) ∙ and_from (list_all is_quiet w.text) (list_all is_quiet (texts ws)) h.2 (texts_quiet ws h.4)

pub spaced_quiet : (ws : List Word) → IsLexed ws → list_all is_quiet (spaced ws) ≡ true
spaced_quiet [] h = refl
spaced_quiet (w ∷ ws) h = texts_quiet (w ∷ ws) h
