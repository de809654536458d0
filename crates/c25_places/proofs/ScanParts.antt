-- The steps of a search for the first fault among tokens.
use Rattle.std.proofs.Common.{◌≡◌, ℕ, ◌+◌, ◌<◌, ◌≤◌, List, length, drop, Some, None, ap}
use Rattle.c25_meaning_language.specs.Lexeme.{lexeme}
use Rattle.c25_meaning_language.specs.Line.{Scan}
use Rattle.c25_meaning_language.specs.declared.line.Lexeme.TheVariants.{Blank, Comment, Token, Fault}
use Rattle.c25_meaning_language.specs.declared.line.LineFault.{LineFault}
use Rattle.c25_meaning_language.specs.declared.line.TokenKind.{TokenKind}
use Rattle.c25_text.proofs.Scans.{scan_blank, scan_comment, scan_end, scan_fault, scan_token}
use Rattle.c25_places.specs.TextPart.{scan_part, stop_part, token_part}

pub part_blank : (at : ℕ) (text : List ℕ) → at < length text → lexeme (drop at text) ≡ Blank → scan_part at text ≡ scan_part (at + 1) text
unfolding scan_part
part_blank at text l e = ap (λ (s : Scan). stop_part s.fault s.stop text) (scan_blank at text l e)

pub part_token : (at : ℕ) (text : List ℕ) (k : TokenKind) (n : ℕ) → at < length text → lexeme (drop at text) ≡ Token k n → scan_part at text ≡ scan_part (at + n) text
unfolding scan_part
part_token at text k n l e = ap (λ (s : Scan). stop_part s.fault s.stop text) (scan_token at text k n l e)

pub part_comment : (at : ℕ) (text : List ℕ) → at < length text → lexeme (drop at text) ≡ Comment → scan_part at text ≡ None
unfolding scan_part
part_comment at text l e = ap (λ (s : Scan). stop_part s.fault s.stop text) (scan_comment at text l e)

pub part_fault : (at : ℕ) (text : List ℕ) (f : LineFault) → at < length text → lexeme (drop at text) ≡ Fault f → scan_part at text ≡ Some (token_part f at text)
unfolding scan_part
part_fault at text f l e = ap (λ (s : Scan). stop_part s.fault s.stop text) (scan_fault at text f l e)

pub part_end : (at : ℕ) (text : List ℕ) → length text ≤ at → scan_part at text ≡ None
unfolding scan_part
part_end at text l = ap (λ (s : Scan). stop_part s.fault s.stop text) (scan_end at text l)
