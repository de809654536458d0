-- the string goes on after the bytes so far as it does from the first
use Rattle.std.proofs.Common.{◌≡◌, ◌+◌, true, drop}
use Rattle.std.specs.Option.{option_map}
use Rattle.c25_meaning_language.specs.Lexeme.{quoted_len}
use Rattle.c25_text.proofs.lexemes.quoted_len.Given as goal

abbrev pub invariant-loop-i : goal.invariant-loop-i
invariant-loop-i l = quoted_len true l.rest ≡ option_map (λ n. l.i + n) (quoted_len l.inside (drop l.i l.rest))
