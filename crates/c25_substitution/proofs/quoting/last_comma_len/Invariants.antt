-- the last comma so far, and those still to come
use Rattle.std.proofs.Common.{◌≡◌, ◌<◌, ◌≤◌, get_or, length, drop}
use Rattle.c25_meaning_language.specs.Quoting.{last_comma, last_comma_len}
use Rattle.c25_substitution.proofs.Quotings.{comma_from}
use Rattle.c25_substitution.proofs.quoting.last_comma_len.Given as goal

abbrev pub invariant-loop-i : goal.invariant-loop-i
invariant-loop-i l = record {
  value : comma_from l.found l.i (last_comma l.quoting (drop l.i l.text)) ≡ last_comma_len l.text;
  bound : l.found ≤ length l.text;
  stop : l.found < length l.text → get_or l.text l.found 0 ≡ 44;
}
