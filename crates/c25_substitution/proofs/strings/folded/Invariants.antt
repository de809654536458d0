-- what is written, what is to be written as it is, and the rest
use Rattle.std.proofs.Common.{◌≡◌, ◌-◌, ◌≤◌, ◌++◌, false, take, drop}
use Rattle.std.specs.Str.{IsCharBoundary}
use Rattle.std.specs.String.{string_bytes}
use Rattle.c25_meaning_language.specs.Arguments.{folded}
use Rattle.c25_substitution.proofs.strings.folded.Given as goal

abbrev pub invariant-loop-i : goal.invariant-loop-i
invariant-loop-i l = record {
  so_far : string_bytes l.out ++ (take (l.i - l.from) (drop l.from l.text) ++ folded l.again (drop l.i l.text)) ≡ folded false l.text;
  order : l.from ≤ l.i;
  cut : IsCharBoundary l.text l.from;
}
