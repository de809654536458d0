-- what is found, and what is still to be bound
use Rattle.std.proofs.Common.{◌≡◌, ◌++◌, length, map}
use denote.Text.{Utf8}
use denote.Shadow.{shadow}
use Rattle.std.specs.String.{string_bytes}
use Rattle.c25_meaning_language.specs.Arguments.{arguments, bound}
use Rattle.c25_substitution.proofs.arguments.arguments.Given as goal

abbrev pub invariant-loop-parameter : goal.invariant-loop-parameter
invariant-loop-parameter l = record {
  text : shadow (Utf8 l.rest);
  so_far : l.found ++ bound (map (λ p. string_bytes p) l.left) l.rest ≡ arguments (map (λ p. string_bytes p) l.parameters) l.line;
}

abbrev pub decreases-loop-parameter : goal.decreases-loop-parameter
decreases-loop-parameter l = length l.left
