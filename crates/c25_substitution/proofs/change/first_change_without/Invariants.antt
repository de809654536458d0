-- what stands before is kept
use Rattle.std.proofs.Common.{length}
use denote.Text.{Utf8}
use denote.Shadow.{shadow}
use Rattle.c25_substitution.specs.View.{names_of}
use Rattle.c25_substitution.proofs.Changes.{IsKeptTo}
use Rattle.c25_substitution.proofs.change.first_change_without.Given as goal

abbrev pub invariant-loop-rest : goal.invariant-loop-rest
invariant-loop-rest l = record {
  text : shadow (Utf8 l.rest);
  kept : IsKeptTo (names_of l.names) l.fn.quoting l.text l.quoting l.rest;
}

abbrev pub decreases-loop-rest : goal.decreases-loop-rest
decreases-loop-rest l = length l.rest
