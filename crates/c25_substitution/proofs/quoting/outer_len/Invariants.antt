-- what stands before, and what is still to come
use Rattle.std.proofs.Common.{◌≡◌, ◌+◌, drop}
use Rattle.c25_meaning_language.specs.Quoting.{outer_len}
use Rattle.c25_meaning_language.specs.declared.quoting.Quoting.TheVariants.{Outside}
use Rattle.c25_substitution.proofs.quoting.outer_len.Given as goal

abbrev pub invariant-loop-i : goal.invariant-loop-i
invariant-loop-i l = l.i + outer_len l.sought l.quoting (drop l.i l.text) ≡ outer_len l.sought Outside l.text
