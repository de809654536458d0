-- the word is one of the directives that are left where it is one of all
use Rattle.std.proofs.Common.{◌≡◌, drop, map}
use Rattle.c25_outline.specs.Blocks.{is_one_of}
use Rattle.c25_outline.proofs.blocks.is_one_of.Given as goal

abbrev pub invariant-loop-directive : goal.invariant-loop-directive
invariant-loop-directive l = is_one_of (map (λ d. d.now) (drop l.directive-index l.directives)) l.word ≡ is_one_of (map (λ d. d.now) l.directives) l.word
