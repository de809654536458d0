-- the word is one of the words that are left where it is one of all
use Rattle.std.proofs.Common.{◌≡◌, drop, map}
use Rattle.c25_move_lines.specs.Progress.{is_one_of}
use Rattle.c25_move_lines.proofs.passed.is_one_of.Given as goal

abbrev pub invariant-loop-one : goal.invariant-loop-one
invariant-loop-one l = is_one_of (map (λ w. w.now) (drop l.one-index l.words)) l.word ≡ is_one_of (map (λ w. w.now) l.words) l.word
