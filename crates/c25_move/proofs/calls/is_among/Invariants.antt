-- the word is one of the names that are left where it is one of all
use Rattle.std.proofs.Common.{◌≡◌, drop, map}
use Rattle.c25_move.specs.Promises.{is_among}
use Rattle.c25_move.proofs.calls.is_among.Given as goal

abbrev pub invariant-loop-name : goal.invariant-loop-name
invariant-loop-name l = is_among (map (λ n. n.now) (drop l.name-index l.macros)) l.word ≡ is_among (map (λ n. n.now) l.macros) l.word
