-- the items so far, and those that are still to come
use Rattle.std.proofs.Common.{◌≡◌, ◌++◌, drop}
use Rattle.c25_dis.specs.Index.{numbered}
use Rattle.c25_dis.proofs.index.numbered.Given as goal

abbrev pub invariant-loop-number : goal.invariant-loop-number
invariant-loop-number g l =
    l.index.items ++ numbered (λ x. g.T.Stands.place_of x l.section) l.number (drop l.number l.items) ≡ numbered (λ x. g.T.Stands.place_of x l.section) 0 l.items
