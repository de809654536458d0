-- the words so far with those that are left are all words
use Rattle.std.proofs.Common.{◌≡◌, ◌++◌, drop}
use Rattle.c25_binary.specs.Binary.{entries_from}
use Rattle.c25_binary.proofs.reading.map_of.Given as goal

abbrev pub invariant-loop-index : goal.invariant-loop-index
invariant-loop-index l = l.list ++ entries_from l.index (drop l.index l.words) ≡ entries_from 0 l.words
