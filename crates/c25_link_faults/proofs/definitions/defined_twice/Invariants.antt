-- the names so far were added, and those among them that stand more than once
use Rattle.std.proofs.Common.{[], take}
use Rattle.c25_link_faults.specs.Faults.{names_again}
use Rattle.c25_link_faults.specs.View.{HasFirst, definitions_view, names_of}
use Rattle.c25_link_faults.proofs.definitions.defined_twice.Given as goal

abbrev pub invariant-loop-definition : goal.invariant-loop-definition
invariant-loop-definition l = HasFirst l.seen [] (names_of (definitions_view (take l.definition-index l.list)))
    × HasFirst l.twice [] (names_again [] (names_of (definitions_view (take l.definition-index l.list))))
