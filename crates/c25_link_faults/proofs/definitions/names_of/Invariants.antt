-- the names so far were added
use Rattle.std.proofs.Common.{[], take}
use Rattle.c25_link_faults.specs.View.{HasFirst, definitions_view, names_of}
use Rattle.c25_link_faults.proofs.definitions.names_of.Given as goal

abbrev pub invariant-loop-definition : goal.invariant-loop-definition
invariant-loop-definition l = HasFirst l.names [] (names_of (definitions_view (take l.definition-index l.list)))
