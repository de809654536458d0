use Rattle.std.proofs.Common.{◌≡◌, ◌++◌, drop}
use Rattle.c25_statements.specs.View.{texts_of}
use Rattle.c25_phases.specs.Names.{bytes_of_names}
use Rattle.c25_phases.proofs.names.copied.Given as goal

abbrev pub invariant-loop-name : goal.invariant-loop-name
invariant-loop-name l = bytes_of_names l.copies.items ++ texts_of (drop l.name-index l.names) ≡ texts_of l.names
