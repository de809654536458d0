use Rattle.std.proofs.Common.{◌≡◌, drop}
use Rattle.c25_meaning_assembly.specs.Sections.{all_once}
use Rattle.c25_statements.specs.View.{texts_of}
use Rattle.c25_phases.proofs.names.DistinctNames.add_all.Given as goal

abbrev pub invariant-loop-name : goal.invariant-loop-name
invariant-loop-name l = all_once l.self (texts_of (drop l.name-index l.names)) ≡ all_once l.initial.self (texts_of l.names)
