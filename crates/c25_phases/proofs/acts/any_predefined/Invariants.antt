use Rattle.std.proofs.Common.{◌≡◌, drop}
use Rattle.std.specs.List.{list_any}
use Rattle.c25_meaning_assembly.specs.Sections.{is_predefined}
use Rattle.c25_statements.specs.View.{texts_of}
use Rattle.c25_phases.proofs.acts.any_predefined.Given as goal

abbrev pub invariant-loop-name : goal.invariant-loop-name
invariant-loop-name l = list_any is_predefined (texts_of (drop l.name-index l.names)) ≡ list_any is_predefined (texts_of l.names)
