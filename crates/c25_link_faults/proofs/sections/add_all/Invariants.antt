-- the names of the modules so far were added
use Rattle.std.proofs.Common.{ℕ, List, [], take}
use Rattle.c25_meaning_linking.specs.Place.{all_sections}
use Rattle.c25_link_faults.specs.View.{HasFirst, section_names}
use Rattle.c25_link_faults.proofs.sections.add_all.Given as goal

abbrev pub invariant-loop-module : goal.invariant-loop-module
invariant-loop-module l = (before : List (List ℕ)) → HasFirst l.fn.names before [] → HasFirst l.names before (section_names (all_sections (take l.module-index l.modules)))
