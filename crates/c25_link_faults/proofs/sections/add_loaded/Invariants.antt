-- the names of the initialised sections so far were added
use Rattle.std.proofs.Common.{ℕ, List, ◌++◌, take}
use Rattle.c25_module.specs.View.{sections_data}
use Rattle.c25_link_faults.specs.View.{HasFirst, loaded_names}
use Rattle.c25_link_faults.proofs.sections.add_loaded.Given as goal

abbrev pub invariant-loop-section : goal.invariant-loop-section
invariant-loop-section l = (before added : List (List ℕ)) → HasFirst l.fn.names before added → HasFirst l.names before (added ++ loaded_names (sections_data (take l.section-index l.sections)))
