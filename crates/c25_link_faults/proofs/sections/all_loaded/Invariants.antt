-- the names of the initialised sections of the modules so far were added
use Rattle.std.proofs.Common.{[], take}
use Rattle.c25_meaning_linking.specs.Place.{all_sections}
use Rattle.c25_link_faults.specs.View.{HasFirst, loaded_names}
use Rattle.c25_link_faults.proofs.sections.all_loaded.Given as goal

abbrev pub invariant-loop-module : goal.invariant-loop-module
invariant-loop-module l = HasFirst l.names [] (loaded_names (all_sections (take l.module-index l.modules)))
