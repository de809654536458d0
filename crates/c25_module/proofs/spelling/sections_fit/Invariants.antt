use Rattle.std.proofs.Common.{◌≡◌, [], take, drop}
use Rattle.c25_meaning_objects.specs.Module.{each_fits, section_fits}
use Rattle.c25_module.specs.View.{sections_data}
use Rattle.c25_module.proofs.spelling.sections_fit.Given as goal

abbrev pub invariant-loop-i : goal.invariant-loop-i
invariant-loop-i l = each_fits (section_fits) (sections_data (take l.i l.sections)) (sections_data (drop l.i l.sections)) ≡ each_fits (section_fits) [] (sections_data (l.sections))
