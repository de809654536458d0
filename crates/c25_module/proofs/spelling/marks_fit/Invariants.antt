use Rattle.std.proofs.Common.{◌≡◌, [], take, drop}
use Rattle.c25_meaning_objects.specs.Module.{each_fits, mark_fits}
use Rattle.c25_module.specs.View.{sections_data}
use Rattle.c25_module.proofs.spelling.marks_fit.Given as goal

abbrev pub invariant-loop-i : goal.invariant-loop-i
invariant-loop-i l = each_fits (mark_fits (sections_data l.sections)) (take l.i l.marks) (drop l.i l.marks) ≡ each_fits (mark_fits (sections_data l.sections)) [] (l.marks)
