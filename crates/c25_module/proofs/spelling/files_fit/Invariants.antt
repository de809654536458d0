use Rattle.std.proofs.Common.{◌≡◌, [], take, drop}
use Rattle.c25_meaning_objects.specs.Module.{each_fits, file_fits}
use Rattle.c25_module.specs.View.{files_data}
use Rattle.c25_module.proofs.spelling.files_fit.Given as goal

abbrev pub invariant-loop-i : goal.invariant-loop-i
invariant-loop-i l = each_fits (file_fits) (files_data (take l.i l.files)) (files_data (drop l.i l.files)) ≡ each_fits (file_fits) [] (files_data (l.files))
