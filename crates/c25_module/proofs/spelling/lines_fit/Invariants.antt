use Rattle.std.proofs.Common.{◌≡◌, [], take, drop}
use Rattle.c25_meaning_objects.specs.Module.{each_fits, line_fits, used}
use Rattle.c25_module.specs.View.{files_data}
use Rattle.c25_module.proofs.spelling.lines_fit.Given as goal

abbrev pub invariant-loop-i : goal.invariant-loop-i
invariant-loop-i l =
    (each_fits (line_fits l.marks (files_data l.files)) (take l.i l.lines) (drop l.i l.lines) ≡ each_fits (line_fits l.marks (files_data l.files)) [] l.lines)
    × (l.used ≡ used (take l.i l.lines))
