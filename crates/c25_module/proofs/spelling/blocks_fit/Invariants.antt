use Rattle.std.proofs.Common.{◌≡◌, [], take, drop}
use Rattle.c25_meaning_objects.specs.Module.{each_fits, block_fits}
use Rattle.c25_module.specs.View.{sections_data}
use Rattle.c25_module.proofs.spelling.blocks_fit.Given as goal

abbrev pub invariant-loop-i : goal.invariant-loop-i
invariant-loop-i l = each_fits (block_fits (sections_data l.sections)) (take l.i l.blocks) (drop l.i l.blocks) ≡ each_fits (block_fits (sections_data l.sections)) [] (l.blocks)
