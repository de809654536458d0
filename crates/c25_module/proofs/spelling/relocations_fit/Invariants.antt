use Rattle.std.proofs.Common.{◌≡◌, [], take, drop}
use Rattle.c25_meaning_objects.specs.Module.{each_fits, relocation_fits}
use Rattle.c25_module.specs.View.{sections_data, symbols_data}
use Rattle.c25_module.proofs.spelling.relocations_fit.Given as goal

abbrev pub invariant-loop-i : goal.invariant-loop-i
invariant-loop-i l = each_fits (relocation_fits l.version (sections_data l.sections) (symbols_data l.symbols)) (take l.i l.relocations) (drop l.i l.relocations) ≡ each_fits (relocation_fits l.version (sections_data l.sections) (symbols_data l.symbols)) [] (l.relocations)
