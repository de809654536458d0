use Rattle.std.proofs.Common.{◌≡◌, drop}
use Rattle.c25_meaning_objects.specs.Module.{has_file}
use Rattle.c25_module.specs.View.{files_data}
use Rattle.c25_module.proofs.fits.has_file.Given as goal

abbrev pub invariant-loop-file : goal.invariant-loop-file
invariant-loop-file l = has_file (files_data (drop l.file-index l.before)) l.name ≡ has_file (files_data l.before) l.name
