-- the names of the modules so far stand there
use Rattle.std.proofs.Common.{◌≡◌, map, take}
use Rattle.c25_meaning_objects.specs.Module.{Contents}
use Rattle.c25_link.specs.Lines.{files_view}
use Rattle.c25_link.proofs.lines.all_files.Given as goal

abbrev pub invariant-loop-module : goal.invariant-loop-module
invariant-loop-module l = files_view l.files.items ≡ map (λ (m : Contents). m.files) (take l.module-index l.modules)
