-- the texts so far are copied
use Rattle.std.proofs.Common.{◌≡◌, take}
use Rattle.c25_module.specs.View.{files_data}
use Rattle.c25_link.proofs.lines.copied.Given as goal

abbrev pub invariant-loop-text : goal.invariant-loop-text
invariant-loop-text l = files_data l.copies.items ≡ files_data (take l.text-index l.texts)
