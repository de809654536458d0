-- no relocation of the modules so far counts from a missing name
use Rattle.std.proofs.Common.{◌≡◌, None, find, take}
use Rattle.c25_meaning_linking.specs.Linking.{is_unresolved, module_uses}
use Rattle.c25_meaning_linking.specs.Place.{by_modules}
use Rattle.c25_meaning_linking.specs.Words.{definitions}
use Rattle.c25_link.proofs.uses.first_unresolved.Given as goal

abbrev pub invariant-loop-module : goal.invariant-loop-module
invariant-loop-module l = find (is_unresolved (definitions l.modules)) (by_modules module_uses 0 (take l.module-index l.modules)) ≡ None
