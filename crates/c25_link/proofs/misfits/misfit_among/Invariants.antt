-- each field of the modules so far takes its value
use Rattle.std.proofs.Common.{◌≡◌, None, find, take}
use Rattle.c25_meaning_linking.specs.Linking.{spills, module_uses}
use Rattle.c25_meaning_linking.specs.Place.{by_modules}
use Rattle.c25_link.specs.Layout.{places_in}
use Rattle.c25_link.proofs.misfits.misfit_among.Given as goal

abbrev pub invariant-loop-number : goal.invariant-loop-number
invariant-loop-number l = find (spills l.layout.modules.now (places_in l.layout)) (by_modules module_uses 0 (take l.number l.layout.modules.now)) ≡ None
