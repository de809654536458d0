-- the symbols of the modules so far stand there
use Rattle.std.proofs.Common.{◌≡◌, take}
use Rattle.c25_meaning_linking.specs.Place.{by_modules}
use Rattle.c25_link_faults.specs.Sites.{module_locals}
use Rattle.c25_link_faults.specs.View.{definitions_view}
use Rattle.c25_link_faults.proofs.sites.all_locals.Given as goal

abbrev pub invariant-loop-number : goal.invariant-loop-number
invariant-loop-number l = definitions_view l.list.items ≡ by_modules module_locals 0 (take l.number l.modules)
