-- the words of the modules so far are loaded
use Rattle.c25_link.specs.Layout.{places_in}
use Rattle.c25_link.specs.Loading.{HavePagesBefore}
use Rattle.c25_link.proofs.loading.load.Given as goal

abbrev pub invariant-loop-number : goal.invariant-loop-number
invariant-loop-number l = HavePagesBefore l.layout.modules.now (places_in l.layout) l.number 0 l.pages
