-- the words of the sections so far are loaded
use Rattle.c25_link.specs.Layout.{places_in}
use Rattle.c25_link.specs.Loading.{HavePagesBefore}
use Rattle.c25_link.proofs.loading.load_module.Given as goal

abbrev pub invariant-loop-index : goal.invariant-loop-index
invariant-loop-index l = HavePagesBefore l.layout.modules.now (places_in l.layout) l.number l.index l.pages
