-- each field so far takes its value
use Rattle.std.proofs.Common.{◌≡◌, None, find, take, map}
use Rattle.c25_meaning_linking.specs.Linking.{spills, use_of}
use Rattle.c25_module.specs.View.{contents}
use Rattle.c25_link.specs.Layout.{places_in}
use Rattle.c25_link.proofs.misfits.misfit_in.Given as goal

abbrev pub invariant-loop-relocation : goal.invariant-loop-relocation
invariant-loop-relocation l = find (spills l.layout.modules.now (places_in l.layout)) (map (use_of l.number (contents l.owner)) (take l.relocation-index l.owner.relocations.items)) ≡ None
