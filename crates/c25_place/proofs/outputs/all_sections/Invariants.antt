-- the sections of the modules so far stand there
use Rattle.std.proofs.Common.{◌≡◌, take}
use Rattle.c25_meaning_linking.specs.Place.{all_sections}
use Rattle.c25_place.specs.Outputs.{AreSmall}
use Rattle.c25_place.specs.View.{sections_view}
use Rattle.c25_place.proofs.outputs.all_sections.Given as goal

abbrev pub invariant-loop-module : goal.invariant-loop-module
invariant-loop-module l = (sections_view l.sections.items ≡ all_sections (take l.module-index l.modules)) × AreSmall l.sections.items
