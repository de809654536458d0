-- the sections so far stand there
use Rattle.std.proofs.Common.{◌≡◌, ◌++◌, take}
use Rattle.c25_module.specs.View.{sections_data}
use Rattle.c25_place.specs.Outputs.{AreSmall}
use Rattle.c25_place.specs.View.{sections_view}
use Rattle.c25_place.proofs.outputs.push_sections.Given as goal

abbrev pub invariant-loop-section : goal.invariant-loop-section
invariant-loop-section l = (sections_view l.sections.items ≡ sections_view l.fn.sections.items ++ sections_data (take l.section-index l.own)) × AreSmall l.sections.items
