-- the next parts begin after the sections so far
use Rattle.std.proofs.Common.{◌++◌, List, take}
use Rattle.c25_meaning_objects.specs.Module.{SectionData}
use Rattle.c25_meaning_linking.specs.Place.{Place}
use Rattle.c25_module.specs.View.{sections_data}
use Rattle.c25_symbols.specs.Parts.{KnowsNext}
use Rattle.c25_symbols.proofs.parts.NextStarts.pass_all.Given as goal

abbrev pub invariant-loop-section : goal.invariant-loop-section
invariant-loop-section l = (places : List Place) (sections : List SectionData) → KnowsNext l.fn.self places sections → KnowsNext l.self places (sections ++ sections_data (take l.section-index l.own))
