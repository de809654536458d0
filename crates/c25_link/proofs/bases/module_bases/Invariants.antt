-- the parts so far are those of the module, and the next ones begin after them
use Rattle.std.proofs.Common.{◌≡◌, ◌<◌, ◌++◌, ℕ, List, Some, take, length}
use Rattle.std.specs.List.{slice_get}
use Rattle.c25_meaning_objects.specs.Module.{Contents}
use Rattle.c25_meaning_linking.specs.Place as place
use Rattle.c25_meaning_linking.specs.Place.{all_sections}
use Rattle.c25_module.specs.View.{contents, sections_data}
use Rattle.c25_link.specs.Bases.{HasRoom, KnowsNext, parts_of}
use Rattle.c25_link.proofs.bases.module_bases.Given as goal

abbrev pub invariant-loop-section : goal.invariant-loop-section
invariant-loop-section l = ((modules : List Contents) (places : List place.Place) (number : ℕ) → HasRoom modules places → slice_get modules number ≡ Some (contents l.owner)
    → KnowsNext l.fn.next places (all_sections (take number modules))
    → KnowsNext l.next places (all_sections (take number modules) ++ sections_data (take l.section-index l.owner.sections.items))
    × ((index : ℕ) → index < l.section-index → slice_get l.list.items index ≡ parts_of modules places number (contents l.owner) index))
    × (length l.list.items ≡ l.section-index)
