-- the parts of the modules so far are known, and the next ones begin after them
use Rattle.std.proofs.Common.{◌≡◌, ◌<◌, ℕ, Some, take, length}
use Rattle.std.specs.List.{slice_get}
use Rattle.c25_meaning_objects.specs.Module.{Contents}
use Rattle.c25_meaning_linking.specs.Place.{all_sections}
use Rattle.c25_link.specs.Bases.{HasRoom, KnowsNext, parts_of, part_in}
use Rattle.c25_place.specs.View.{places_view}
use Rattle.c25_link.proofs.bases.Bases.new.Given as goal

abbrev pub invariant-loop-module : goal.invariant-loop-module
invariant-loop-module l = (HasRoom l.modules (places_view l.places)
    → KnowsNext l.next (places_view l.places) (all_sections (take l.module-index l.modules))
    × ((number index : ℕ) (m : Contents) → number < l.module-index → slice_get l.modules number ≡ Some m → part_in l.list.items number index ≡ parts_of l.modules (places_view l.places) number m index))
    × (length l.list.items ≡ l.module-index)
