-- those so far without a range stand there
use Rattle.std.proofs.Common.{◌≡◌, List, [], ◌++◌, take}
use Rattle.c25_meaning_linking.specs.Place.{all_sections}
use Rattle.c25_meaning_objects.specs.Module.{Contents}
use Rattle.c25_link_faults.specs.View.{HasFirst, lacking_unlisted, loaded_names, names_view, ranges_view}
use Rattle.c25_link_faults.proofs.lacking.push_unlisted.Given as goal

abbrev pub invariant-loop-name : goal.invariant-loop-name
invariant-loop-name l = (modules : List Contents) → HasFirst l.sections.loaded [] (loaded_names (all_sections modules))
    → names_view l.names.items ≡ names_view l.fn.names.items ++ lacking_unlisted modules (ranges_view l.sections.ranges.items) (names_view (take l.name-index l.unlisted))
