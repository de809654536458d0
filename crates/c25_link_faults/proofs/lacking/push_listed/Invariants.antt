-- those so far without a range stand there
use Rattle.std.proofs.Common.{◌≡◌, List, [], ◌++◌, take}
use Rattle.c25_cmd.specs.View.{placings_of}
use Rattle.c25_meaning_linking.specs.Place.{all_sections}
use Rattle.c25_meaning_objects.specs.Module.{Contents}
use Rattle.c25_link_faults.specs.View.{HasFirst, lacking_listed, loaded_names, names_view, ranges_view, section_names}
use Rattle.c25_link_faults.proofs.lacking.push_listed.Given as goal

abbrev pub invariant-loop-placing : goal.invariant-loop-placing
invariant-loop-placing l = (modules : List Contents) → HasFirst l.sections.all [] (section_names (all_sections modules)) → HasFirst l.sections.loaded [] (loaded_names (all_sections modules))
    → names_view l.names.items ≡ names_view l.fn.names.items ++ lacking_listed l.with_address modules (ranges_view l.sections.ranges.items) (placings_of (take l.placing-index l.placings))
