-- the sections so far that are not listed stand there, and their names are seen
use Rattle.std.proofs.Common.{◌≡◌, ◌++◌, ℕ, List, take, map}
use Rattle.c25_meaning_linking.specs.GoodMap.{unlisted_request, new_names}
use Rattle.c25_meaning_objects.specs.Module.{Contents, SectionData}
use Rattle.c25_meaning_linking.specs.Place.{all_sections}
use Rattle.c25_place.specs.Outputs.{KnowsOutputs}
use Rattle.c25_place.specs.Requests.{HasPages, HasNames}
use Rattle.c25_place.specs.View.{requests_view, sections_view}
use Rattle.c25_place.proofs.requests.push_unlisted.Given as goal

abbrev pub invariant-loop-section : goal.invariant-loop-section
invariant-loop-section l = ((modules : List Contents) (listed : List (List ℕ)) → KnowsOutputs l.outputs (all_sections modules) → sections_view l.sections ≡ all_sections modules → HasNames l.fn.seen listed
    → (requests_view modules l.requests.items ≡ requests_view modules l.fn.requests.items ++ map (unlisted_request modules) (new_names listed (map (λ (s : SectionData). s.name) (sections_view (take l.section-index l.sections)))))
    × HasNames l.seen (listed ++ map (λ (s : SectionData). s.name) (sections_view (take l.section-index l.sections))))
    × HasPages l.requests.items
