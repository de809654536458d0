-- the words of the sections so far were added
use Rattle.std.proofs.Common.{◌≡◌, ◌+◌, ℕ, take}
use Rattle.std.specs.List.{sum_by}
use Rattle.c25_meaning_linking.specs.Place.{size_for}
use Rattle.c25_module.specs.View.{sections_data}
use Rattle.c25_link_faults.specs.Overlaps.{within_page}
use Rattle.c25_link_faults.proofs.spans.with_sections.Given as goal

abbrev pub invariant-loop-section : goal.invariant-loop-section
invariant-loop-section l = (n : ℕ) → l.fn.total ≡ within_page n → l.words ≡ within_page (n + sum_by (size_for l.name) (sections_data (take l.section-index l.sections)))
