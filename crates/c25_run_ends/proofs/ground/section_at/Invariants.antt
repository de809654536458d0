-- no section so far
use Rattle.std.proofs.Common.{◌≡◌, None, find, take, map}
use Rattle.c25_map.specs.View.{section_data}
use Rattle.c25_run_ends.specs.Ground.{has_word}
use Rattle.c25_run_ends.proofs.ground.section_at.Given as goal

abbrev pub invariant-loop-section : goal.invariant-loop-section
invariant-loop-section l = find (has_word l.address) (map section_data (take l.section-index l.map.sections.items)) ≡ None
