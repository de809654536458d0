-- no section so far
use Rattle.std.proofs.Common.{◌≡◌, None, find, take, map}
use Rattle.c25_map.specs.View.{section_data}
use Rattle.c25_run_ends.specs.Ground.{ends_before}
use Rattle.c25_run_ends.proofs.ground.section_before.Given as goal

abbrev pub invariant-loop-section : goal.invariant-loop-section
invariant-loop-section l = find (ends_before l.address) (map section_data (take l.section-index l.map.sections.items)) ≡ None
