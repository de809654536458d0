use Rattle.std.proofs.Common.{◌≡◌, ◌++◌, drop}
use Rattle.std.specs.List.{flat_map}
use Rattle.c25_phases.proofs.sections.Sections.blocks.Given as goal

abbrev pub invariant-loop-section : goal.invariant-loop-section
invariant-loop-section l = l.blocks.items ++ flat_map (λ s. s.blocks) (drop l.section-index l.section-items) ≡ flat_map (λ s. s.blocks) l.section-items
