use Rattle.std.proofs.Common.{◌≡◌, drop}
use Rattle.std.specs.List.{flat_map, fold}
use Rattle.c25_meaning_assembly.specs.Emission.{with_line}
use Rattle.c25_phases.proofs.sections.Sections.put_lines.Given as goal

abbrev pub invariant-loop-section : goal.invariant-loop-section
invariant-loop-section l = fold with_line l.lines (flat_map (λ s. s.origins) (drop l.section-index l.section-items)) ≡ fold with_line l.initial.lines (flat_map (λ s. s.origins) l.section-items)
