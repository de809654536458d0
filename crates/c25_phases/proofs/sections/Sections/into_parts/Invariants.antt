use Rattle.std.proofs.Common.{◌≡◌, map}
use Rattle.c25_meaning_assembly.specs.Emission.{section_of}
use Rattle.c25_module.specs.View.{sections_data}
use Rattle.c25_phases.proofs.sections.Sections.into_parts.Given as goal

abbrev pub invariant-loop-section : goal.invariant-loop-section
invariant-loop-section l = sections_data l.parts.items ≡ map section_of l.yielded
