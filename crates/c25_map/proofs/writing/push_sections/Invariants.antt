-- the lines of the sections so far stand there
use Rattle.std.proofs.Common.{◌≡◌, ◌++◌, take, map, string_bytes}
use Rattle.std.specs.List.{flat_map}
use Rattle.c25_meaning_linking.specs.MapText.{section_text}
use Rattle.c25_map.specs.View.{section_data}
use Rattle.c25_map.proofs.writing.push_sections.Given as goal

abbrev pub invariant-loop-section : goal.invariant-loop-section
invariant-loop-section l = string_bytes l.out ≡ string_bytes l.fn.out ++ flat_map section_text (map section_data (take l.section-index l.sections))
