use Rattle.std.proofs.Common.{◌≡◌, ◌++◌, take}
use Rattle.std.specs.List.{flat_map}
use Rattle.c25_meaning_objects.specs.Records.{section_entry}
use Rattle.c25_module.specs.View.{sections_data}
use Rattle.c25_records.proofs.writing.put_sections.Given as goal

abbrev pub invariant-loop-section : goal.invariant-loop-section
invariant-loop-section l = l.out.items ≡ l.fn.out.items ++ flat_map section_entry (sections_data (take l.section-index l.sections))
