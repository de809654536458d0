-- the lines of the parts so far stand there
use Rattle.std.proofs.Common.{◌≡◌, ◌++◌, take, map, string_bytes}
use Rattle.std.specs.List.{flat_map}
use Rattle.c25_meaning_linking.specs.MapText.{part_text}
use Rattle.c25_map.specs.View.{part_data}
use Rattle.c25_map.proofs.writing.push_parts.Given as goal

abbrev pub invariant-loop-part : goal.invariant-loop-part
invariant-loop-part l = string_bytes l.out ≡ string_bytes l.fn.out ++ flat_map part_text (map part_data (take l.part-index l.parts))
