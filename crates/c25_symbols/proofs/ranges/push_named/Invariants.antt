-- the lines so far are appended
use Rattle.std.proofs.Common.{◌≡◌, ◌++◌, List, take, string_bytes}
use Rattle.std.specs.List.{flat_map}
use Rattle.c25_cmd.specs.View.{ranges_of}
use Rattle.c25_meaning_linking.specs.Place.{Place}
use Rattle.c25_symbols.specs.Text.{range_line}
use Rattle.c25_symbols.specs.View.{KnowsUsed}
use Rattle.c25_symbols.proofs.ranges.push_named.Given as goal

abbrev pub invariant-loop-range : goal.invariant-loop-range
invariant-loop-range l = (places : List Place) → KnowsUsed l.used places → string_bytes l.out ≡ string_bytes l.fn.out ++ flat_map (range_line places) (ranges_of (take l.range-index l.memory))
