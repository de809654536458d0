-- what is still read completes what was read
use Rattle.std.proofs.Common.{◌≡◌, map, length}
use Rattle.c25_map.specs.Reading as reading
use Rattle.c25_map.specs.View.{map_data}
use Rattle.c25_map.proofs.map_reader.map_of_lines.Given as goal

abbrev pub invariant-loop-rest : goal.invariant-loop-rest
invariant-loop-rest l = reading.with_lines (map_data l.so_far) (map (λ s. s.now) l.rest) ≡ reading.with_lines reading.nothing (map (λ s. s.now) l.lines)

abbrev pub decreases-loop-rest : goal.decreases-loop-rest
decreases-loop-rest l = length l.rest
