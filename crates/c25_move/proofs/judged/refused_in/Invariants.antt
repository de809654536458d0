-- the faults so far, with those of the lines that are left, are those of all
use Rattle.std.proofs.Common.{◌≡◌, ◌++◌, drop, map}
use Rattle.std.specs.List.{flat_map}
use Rattle.std.specs.Prelude.{option_to_list, string_bytes}
use Rattle.c25_move.specs.Promises.{fault_reported}
use Rattle.c25_move.proofs.judged.refused_in.Given as goal

abbrev pub invariant-loop-line : goal.invariant-loop-line
invariant-loop-line l =
    l.faults.items ++ flat_map (λ line. option_to_list (fault_reported (map (λ n. n.now) l.macros) l.region line)) (map string_bytes (drop l.line-index l.lines))
    ≡ flat_map (λ line. option_to_list (fault_reported (map (λ n. n.now) l.macros) l.region line)) (map string_bytes l.lines)
