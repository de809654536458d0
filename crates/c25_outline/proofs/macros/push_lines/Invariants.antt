-- the macros so far, with those of the lines that are left, are those of all
use Rattle.std.proofs.Common.{◌≡◌, ◌++◌, drop, map}
use Rattle.std.specs.List.{flat_map}
use Rattle.std.specs.Prelude.{option_to_list}
use Rattle.c25_outline.specs.Macros.{macro_in}
use Rattle.c25_outline.proofs.macros.push_lines.Given as goal

abbrev pub invariant-loop-line : goal.invariant-loop-line
invariant-loop-line l =
    map (λ n. n.now) l.names.items ++ flat_map (λ line. option_to_list (macro_in line)) (map (λ n. n.now) (drop l.line-index l.lines))
    ≡ map (λ n. n.now) l.initial.names.items ++ flat_map (λ line. option_to_list (macro_in line)) (map (λ n. n.now) l.lines)
