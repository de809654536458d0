-- the first of the lines that are left is the first of all
use Rattle.std.proofs.Common.{◌≡◌, ◌+◌, drop, map}
use Rattle.c25_move_style.specs.Shown.{first_from}
use Rattle.c25_move_style.proofs.shown.first_showing.Given as goal

abbrev pub invariant-loop-place : goal.invariant-loop-place
invariant-loop-place l = first_from l.style (l.place + 1) (map (λ n. n.now) (drop l.place l.lines)) ≡ first_from l.style 1 (map (λ n. n.now) l.lines)
