-- if the rest says the same all does
use Rattle.std.proofs.Common.{◌≡◌, map, string_bytes, drop, length}
use Rattle.c25_old_expressions.specs.Marks.{sym_of}
use Rattle.c25_old_expressions.specs.SameValue.{SayTheSame}
use Rattle.c25_old_expressions.proofs.operands.each_says_the_same.Given as goal

abbrev pub invariant-loop-place : goal.invariant-loop-place
invariant-loop-place l = (SayTheSame l.order (map string_bytes l.labels) (map (λ x. map sym_of x.now) (drop l.place l.old)) (map (λ x. map sym_of x.now) (drop l.place l.new)) → SayTheSame l.order (map string_bytes l.labels) (map (λ x. map sym_of x.now) l.old) (map (λ x. map sym_of x.now) l.new))
    × (length l.old ≡ length l.new)
