-- the names so far, with those that are left, are all
use Rattle.std.proofs.Common.{◌≡◌, ◌++◌, drop, map}
use Rattle.c25_disk.specs.Written.{contents_of}
use Rattle.c25_moving.proofs.moving.output_names.Given as goal

abbrev pub invariant-loop-output : goal.invariant-loop-output
invariant-loop-output l = map (λ n. n.now) l.names.items ++ map (λ f. f.0) (map contents_of (drop l.output-index l.outputs)) ≡ map (λ f. f.0) (map contents_of l.outputs)
