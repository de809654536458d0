-- the port's samples from here on are those from the first place on
use Rattle.std.proofs.Common.{◌≡◌, drop}
use Rattle.c25_meaning_processor.specs.Samples.{samples_at}
use Rattle.c25_board.proofs.samples.find.Given as goal

abbrev pub invariant-loop-place : goal.invariant-loop-place
invariant-loop-place l = samples_at (drop l.place l.samples) l.port ≡ samples_at (drop l.from l.samples) l.port
