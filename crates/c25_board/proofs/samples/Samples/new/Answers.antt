use Rattle.std.proofs.Common.{ℕ}
use Rattle.std.specs.Prelude.{replicate}
use Rattle.c25_board.proofs.Zeros.{zeros_at}
use Rattle.c25_board.proofs.SamplesTaken.{all_left}
use Rattle.c25_board.proofs.samples.Samples.new.Goals as goal

pub returns : goal.returns
returns c = all_left (replicate {A = ℕ} 16 0) 0 c.args.samples.items (zeros_at 16)
