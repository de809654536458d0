use Rattle.c25_board.proofs.SamplePorts.{have_ports}
use Rattle.c25_board.proofs.samples.read_samples.Goals as goal

pub new-requires : goal.new-requires
new-requires c = have_ports c.args.text.now c.in_ok-samples.samples.items c.in_ok-samples.ensures
