use Rattle.c25_inputs.proofs.Fails.{optional_named}
use Rattle.c25_inputs.proofs.files.read_optional.Goals as goal

pub returns-in-Some : goal.returns-in-Some
returns-in-Some g c = optional_named (g.D.Disk.bytes_of c.args.disk.now) c.args.name c.in-Some.name c.read_named.result c.in-Some.is c.read_named.ensures
