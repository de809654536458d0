use Rattle.c25_link_faults.proofs.First.{passed}
use Rattle.std.proofs.Common.{refl}
use Rattle.c25_link_faults.proofs.names.FirstNames.pass.Goals as goal

pub returns : goal.returns
returns c = λ before has. passed c.args.self.now _ c.args.name before has c.in_ok-insert.ensures.keys refl
