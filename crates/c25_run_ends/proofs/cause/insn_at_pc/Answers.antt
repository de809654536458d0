use Rattle.std.proofs.Common.{rules}
use Rattle.c25_run_ends.proofs.Ended.{read_by}
use Rattle.c25_run_ends.proofs.cause.insn_at_pc.Goals as goal

pub returns : goal.returns
returns c = read_by _ _ c.prog_at-first.result c.prog_at-second.result c.decode.result (search rules) (search rules) c.decode.ensures.found c.decode.ensures.all
