use Rattle.std.proofs.Common.{rules}
use Rattle.c25_macro.proofs.tracer.Tracer.into_trail.Goals as goal

pub returns : goal.returns
returns c = search rules
