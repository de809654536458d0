-- The lines of faults end with their headings.
use Rattle.std.proofs.Common.{◌++◌, codes, decimal, refl}
use Rattle.std.specs.Fmt.{digits}
use Rattle.std.specs.Prelude.{String}
use Rattle.std.specs.String.{string_bytes}
use Rattle.std.specs.declared.alloc.Global.{Global}
use Rattle.c25_chain.specs.Refusal.{Fault}
use Rattle.c25_chain.specs.declared.fault.ChainFault.{ChainFault}
use Rattle.c25_chain.specs.declared.fault.ChainFault.TheVariants as refusal
use Rattle.c25_meaning_common.specs.declared.failure.Failure.TheVariants as failure
use Rattle.c25_tasks.specs.Lines.{EndsWithHeading}

of_refusal_ends : (r : ChainFault (String Global)) → EndsWithHeading (failure.Fault r)
unfolding digits
of_refusal_ends (refusal.Source placed) = (string_bytes placed.place.file ++ codes ":" ++ decimal placed.place.line, refl)
of_refusal_ends (refusal.NoFile file line name) = (string_bytes file ++ codes ":" ++ decimal line, refl)
of_refusal_ends (refusal.Object placed) = (string_bytes placed.place, refl)
of_refusal_ends (refusal.Command placed) = (codes "command:" ++ decimal placed.place, refl)
of_refusal_ends (refusal.Link placed) = (codes "link:" ++ string_bytes placed.place, refl)
of_refusal_ends (refusal.Hex placed) = (codes "hex:" ++ decimal placed.place, refl)
of_refusal_ends (refusal.Schedule line) = (codes "schedule:" ++ decimal line, refl)
of_refusal_ends (refusal.Samples line) = (codes "samples:" ++ decimal line, refl)
of_refusal_ends (refusal.Script line) = (codes "script:" ++ decimal line, refl)
of_refusal_ends (refusal.File placed) = (string_bytes placed.place, refl)

pub ends : (fault : Fault) → EndsWithHeading fault
unfolding digits
ends (failure.NoMemory n) = (codes "memory", refl)
ends (failure.Fault r) = of_refusal_ends r
