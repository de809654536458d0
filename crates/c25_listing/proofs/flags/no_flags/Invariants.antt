use Rattle.std.proofs.Common.{◌≡◌, ◌++◌, drop}
use Rattle.c25_module.specs.View.{sections_data}
use Rattle.c25_listing.specs.Flags.{no_flags}
use Rattle.c25_listing.proofs.flags.no_flags.Given as goal

abbrev pub invariant-loop-section : goal.invariant-loop-section
invariant-loop-section l = l.flags.items ++ no_flags (sections_data (drop l.section-index l.sections)) ≡ no_flags (sections_data l.sections)
