use Rattle.std.proofs.Common.{◌≡◌, drop}
use Rattle.c25_meaning_objects.specs.Module.{has_section}
use Rattle.c25_module.specs.View.{sections_data}
use Rattle.c25_module.proofs.fits.has_section.Given as goal

abbrev pub invariant-loop-section : goal.invariant-loop-section
invariant-loop-section l = has_section (sections_data (drop l.section-index l.before)) l.name ≡ has_section (sections_data l.before) l.name
