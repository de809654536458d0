use Rattle.std.proofs.Common.{sym, ◌∙◌}
use Rattle.c25_meaning_objects.specs.declared.object.ModuleMark.{ModuleMark}
use Rattle.c25_meaning_objects.specs.Module.{mark_fits}
use Rattle.c25_module.specs.View.{sections_data}
use Rattle.c25_module.proofs.Fitting.{fits_more, fits_not}
use Rattle.c25_module.proofs.spelling.marks_fit.Goals as goal

abbrev none : ModuleMark
none = record { section = 0; offset = 0; size = 0 }

pub loop-i-preserved : goal.loop-i-preserved
loop-i-preserved c =
    fits_more (mark_fits (sections_data c.args.sections.now)) c.args.marks.now c.loop-i.i none c.loop-i-test.true c.loop-i.invariant (sym c.mark_fits.ensures ∙ c.if-not-mark_fits.false)

pub returns-then-not-mark_fits : goal.returns-then-not-mark_fits
returns-then-not-mark_fits c =
    fits_not (mark_fits (sections_data c.args.sections.now)) c.args.marks.now c.loop-i.i none c.loop-i-test.true c.loop-i.invariant (sym c.mark_fits.ensures ∙ c.if-not-mark_fits.true)
