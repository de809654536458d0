use Rattle.std.proofs.Common.{pos, sym, ◌∙◌}
use Rattle.c25_meaning_common.specs.declared.relocation.RelocationKind.TheVariants.{Word16}
use Rattle.c25_meaning_objects.specs.declared.object.Relocation.{Relocation}
use Rattle.c25_meaning_objects.specs.declared.object.RelocationBase.TheVariants as base
use Rattle.c25_meaning_objects.specs.Module.{relocation_fits}
use Rattle.c25_module.specs.View.{sections_data, symbols_data}
use Rattle.c25_module.proofs.Fitting.{fits_more, fits_not}
use Rattle.c25_module.proofs.spelling.relocations_fit.Goals as goal

abbrev none : Relocation
none = record { section = 0; offset = 0; kind = Word16; base = base.Section 0; addend = pos 0 }

pub loop-i-preserved : goal.loop-i-preserved
loop-i-preserved c =
    fits_more (relocation_fits c.args.version (sections_data c.args.sections.now) (symbols_data c.args.symbols.now)) c.args.relocations.now c.loop-i.i none c.loop-i-test.true c.loop-i.invariant (sym c.relocation_fits.ensures ∙ c.if-not-relocation_fits.false)

pub returns-then-not-relocation_fits : goal.returns-then-not-relocation_fits
returns-then-not-relocation_fits c =
    fits_not (relocation_fits c.args.version (sections_data c.args.sections.now) (symbols_data c.args.symbols.now)) c.args.relocations.now c.loop-i.i none c.loop-i-test.true c.loop-i.invariant (sym c.relocation_fits.ensures ∙ c.if-not-relocation_fits.true)
