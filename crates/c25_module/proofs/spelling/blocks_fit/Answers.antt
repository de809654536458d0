use Rattle.std.proofs.Common.{sym, ◌∙◌}
use Rattle.c25_meaning_objects.specs.declared.object.Block.{Block}
use Rattle.c25_meaning_objects.specs.Module.{block_fits}
use Rattle.c25_module.specs.View.{sections_data}
use Rattle.c25_module.proofs.Fitting.{fits_more, fits_not}
use Rattle.c25_module.proofs.spelling.blocks_fit.Goals as goal

abbrev none : Block
none = record { section = 0; offset = 0; size = 0 }

pub loop-i-preserved : goal.loop-i-preserved
loop-i-preserved c =
    fits_more (block_fits (sections_data c.args.sections.now)) c.args.blocks.now c.loop-i.i none c.loop-i-test.true c.loop-i.invariant (sym c.block_fits.ensures ∙ c.if-not-block_fits.false)

pub returns-then-not-block_fits : goal.returns-then-not-block_fits
returns-then-not-block_fits c =
    fits_not (block_fits (sections_data c.args.sections.now)) c.args.blocks.now c.loop-i.i none c.loop-i-test.true c.loop-i.invariant (sym c.block_fits.ensures ∙ c.if-not-block_fits.true)
