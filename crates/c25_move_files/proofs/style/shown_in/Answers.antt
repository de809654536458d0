use Rattle.c25_move_lines.specs.declared.style.Style.TheVariants.{Coff, Early}
use Rattle.c25_move_files.proofs.Styles.{shown_all, shown_further}
use Rattle.c25_move_files.proofs.style.shown_in.Goals as goal

pub loop-source-preserved : goal.loop-source-preserved
loop-source-preserved c = (
  shown_further Early c.args.sources.now c.loop-source.source-index _ c.source-item.result c.loop-source.shown.early c.first_of-early.result c.as_str-file.result.now c.as_str.result.now c.in_ok-own.own.early
      c.loop-source-test.true c.source-item.is c.as_str-file.ensures.value c.as_str.ensures.value c.in_ok-own.ensures.early c.first_of-early.ensures c.loop-source.invariant.0,
  shown_further Coff c.args.sources.now c.loop-source.source-index _ c.source-item.result c.loop-source.shown.coff c.first_of-coff.result c.as_str-file.result.now c.as_str.result.now c.in_ok-own.own.coff
      c.loop-source-test.true c.source-item.is c.as_str-file.ensures.value c.as_str.ensures.value c.in_ok-own.ensures.coff c.first_of-coff.ensures c.loop-source.invariant.1,
)

pub returns : goal.returns
returns c = record {
  early = shown_all Early c.args.sources.now c.loop-source.source-index c.loop-source.shown.early c.loop-source-test.false c.loop-source.invariant.0;
  coff = shown_all Coff c.args.sources.now c.loop-source.source-index c.loop-source.shown.coff c.loop-source-test.false c.loop-source.invariant.1;
}
