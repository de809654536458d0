use Rattle.std.proofs.Common.{◌∙◌}
use Rattle.c25_hex.proofs.CellMaps.{odd-cells}
use Rattle.c25_hex.proofs.reader.has_odd_word.Goals as goal

pub returns : goal.returns
returns c = c.has_odd_pair.ensures ∙ odd-cells c.args.cells.now
