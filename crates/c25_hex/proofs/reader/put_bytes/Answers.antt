use Rattle.std.proofs.Common.{arith, Some, get_or, ◌+◌, ◌∙◌}
use Rattle.std.proofs.lemmas.List.{length-set}
use Rattle.c25_hex.specs.Hex.{put_bytes}
use Rattle.c25_hex.specs.Cells.{cells_map}
use Rattle.c25_hex.proofs.CellMaps.{put_more}
use Rattle.c25_hex.proofs.reader.put_bytes.Goals as goal

pub loop-i-preserved : goal.loop-i-preserved
loop-i-preserved c = record {
  put = put_more c.loop-i.cells.items c.args.place c.loop-i.i c.args.bytes.now (put_bytes (cells_map c.args.cells.now.items) c.args.place c.args.bytes.now) (omega arith) (omega arith) c.loop-i.invariant.put;
  sized = length-set c.loop-i.cells.items (c.args.place + c.loop-i.i) (Some (get_or c.args.bytes.now c.loop-i.i 0)) ∙ c.loop-i.invariant.sized;
}
