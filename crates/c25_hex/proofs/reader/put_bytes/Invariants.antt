use Rattle.std.proofs.Common.{◌≡◌, ◌+◌, drop, length}
use Rattle.c25_hex.specs.Hex.{put_bytes}
use Rattle.c25_hex.specs.Cells.{cells_map}
use Rattle.c25_hex.proofs.reader.put_bytes.Given as goal

abbrev pub invariant-loop-i : goal.invariant-loop-i
invariant-loop-i l = record {
  put : put_bytes (cells_map l.cells.items) (l.place + l.i) (drop l.i l.bytes) ≡ put_bytes (cells_map l.fn.cells.items) l.place l.bytes;
  sized : length l.cells.items ≡ length l.fn.cells.items;
}
