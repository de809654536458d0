-- one of the blocks that are left comes after the place where one of all does
use Rattle.std.proofs.Common.{◌≡◌, drop}
use Rattle.std.specs.List.{list_any}
use Rattle.c25_warnings.specs.Data.{fills}
use Rattle.c25_warnings.proofs.data.any_fills.Given as goal

abbrev pub invariant-loop-block : goal.invariant-loop-block
invariant-loop-block l = list_any (fills l.section l.place) (drop l.block-index l.blocks) ≡ list_any (fills l.section l.place) l.blocks
