-- the blocks that are left lie in pages where all do
use Rattle.std.proofs.Common.{◌≡◌, drop}
use Rattle.std.specs.List.{list_all}
use Rattle.c25_moving.specs.BssPlace.{is_in_page}
use Rattle.c25_moving.proofs.paging.are_in_pages.Given as goal

abbrev pub invariant-loop-block : goal.invariant-loop-block
invariant-loop-block l = list_all (is_in_page l.address) (drop l.block-index l.blocks) ≡ list_all (is_in_page l.address) l.blocks
