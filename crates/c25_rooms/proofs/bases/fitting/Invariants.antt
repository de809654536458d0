-- those of the addresses so far at which the block lies inside one page
use Rattle.std.proofs.Common.{◌≡◌, filter, take}
use Rattle.c25_meaning_linking.specs.GoodMap.{is_paged}
use Rattle.c25_rooms.specs.Crossings.{block_data, moved}
use Rattle.c25_rooms.proofs.bases.fitting.Given as goal

abbrev pub invariant-loop-base : goal.invariant-loop-base
invariant-loop-base l = l.list.items ≡ filter (λ base. is_paged base (moved 0 (block_data l.block))) (take l.base-index l.bases)
