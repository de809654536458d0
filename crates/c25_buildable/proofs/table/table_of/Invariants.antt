-- the names so far are in the table
use Rattle.std.proofs.Common.{take}
use Rattle.c25_buildable.specs.Places.{IsTable, places_view}
use Rattle.c25_buildable.proofs.table.table_of.Given as goal

abbrev pub invariant-loop-place : goal.invariant-loop-place
invariant-loop-place l = IsTable l.table (places_view (take l.place-index l.places))
