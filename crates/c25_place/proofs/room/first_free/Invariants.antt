-- so many words before this one are free, and no run begins before them
use Rattle.c25_place.specs.Room.{IsRunBefore}
use Rattle.c25_place.proofs.room.first_free.Given as goal

abbrev pub invariant-loop-k : goal.invariant-loop-k
invariant-loop-k l = IsRunBefore l.taken l.fits l.start l.size l.k l.free
