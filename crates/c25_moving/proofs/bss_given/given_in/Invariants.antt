-- what the placings that are left give is what all give
use Rattle.std.proofs.Common.{◌≡◌, drop}
use Rattle.c25_cmd.specs.View.{placings_of}
use Rattle.c25_moving.specs.BssPlace.{given_in}
use Rattle.c25_moving.proofs.bss_given.given_in.Given as goal

abbrev pub invariant-loop-placing : goal.invariant-loop-placing
invariant-loop-placing l = given_in (placings_of (drop l.placing-index l.placings)) ≡ given_in (placings_of l.placings)
