-- no section so far has the name
use Rattle.std.proofs.Common.{◌≡◌, None, find, take}
use Rattle.std.specs.Str.{bytes_eq}
use Rattle.c25_cmd.specs.View.{placings_of}
use Rattle.c25_link_faults.proofs.unfits.placing_named.Given as goal

abbrev pub invariant-loop-placing : goal.invariant-loop-placing
invariant-loop-placing l = find (λ p. bytes_eq p.name l.name) (placings_of (take l.placing-index l.placings)) ≡ None
