use Rattle.std.proofs.Common.{◌≡◌, ◌++◌, drop, string_bytes}
use Rattle.c25_explain.specs.Places.{carets_below}
use Rattle.c25_explain.proofs.places.push_carets.Given as goal

abbrev pub invariant-loop-byte : goal.invariant-loop-byte
invariant-loop-byte l = string_bytes l.line ++ carets_below (drop l.byte-index l.above) ≡ string_bytes l.initial.line ++ carets_below l.above
