use Rattle.std.proofs.Common.{◌≡◌, ◌++◌, drop}
use Rattle.c25_uses.specs.UsedNames.{bytes_of}
use Rattle.c25_uses.proofs.uses.push_all.Given as goal

abbrev pub invariant-loop-name : goal.invariant-loop-name
invariant-loop-name l = bytes_of l.names.items ++ bytes_of (drop l.name-index l.more) ≡ bytes_of l.initial.names.items ++ bytes_of l.more
