use Rattle.std.proofs.Common.{◌≡◌, ◌++◌, drop}
use Rattle.std.specs.List.{flat_map}
use Rattle.c25_uses.specs.UsedNames.{bytes_of}
use Rattle.c25_uses.specs.Uses.{uses_in}
use Rattle.c25_uses.proofs.uses.push_texts.Given as goal

abbrev pub invariant-loop-line : goal.invariant-loop-line
invariant-loop-line l = bytes_of l.names.items ++ flat_map uses_in (bytes_of (drop l.line-index l.lines)) ≡ bytes_of l.initial.names.items ++ flat_map uses_in (bytes_of l.lines)
