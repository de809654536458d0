use Rattle.std.proofs.Common.{◌≡◌, drop, map}
use Rattle.c25_meaning_expansion.specs.Files.{text_named}
use Rattle.c25_fronts.specs.Fronts.{entry_of}
use Rattle.c25_fronts.proofs.find.find.Given as goal

abbrev pub invariant-loop-front : goal.invariant-loop-front
invariant-loop-front l = text_named (map entry_of (drop l.front-index l.fronts)) l.name ≡ text_named (map entry_of l.fronts) l.name
