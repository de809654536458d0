use Rattle.std.proofs.Common.{◌≡◌, take, map}
use Rattle.c25_fronts.specs.Fronts.{entry_of, fronts}
use Rattle.c25_fronts.proofs.front.fronts_of.Given as goal

abbrev pub invariant-loop-source : goal.invariant-loop-source
invariant-loop-source l = map entry_of l.made.items ≡ fronts (map (λ definition. definition.now) l.definitions) (map (λ source. source.now) (take l.source-index l.sources))
