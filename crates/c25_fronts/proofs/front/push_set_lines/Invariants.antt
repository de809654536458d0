use Rattle.std.proofs.Common.{◌≡◌, ◌++◌, map, take, string_bytes}
use Rattle.c25_fronts.specs.Fronts.{set_lines}
use Rattle.c25_fronts.proofs.front.push_set_lines.Given as goal

abbrev pub invariant-loop-definition : goal.invariant-loop-definition
invariant-loop-definition l = string_bytes l.text ≡ string_bytes l.fn.text ++ set_lines (map (λ definition. definition.now) (take l.definition-index l.definitions))
