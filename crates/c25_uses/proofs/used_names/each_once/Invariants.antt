use Rattle.std.proofs.Common.{◌≡◌, ◌||◌, List, ℕ, drop}
use Rattle.c25_meaning_assembly.specs.Sections.{is_in}
use Rattle.c25_uses.specs.UsedNames.{bytes_of}
use Rattle.c25_uses.proofs.used_names.each_once.Given as goal

abbrev pub invariant-loop-name : goal.invariant-loop-name
invariant-loop-name l = (name : List ℕ) → (is_in (bytes_of l.once.keys) name || is_in (bytes_of (drop l.name-index l.names)) name) ≡ is_in (bytes_of l.names) name
