-- no relocation so far counts from a missing name
use Rattle.std.proofs.Common.{◌≡◌, ℕ, List, None, find, take, map}
use Rattle.c25_meaning_linking.specs.Linking.{is_unresolved, use_of}
use Rattle.c25_meaning_linking.specs.Words as words
use Rattle.c25_module.specs.View.{contents}
use Rattle.c25_link.specs.View.{HasDefinitions}
use Rattle.c25_link.proofs.uses.unresolved_in.Given as goal

abbrev pub invariant-loop-relocation : goal.invariant-loop-relocation
invariant-loop-relocation l = (number : ℕ) (ds : List words.Definition) → HasDefinitions l.definitions ds
    → find (is_unresolved ds) (map (use_of number (contents l.owner)) (take l.relocation-index l.owner.relocations.items)) ≡ None
