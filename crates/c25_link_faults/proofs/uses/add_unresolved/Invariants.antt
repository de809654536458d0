-- the names so far that are not defined were added
use Rattle.std.proofs.Common.{ℕ, List, [], ◌++◌, take, map, filter}
use Rattle.c25_meaning_linking.specs.Linking.{is_unresolved, use_of}
use Rattle.c25_meaning_linking.specs.Words as words
use Rattle.c25_module.specs.View.{contents}
use Rattle.c25_link_faults.specs.Faults.{used_name}
use Rattle.c25_link_faults.specs.View.{HasFirst, names_of}
use Rattle.c25_link_faults.proofs.uses.add_unresolved.Given as goal

abbrev pub invariant-loop-relocation : goal.invariant-loop-relocation
invariant-loop-relocation l = (number : ℕ) (ds : List words.Definition) (added : List (List ℕ)) → HasFirst l.defined [] (names_of ds) → HasFirst l.fn.names [] added
    → HasFirst l.names [] (added ++ map used_name (filter (is_unresolved ds) (map (use_of number (contents l.owner)) (take l.relocation-index l.owner.relocations.items))))
