-- the names that the modules so far use and none defines were added
use Rattle.std.proofs.Common.{List, [], take, map, filter}
use Rattle.c25_meaning_linking.specs.Linking.{is_unresolved, module_uses}
use Rattle.c25_meaning_linking.specs.Place.{by_modules}
use Rattle.c25_meaning_linking.specs.Words as words
use Rattle.c25_link_faults.specs.Faults.{used_name}
use Rattle.c25_link_faults.specs.View.{HasFirst, names_of}
use Rattle.c25_link_faults.proofs.uses.unresolved.Given as goal

abbrev pub invariant-loop-module : goal.invariant-loop-module
invariant-loop-module l = (ds : List words.Definition) → HasFirst l.defined [] (names_of ds)
    → HasFirst l.names [] (map used_name (filter (is_unresolved ds) (by_modules module_uses 0 (take l.module-index l.modules))))
