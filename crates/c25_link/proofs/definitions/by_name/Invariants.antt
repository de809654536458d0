-- no name stands twice so far, and each is found
use Rattle.std.proofs.Common.{◌≡◌, ℕ, List, [], None, take}
use Rattle.std.specs.Option.{option_map}
use Rattle.c25_meaning_linking.specs.Linking.{first_again}
use Rattle.c25_meaning_linking.specs.Words.{definition_of}
use Rattle.c25_link.specs.View.{definition_view, definitions_view, names_of}
use Rattle.c25_place.specs.View.{named}
use Rattle.c25_link.proofs.definitions.by_name.Given as goal

abbrev pub invariant-loop-definition : goal.invariant-loop-definition
invariant-loop-definition l = (first_again [] (names_of (definitions_view (take l.definition-index l.list))) ≡ None)
    × ((name : List ℕ) → option_map definition_view (named l.found name) ≡ definition_of name (definitions_view (take l.definition-index l.list)))
