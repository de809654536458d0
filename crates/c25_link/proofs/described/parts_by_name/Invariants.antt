-- the parts of the modules so far stand with their names
use Rattle.std.proofs.Common.{◌≡◌, ℕ, List, take}
use Rattle.c25_meaning_linking.specs.Linking.{section_parts}
use Rattle.c25_meaning_linking.specs.Place.{by_modules}
use Rattle.c25_link.specs.Described.{parts_named}
use Rattle.c25_link.specs.Layout.{places_in}
use Rattle.c25_link.proofs.described.parts_by_name.Given as goal

abbrev pub invariant-loop-number : goal.invariant-loop-number
invariant-loop-number l = (name : List ℕ) → parts_named l.found name ≡ by_modules (section_parts l.layout.modules.now (places_in l.layout) name) 0 (take l.number l.layout.modules.now)
