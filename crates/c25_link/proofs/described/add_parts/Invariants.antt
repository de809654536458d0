-- the parts so far stand with those of their names
use Rattle.std.proofs.Common.{◌≡◌, ◌++◌, ℕ, List, take, map, filter}
use Rattle.c25_meaning_linking.specs.Linking.{section_part}
use Rattle.c25_meaning_linking.specs.Place.{is_section_named}
use Rattle.c25_module.specs.View.{sections_data}
use Rattle.c25_link.specs.Described.{parts_named}
use Rattle.c25_link.specs.Layout.{places_in}
use Rattle.c25_link.proofs.described.add_parts.Given as goal

abbrev pub invariant-loop-index : goal.invariant-loop-index
invariant-loop-index l = (name : List ℕ) → parts_named l.found name ≡ parts_named l.fn.found name ++ map (section_part l.layout.modules.now (places_in l.layout) l.number) (filter (is_section_named name) (sections_data (take l.index l.owner.sections.items)))
