-- the sections so far stand there
use Rattle.std.proofs.Common.{◌≡◌, take, map}
use Rattle.c25_map.specs.View.{section_data}
use Rattle.c25_meaning_linking.specs.Linking.{section_place}
use Rattle.c25_link.specs.Layout.{places_in}
use Rattle.c25_place.specs.View.{places_view}
use Rattle.c25_link.proofs.described.described_sections.Given as goal

abbrev pub invariant-loop-place : goal.invariant-loop-place
invariant-loop-place l = map section_data l.sections.items ≡ map (section_place l.layout.modules.now (places_in l.layout)) (places_view (take l.place-index l.layout.places.now))
