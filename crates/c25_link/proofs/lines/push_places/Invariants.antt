-- the instructions so far that have a line stand there
use Rattle.std.proofs.Common.{◌≡◌, ◌++◌, take, map, filter}
use Rattle.std.specs.List.{zip}
use Rattle.c25_meaning_linking.specs.Words.{is_line_on_program}
use Rattle.c25_module.specs.View.{contents}
use Rattle.c25_link.specs.Layout.{places_in}
use Rattle.c25_link.specs.Lines.{line_place}
use Rattle.c25_link.proofs.lines.push_places.Given as goal

abbrev pub invariant-loop-index : goal.invariant-loop-index
invariant-loop-index l = l.places.items ≡ l.fn.places.items ++ map (line_place l.layout.modules.now (places_in l.layout) l.number (contents l.owner)) (filter (is_line_on_program (places_in l.layout) (contents l.owner)) (take l.index (zip l.owner.marks.items l.owner.lines.items)))
