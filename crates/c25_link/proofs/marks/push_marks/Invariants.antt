-- the marks of the module so far stand there
use Rattle.std.proofs.Common.{◌≡◌, ◌++◌, take, map, filter}
use Rattle.c25_meaning_linking.specs.Words.{placed_mark, is_run_in_place}
use Rattle.c25_module.specs.View.{contents}
use Rattle.c25_link.specs.Layout.{places_in}
use Rattle.c25_link.proofs.marks.push_marks.Given as goal

abbrev pub invariant-loop-mark : goal.invariant-loop-mark
invariant-loop-mark l = l.marks.items ≡ l.fn.marks.items ++ map (placed_mark l.layout.modules.now (places_in l.layout) l.number (contents l.owner)) (filter (is_run_in_place (places_in l.layout) (contents l.owner)) (take l.mark-index l.owner.marks.items))
