-- the run marks of the module so far stand there
use Rattle.std.proofs.Common.{◌≡◌, ◌++◌, take, map, filter}
use Rattle.c25_meaning_linking.specs.Words.{placed_run_mark, is_copied}
use Rattle.c25_module.specs.View.{contents}
use Rattle.c25_link.specs.Layout.{places_in}
use Rattle.c25_link.proofs.marks.push_run_marks.Given as goal

abbrev pub invariant-loop-mark : goal.invariant-loop-mark
invariant-loop-mark l = l.run_marks.items ≡ l.fn.run_marks.items ++ map (placed_run_mark l.layout.modules.now (places_in l.layout) l.number (contents l.owner)) (filter (is_copied (places_in l.layout) (contents l.owner)) (take l.mark-index l.owner.marks.items))
