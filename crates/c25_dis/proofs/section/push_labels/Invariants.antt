-- the lines of the symbols so far stand there
use Rattle.std.proofs.Common.{◌≡◌, ◌++◌, take, string_bytes}
use Rattle.std.specs.List.{flat_map}
use Rattle.c25_dis.specs.View.{label_by}
use Rattle.c25_dis.proofs.section.push_labels.Given as goal

abbrev pub invariant-loop-item : goal.invariant-loop-item
invariant-loop-item l = string_bytes l.text ≡ string_bytes l.fn.text ++ flat_map (label_by l.symbols l.place) (take l.item-index l.found)
