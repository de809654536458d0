use Rattle.std.proofs.Common.{◌≡◌, ◌++◌, take}
use Rattle.std.specs.List.{flat_map}
use Rattle.c25_counts.specs.Counting.{count_in}
use Rattle.c25_coverage.specs.Lines.{counted_place}
use Rattle.c25_coverage.specs.View.{places_of}
use Rattle.c25_meaning_linking.specs.Linking.{line_at}
use Rattle.c25_coverage.proofs.lines.push_marks.Given as goal

abbrev pub invariant-loop-mark : goal.invariant-loop-mark
invariant-loop-mark l =
    places_of l.places.items ≡ places_of l.fn.places.items ++ flat_map (λ m. counted_place (line_at m.address l.image.lines) (count_in l.counts.acts.items m.address)) (take l.mark-index l.mark-items)
