-- the lines so far are those of the text before the rest, and with any lines after them that keep their promises they keep theirs
use Rattle.std.proofs.Common.{◌≡◌, ◌++◌, List, length, map}
use denote.Text.{Utf8}
use denote.Shadow.{shadow}
use Rattle.c25_move.specs.Promises.{KeepAll, at_start}
use Rattle.c25_move.specs.Rewritten.{Rewritten, old_text, rewritten_of}
use Rattle.c25_move.proofs.source.moved_lines.Given as goal

abbrev pub invariant-loop-rest : goal.invariant-loop-rest
invariant-loop-rest l =
    shadow (Utf8 l.rest) × (old_text (map rewritten_of l.lines.items) ++ l.rest ≡ l.text)
    × ((more : List Rewritten) → KeepAll l.manner.style (map (λ n. n.now) l.manner.macros.now) (record { region = l.region; scope = record { source = l.manner.named.now; blocks = l.progress.blocks } }) more
    → KeepAll l.manner.style (map (λ n. n.now) l.manner.macros.now) (at_start l.manner.named.now l.fn.progress.blocks) (map rewritten_of l.lines.items ++ more))

abbrev pub decreases-loop-rest : goal.decreases-loop-rest
decreases-loop-rest l = length l.rest
