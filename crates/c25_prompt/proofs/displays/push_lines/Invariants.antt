-- the lines so far
use Rattle.std.proofs.Common.{◌≡◌, ◌++◌, take, string_bytes}
use Rattle.std.specs.List.{flat_map}
use Rattle.c25_board.specs.Board.{state}
use Rattle.c25_prompt.specs.Displays.{display_line}
use Rattle.c25_prompt.proofs.displays.push_lines.Given as goal

abbrev pub invariant-loop-display : goal.invariant-loop-display
invariant-loop-display l = string_bytes l.text ≡ string_bytes l.fn.text ++ flat_map (display_line (state l.board)) (take l.display-index l.shown)
