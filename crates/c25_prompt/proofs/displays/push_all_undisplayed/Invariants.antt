-- the lines so far
use Rattle.std.proofs.Common.{◌≡◌, ◌++◌, true, take, string_bytes}
use Rattle.std.specs.List.{flat_map}
use Rattle.c25_prompt.specs.Displays.{undisplayed_text}
use Rattle.c25_prompt.proofs.displays.push_all_undisplayed.Given as goal

abbrev pub invariant-loop-display : goal.invariant-loop-display
invariant-loop-display l = string_bytes l.text ≡ string_bytes l.fn.text ++ flat_map (λ d. undisplayed_text true d.number) (take l.display-index l.shown)
