use Rattle.std.proofs.Common.{◌≡◌, map, string_bytes, take}
use Rattle.std.specs.List.{flat_map}
use Rattle.c25_options.specs.Task.{texts_of}
use Rattle.c25_source_notes.specs.Lines.{shown_line}
use Rattle.c25_source_notes.proofs.lines.joined.Given as goal

abbrev pub invariant-loop-line : goal.invariant-loop-line
invariant-loop-line l = string_bytes l.text ≡ flat_map (shown_line (texts_of l.sources)) (map (λ line. line.now) (take l.line-index l.lines))
