-- the lines so far are appended
use Rattle.std.proofs.Common.{◌≡◌, ◌++◌, take, string_bytes}
use Rattle.std.specs.List.{flat_map}
use Rattle.c25_image_source.specs.Told.{comment_of}
use Rattle.c25_image_source.proofs.told.push_comments.Given as goal

abbrev pub invariant-loop-line : goal.invariant-loop-line
invariant-loop-line l = string_bytes l.text ≡ string_bytes l.fn.text ++ flat_map comment_of (take l.line-index l.lines)
