-- the pieces so far are appended
use Rattle.std.proofs.Common.{◌≡◌, ◌++◌, take, string_bytes}
use Rattle.std.specs.List.{flat_map}
use Rattle.c25_layout.specs.SourceText.{place_line}
use Rattle.c25_layout.proofs.texts.push_places.Given as goal

abbrev pub invariant-loop-part : goal.invariant-loop-part
invariant-loop-part l = string_bytes l.text ≡ string_bytes l.fn.text ++ flat_map place_line (take l.part-index l.parts)
