-- the pieces so far are appended
use Rattle.std.proofs.Common.{◌≡◌, ◌++◌, take, string_bytes}
use Rattle.std.specs.List.{flat_map}
use Rattle.c25_layout.specs.SourceText.{further_text}
use Rattle.c25_layout.proofs.row_text.push_rest.Given as goal

abbrev pub invariant-loop-word : goal.invariant-loop-word
invariant-loop-word l = string_bytes l.text ≡ string_bytes l.fn.text ++ flat_map further_text (take l.word-index l.words)
