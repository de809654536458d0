use Rattle.std.proofs.Common.{◌≡◌, map, string_bytes, take}
use Rattle.c25_options.specs.Task.{texts_of}
use Rattle.c25_source_notes.proofs.notes.borrowed.Given as goal

abbrev pub invariant-loop-text : goal.invariant-loop-text
invariant-loop-text l = texts_of l.names.items ≡ map string_bytes (take l.text-index l.texts)
