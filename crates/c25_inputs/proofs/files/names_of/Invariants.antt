use Rattle.std.proofs.Common.{◌≡◌, map, string_bytes, take}
use Rattle.c25_options.specs.Task.{texts_of}
use Rattle.c25_inputs.proofs.files.names_of.Given as goal

abbrev pub invariant-loop-name : goal.invariant-loop-name
invariant-loop-name l = map string_bytes l.copies.items ≡ texts_of (take l.name-index l.names)
