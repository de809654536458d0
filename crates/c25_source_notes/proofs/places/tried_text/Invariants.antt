-- the lines so far
use Rattle.std.proofs.Common.{◌≡◌, string_bytes, take}
use Rattle.std.specs.List.{flat_map}
use Rattle.c25_options.specs.Task.{texts_of}
use Rattle.c25_source_notes.specs.Places.{tried_line}
use Rattle.c25_source_notes.proofs.places.tried_text.Given as goal

abbrev pub invariant-loop-folder : goal.invariant-loop-folder
invariant-loop-folder l = string_bytes l.text ≡ flat_map (tried_line l.name) (texts_of (take l.folder-index l.folders))
