use Rattle.std.proofs.Common.{◌≡◌, drop}
use Rattle.std.specs.List.{list_any}
use Rattle.c25_options.specs.Task.{texts_of}
use Rattle.c25_source_notes.specs.Lines.{is_of_module}
use Rattle.c25_source_notes.proofs.lines.is_of_one.Given as goal

abbrev pub invariant-loop-source : goal.invariant-loop-source
invariant-loop-source l = list_any (is_of_module l.rest) (texts_of (drop l.source-index l.sources)) ≡ list_any (is_of_module l.rest) (texts_of l.sources)
