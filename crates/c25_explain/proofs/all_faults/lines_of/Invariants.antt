use Rattle.std.proofs.Common.{◌≡◌, ◌++◌, drop, string_bytes}
use Rattle.c25_options.specs.Task.{texts_of}
use Rattle.c25_explain.specs.AllFaults.{sources_lines}
use Rattle.c25_explain.proofs.all_faults.lines_of.Given as goal

abbrev pub invariant-loop-source : goal.invariant-loop-source
invariant-loop-source l = string_bytes l.text ++ sources_lines l.files (texts_of (drop l.source-index l.sources)) ≡ sources_lines l.files (texts_of l.sources)
