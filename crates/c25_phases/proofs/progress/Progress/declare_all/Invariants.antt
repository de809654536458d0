use Rattle.std.proofs.Common.{◌≡◌, drop}
use Rattle.c25_meaning_assembly.specs.Sections.{all_once}
use Rattle.c25_statements.specs.View.{texts_of}
use Rattle.c25_phases.specs.View.{progress_of}
use Rattle.c25_phases.proofs.progress.Progress.declare_all.Given as goal

abbrev pub invariant-loop-name : goal.invariant-loop-name
invariant-loop-name l =
    record (progress_of l.self) { declared = all_once (progress_of l.self).declared (texts_of (drop l.name-index l.names)) }
    ≡ record (progress_of l.initial.self) { declared = all_once (progress_of l.initial.self).declared (texts_of l.names) }
