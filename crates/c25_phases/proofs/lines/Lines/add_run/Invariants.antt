use Rattle.std.proofs.Common.{◌≡◌, drop}
use Rattle.std.specs.List.{fold}
use Rattle.c25_meaning_assembly.specs.Emission.{with_line}
use Rattle.c25_phases.specs.Runs.{lines_of}
use Rattle.c25_phases.proofs.lines.Lines.add_run.Given as goal

abbrev pub invariant-loop-number : goal.invariant-loop-number
invariant-loop-number l = fold with_line l.self (lines_of l.file (drop l.number-index l.numbers)) ≡ fold with_line l.initial.self (lines_of l.file l.numbers)
