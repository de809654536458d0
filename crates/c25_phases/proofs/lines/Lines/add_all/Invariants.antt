use Rattle.std.proofs.Common.{◌≡◌, ◌≤◌, drop, length}
use Rattle.std.specs.List.{fold}
use Rattle.c25_meaning_assembly.specs.Emission.{with_line}
use Rattle.c25_phases.specs.Runs.{origins_in, total}
use Rattle.c25_phases.specs.SourceLines.{origins_of}
use Rattle.c25_phases.proofs.lines.Lines.add_all.Given as goal

abbrev pub invariant-loop-run : goal.invariant-loop-run
invariant-loop-run l = record {
  lines : fold with_line l.self (origins_in (drop l.run-index l.run-items) l.lines.file.now l.rest) ≡ fold with_line l.initial.self (origins_of l.lines);
  few : total (drop l.run-index l.run-items) ≤ length l.rest;
}
