-- the place among the bytes that are left is that of all
use Rattle.std.proofs.Common.{◌≡◌, ◌≤◌, ◌+◌, drop}
use Rattle.c25_file_hints.specs.CommandFiles.{place_from}
use Rattle.c25_file_hints.proofs.command_files.place_of.Given as goal

abbrev pub invariant-loop-at : goal.invariant-loop-at
invariant-loop-at l = record {
  same : place_from l.wanted_line l.wanted_column l.at l.line l.column (drop l.at l.text) ≡ place_from l.wanted_line l.wanted_column 0 1 1 l.text;
  line_bound : l.line ≤ l.at + 1;
  column_bound : l.column ≤ l.at + 1;
}
