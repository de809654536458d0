-- the scan of the bytes so far, with those that are left, is that of all
use Rattle.std.proofs.Common.{◌≡◌, drop}
use Rattle.c25_file_hints.specs.CommandFiles.{scan_from, scan_start}
use Rattle.c25_file_hints.proofs.braces.scan_of.Given as goal

abbrev pub invariant-loop-at : goal.invariant-loop-at
invariant-loop-at l = scan_from l.scan l.at (drop l.at l.text) ≡ scan_from scan_start 0 l.text
