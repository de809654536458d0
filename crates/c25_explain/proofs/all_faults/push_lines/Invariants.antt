use Rattle.std.proofs.Common.{◌≡◌, ◌++◌, drop, map, string_bytes}
use Rattle.c25_phases.specs.View.{fault_of}
use Rattle.c25_explain.specs.AllFaults.{fault_lines}
use Rattle.c25_explain.proofs.all_faults.push_lines.Given as goal

abbrev pub invariant-loop-fault : goal.invariant-loop-fault
invariant-loop-fault l = string_bytes l.text ++ fault_lines (map fault_of (drop l.fault-index l.faults)) ≡ string_bytes l.initial.text ++ fault_lines (map fault_of l.faults)
