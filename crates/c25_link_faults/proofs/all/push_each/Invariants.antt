-- the fault at the names so far stands there
use Rattle.std.proofs.Common.{◌≡◌, ◌++◌, take}
use Rattle.c25_link_faults.specs.Faults.{each_with}
use Rattle.c25_link_faults.specs.View.{faults_view, names_view}
use Rattle.c25_link_faults.proofs.all.push_each.Given as goal

abbrev pub invariant-loop-name : goal.invariant-loop-name
invariant-loop-name l = faults_view l.faults.items ≡ faults_view l.fn.faults.items ++ each_with l.fault (names_view (take l.name-index l.names))
