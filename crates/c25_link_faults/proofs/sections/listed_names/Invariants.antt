-- the names so far were passed
use Rattle.std.proofs.Common.{[], take}
use Rattle.c25_cmd.specs.View.{placings_of}
use Rattle.c25_link_faults.specs.View.{HasFirst, placing_names}
use Rattle.c25_link_faults.proofs.sections.listed_names.Given as goal

abbrev pub invariant-loop-placing : goal.invariant-loop-placing
invariant-loop-placing l = HasFirst l.names (placing_names (placings_of (take l.placing-index l.placings))) []
