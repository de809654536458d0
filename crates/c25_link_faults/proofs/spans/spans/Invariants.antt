-- the sections listed so far
use Rattle.std.proofs.Common.{◌≡◌, map, take}
use Rattle.c25_cmd.specs.View.{placings_of}
use Rattle.c25_link_faults.specs.Overlaps.{span_data, spans}
use Rattle.c25_link_faults.proofs.spans.spans.Given as goal

abbrev pub invariant-loop-placing : goal.invariant-loop-placing
invariant-loop-placing l = map span_data l.list.items ≡ spans l.modules (placings_of (take l.placing-index l.placings))
