-- with the notes of the faults that are left it is the notes of all
use Rattle.std.proofs.Common.{◌≡◌, ◌++◌, drop, map, string_bytes}
use Rattle.c25_place.specs.View.{refusal_of}
use Rattle.c25_explain.specs.Again.{notes_view, other_notes}
use Rattle.c25_explain.proofs.link_faults.push_faults.Given as goal

abbrev pub invariant-loop-fault : goal.invariant-loop-fault
invariant-loop-fault l =
    notes_view l.notes.items ++ other_notes l.among.explain (map string_bytes l.among.names.now) l.among.modules.now (map refusal_of (drop l.fault-index l.faults))
    ≡ notes_view l.fn.notes.items ++ other_notes l.among.explain (map string_bytes l.among.names.now) l.among.modules.now (map refusal_of l.faults)
