-- the notes so far, with those that are left, are all
use Rattle.std.proofs.Common.{◌≡◌, ◌++◌, drop, map}
use Rattle.c25_move_files.specs.Notes.{Noted, noted}
use Rattle.c25_move_files.specs.declared.notes.NoteKind.TheVariants.{Refused}
use Rattle.c25_move_files.proofs.notes.push_refused.Given as goal

abbrev pub invariant-loop-fault : goal.invariant-loop-fault
invariant-loop-fault l = map noted l.notes.items ++ map {B = Noted} (λ x. record { file = l.file; line = l.line; kind = Refused x }) (drop l.fault-index l.faults) ≡ map noted l.initial.notes.items ++ map {B = Noted} (λ x. record { file = l.file; line = l.line; kind = Refused x }) l.faults
