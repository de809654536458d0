-- the notes so far, with those that are left, are all
use Rattle.std.proofs.Common.{◌≡◌, ◌++◌, drop, map}
use Rattle.c25_move_files.specs.Notes.{Noted, noted}
use Rattle.c25_move_files.specs.declared.notes.NoteKind.TheVariants.{Left}
use Rattle.c25_move_files.proofs.notes.push_left.Given as goal

abbrev pub invariant-loop-rule : goal.invariant-loop-rule
invariant-loop-rule l = map noted l.notes.items ++ map {B = Noted} (λ x. record { file = l.file; line = l.line; kind = Left x }) (drop l.rule-index l.rules) ≡ map noted l.initial.notes.items ++ map {B = Noted} (λ x. record { file = l.file; line = l.line; kind = Left x }) l.rules
