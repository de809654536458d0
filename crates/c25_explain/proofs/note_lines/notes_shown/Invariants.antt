-- with the notes that are left, shown, what is shown so far is all of them
use Rattle.std.proofs.Common.{drop, string_bytes}
use Rattle.c25_explain.proofs.NotesShown.{ShowsWith}
use Rattle.c25_explain.proofs.note_lines.notes_shown.Given as goal

abbrev pub invariant-loop-note : goal.invariant-loop-note
invariant-loop-note g l = ShowsWith (g.D.Disk.bytes_of l.disk) l.notes (drop l.note-index l.notes) (string_bytes l.text)
