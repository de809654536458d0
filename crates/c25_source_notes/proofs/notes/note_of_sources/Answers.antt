use Rattle.std.proofs.Common.{string_bytes, subst, sym}
use Rattle.c25_source_notes.specs.Notes.{IsSourceNote}
use Rattle.c25_source_notes.specs.declared.notes.SourceNotes.{SourceNotes}
use Rattle.c25_source_notes.proofs.notes.note_of_sources.Goals as goal

pub returns-in-Reading : goal.returns-in-Reading
returns-in-Reading g c =
    subst (λ (n : SourceNotes). IsSourceNote (g.D.Disk.refuses c.args.disk.now) (g.D.Disk.bytes_of c.args.disk.now) n c.args.refusal.now (string_bytes c.with_folders.result)) (sym c.in-Reading.is)
    (string_bytes c.note_under-note.result, c.note_under-note.ensures, c.with_folders.ensures)
