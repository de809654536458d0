use Rattle.std.proofs.Common.{List, inl, string_bytes, subst}
use Rattle.c25_explain.specs.Again.{ShowsNotes, notes_view}
use Rattle.c25_explain.specs.declared.note_lines.LinkNote.{LinkNote}
use Rattle.c25_explain.proofs.again.asked_text.Goals as goal

pub returns-in-Ok : goal.returns-in-Ok
returns-in-Ok g c =
    inl (
      notes_view c.in-Ok-Some.notes.items,
      (rw c.in-Ok-Some.field-0-is at c.in-Ok-Some.ensures),
      subst (λ (ns : List LinkNote). ShowsNotes (g.D.Disk.bytes_of c.args.disk.now) (notes_view ns) (string_bytes c.in-Ok.text)) c.deref.ensures.value c.in-Ok.ensures,
    )
