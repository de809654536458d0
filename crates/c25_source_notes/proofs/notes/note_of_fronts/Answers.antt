use Rattle.std.proofs.Common.{◌∙◌, ap, map, string_bytes}
use Rattle.std.proofs.lemmas.Result.{IfOk-weaker}
use Rattle.c25_fronts.specs.Fronts.{entry_of}
use Rattle.c25_options.specs.Task.{texts_of}
use Rattle.c25_source_notes.proofs.OfFronts.{of_fronts}
use Rattle.c25_source_notes.proofs.notes.note_of_fronts.Goals as goal

pub returns : goal.returns
returns g c =
    let held = g.D.Disk.bytes_of c.args.disk.now in
    IfOk-weaker c.shown_text.result _ _
    (λ note told.
    of_fronts (g.D.Disk.refuses c.args.disk.now) held c.args.notes c.notes_for-shown.result c.in-After.options c.in-After.named (texts_of c.args.definitions.now) (map entry_of c.as_slice-3.result.now) _ c.args.refusal.now (string_bytes c.note_of-note.result) c.as_str.result.now (string_bytes note)
    c.in-After.is (ap (λ fs. map entry_of fs) c.as_slice-3.ensures.value ∙ c.in_ok-fronts.ensures) (ap texts_of c.as_slice-2.ensures.value ∙ c.in_ok-names.ensures ∙ ap (λ ts. map string_bytes ts) c.as_slice.ensures.value ∙ c.in_ok-made.ensures)
    c.notes_for-shown.ensures c.note_of-note.ensures c.as_str.ensures.value told)
    c.shown_text.ensures
