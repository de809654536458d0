-- What is reported of files, with further notes.
use Rattle.std.proofs.Common.{◌≡◌, ◌++◌, ◌∙◌, List, ap, map}
use Rattle.std.proofs.lemmas.List.{append_assoc, map-append}
use Rattle.c25_move_files.specs.Files.{IsReportedOf, Moved, notes_of_files}
use Rattle.c25_move_files.specs.Notes.{Noted, noted}
use Rattle.c25_move_files.specs.declared.notes.Note.{Note}

pub reported_more : (ms : List Moved) (old further notes : List Note) → notes ≡ old ++ further → IsReportedOf ms (map noted old) → IsReportedOf ms (map noted notes)
reported_more ms old further notes is (remarks, known) = (
  remarks ++ map noted further,
  ap (map noted) is ∙ map-append noted old further ∙ ap (λ (xs : List Noted). xs ++ map noted further) known ∙ append_assoc (notes_of_files ms) remarks (map noted further),
)
