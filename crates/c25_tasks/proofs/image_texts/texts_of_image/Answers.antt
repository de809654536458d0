use Rattle.std.proofs.Common.{inl}
use Rattle.c25_tasks.proofs.image_texts.texts_of_image.Goals as goal

pub returns-in-Err : goal.returns-in-Err
returns-in-Err g c = inl ((_, c.without_note.ensures.ending), c.without_note.ensures.note)
