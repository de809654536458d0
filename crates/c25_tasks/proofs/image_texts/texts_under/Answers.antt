use Rattle.c25_tasks.proofs.image_texts.texts_under.Goals as goal

pub returns-in-Err : goal.returns-in-Err
returns-in-Err c = ((_, c.without_note.ensures.ending), c.without_note.ensures.note)
