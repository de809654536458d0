use Rattle.std.specs.Prelude.{Err, Ok}
use Rattle.c25_image_source.specs.Asked.{mistake_text, run_asked}
use Rattle.c25_tasks.proofs.Texted.{misuse_told, texts_by}
use Rattle.c25_tasks.proofs.image_texts.image_texts.Goals as goal

pub returns-in-Ok : goal.returns-in-Ok
returns-in-Ok g c = texts_by (g.D.Disk.bytes_of c.args.disk.now) c.args.explain (run_asked c.args.image) c.run_asked.result (Ok c.in-Ok.asked) c.texts_of_image.result c.run_asked.ensures c.in-Ok.is c.texts_of_image.ensures

pub returns-in-Err : goal.returns-in-Err
returns-in-Err g c = texts_by (g.D.Disk.bytes_of c.args.disk.now) c.args.explain (run_asked c.args.image) c.run_asked.result (Err c.in-Err.mistake) (Err c.without_note.result) c.run_asked.ensures c.in-Err.is (misuse_told (mistake_text c.in-Err.mistake) c.misused.result _ _ c.without_note.ensures.ending c.without_note.ensures.note c.misused.ensures)
