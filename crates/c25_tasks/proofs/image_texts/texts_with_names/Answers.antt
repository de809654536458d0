use Rattle.std.proofs.Common.{List, ℕ, string_bytes, subst}
use Rattle.c25_image_source.specs.Made.{MakesSource}
use Rattle.c25_tasks.proofs.Texted.{texts_made, texts_refused}
use Rattle.c25_tasks.proofs.image_texts.texts_with_names.Goals as goal

pub returns-in-Ok : goal.returns-in-Ok
returns-in-Ok g c =
    let held = g.D.Disk.bytes_of c.args.disk.now in
    let makes = subst (λ (s : List ℕ). MakesSource held c.args.asked s c.made_source.result) c.as_str.ensures.value c.made_source.ensures in
    texts_made held c.args.explain c.args.asked c.args.names c.requires c.made_source.result makes c.in-Ok.made c.texts_under.result c.in-Ok.is c.texts_under.ensures

pub returns-in-Err : goal.returns-in-Err
returns-in-Err g c =
    let held = g.D.Disk.bytes_of c.args.disk.now in
    let makes = subst (λ (s : List ℕ). MakesSource held c.args.asked s c.made_source.result) c.as_str.ensures.value c.made_source.ensures in
    texts_refused held c.args.explain c.args.asked c.args.names c.requires c.made_source.result makes c.in-Err.failure c.refused.result.ending (string_bytes c.refused.result.note) c.in-Err.is c.refused.ensures
