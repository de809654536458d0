use Rattle.std.proofs.Common.{List, ℕ, string_bytes, subst}
use Rattle.c25_image_source.specs.Made.{MakesSource}
use Rattle.c25_tasks.proofs.Imaged.{under_failed, under_made}
use Rattle.c25_tasks.proofs.Quiet.{keeps, stays}
use Rattle.c25_tasks.proofs.images.write_under.Goals as goal

pub returns-in-Ok : goal.returns-in-Ok
returns-in-Ok g c =
    let held = g.D.Disk.bytes_of c.args.disk.now in
    let names = c.args.writing.names.now in
    let makes = subst (λ (s : List ℕ). MakesSource held c.args.asked s c.made_source.result) c.as_str.ensures.value c.made_source.ensures in
    under_made held c.args.writing.notes c.args.asked (string_bytes names.source) (string_bytes names.command) c.made_source.result _ _ _ _ c.in-Ok.made c.in-Ok.is makes (c.write_made.ensures held)

pub returns-in-Err : goal.returns-in-Err
returns-in-Err g c =
    let held = g.D.Disk.bytes_of c.args.disk.now in
    let names = c.args.writing.names.now in
    let makes = subst (λ (s : List ℕ). MakesSource held c.args.asked s c.made_source.result) c.as_str.ensures.value c.made_source.ensures in
    under_failed held c.args.writing.notes c.args.asked (string_bytes names.source) (string_bytes names.command) c.made_source.result _ _ _ _ c.in-Err.failure c.in-Err.is makes c.report_failure.ensures (stays _) (keeps _)
