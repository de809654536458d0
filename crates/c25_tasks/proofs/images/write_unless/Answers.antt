use Rattle.std.proofs.Common.{false, string_bytes, sym, true, ◌∙◌}
use Rattle.c25_tasks.specs.Images.{overwriting_line}
use Rattle.c25_tasks.proofs.Imaged.{only_misuse, unless_by}
use Rattle.c25_tasks.proofs.Quiet.{keeps, stays}
use Rattle.c25_tasks.proofs.images.write_unless.Goals as goal

pub returns-then-overwrites : goal.returns-then-overwrites
returns-then-overwrites g c =
    let held = g.D.Disk.bytes_of c.args.disk.now in
    let names = c.args.writing.names.now in
    let misuse = only_misuse (overwriting_line c.args.asked.base.now) c.overwriting.result _ _ _ _ c.without_note.ensures.ending c.without_note.ensures.note c.overwriting.ensures (stays _) (keeps _) in
    unless_by held c.args.writing.notes c.args.asked (string_bytes names.source) (string_bytes names.command) _ _ _ _ true (sym c.if-overwrites.true ∙ c.overwrites.ensures) misuse

pub returns : goal.returns
returns g c =
    let held = g.D.Disk.bytes_of c.args.disk.now in
    let names = c.args.writing.names.now in
    unless_by held c.args.writing.notes c.args.asked (string_bytes names.source) (string_bytes names.command) _ _ _ _ false (sym c.if-overwrites.false ∙ c.overwrites.ensures) c.write_under.ensures
