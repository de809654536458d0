use Rattle.std.proofs.Common.{◌∙◌, ap, map, refl}
use Rattle.c25_disk.specs.Written.{contents_of}
use Rattle.c25_moving.proofs.Refusing.{refused_by_memory, refused_by_name, refused_by_text, written_apart}
use Rattle.c25_moving.proofs.moving.finished.Goals as goal

pub returns-in-Err : goal.returns-in-Err
returns-in-Err g c =
    refused_by_memory (g.D.Disk.bytes_of c.args.disk.now) c.args.task.now c.args.moving.gathered.now c.args.moving.made.now c.short.result (g.D.Disk.written c.args.disk.now) (g.O.Write.contents c.args.out.now) (c.in-Err.error, c.short.ensures)

pub returns-in-Err-prepared : goal.returns-in-Err-prepared
returns-in-Err-prepared g c =
    refused_by_name (g.D.Disk.bytes_of c.args.disk.now) c.args.task.now c.args.moving.gathered.now c.args.moving.made.now c.as_str.result.now _ c.in-Err-prepared.ending (g.D.Disk.written c.args.disk.now) (g.O.Write.contents c.args.out.now)
    (c.as_str.ensures.value ∙ c.in-Ok.ensures) refl c.in-Err-prepared.ensures.refused

pub returns-in-Ok-false : goal.returns-in-Ok-false
returns-in-Ok-false g c =
    written_apart (g.D.Disk.bytes_of c.args.disk.now) c.args.task.now c.args.moving.gathered.now c.args.moving.made.now c.as_str.result.now _ _ (map contents_of c.as_slice-files.result.now) c.written.result
    (g.D.Disk.written c.args.disk.now) (g.D.Disk.written c.written.new.disk) (g.O.Write.contents c.args.out.now) (g.O.Write.contents c.written.new.out)
    (c.as_str.ensures.value ∙ c.in-Ok.ensures) refl c.in-Ok-prepared.ensures.files (ap (map contents_of) c.as_slice-files.ensures.value) c.in-Ok-prepared.ensures.apart c.written.ensures

pub returns-in-Ok-true : goal.returns-in-Ok-true
returns-in-Ok-true g c =
    refused_by_text (g.D.Disk.bytes_of c.args.disk.now) c.args.task.now c.args.moving.gathered.now c.args.moving.made.now c.as_str.result.now _ _ (map contents_of c.as_slice-files.result.now) c.would_replace.result
    (g.D.Disk.written c.args.disk.now) (g.O.Write.contents c.args.out.now) (c.as_str.ensures.value ∙ c.in-Ok.ensures) refl c.in-Ok-prepared.ensures.files (ap (map contents_of) c.as_slice-files.ensures.value)
    (c.in-Ok-true.ensures c.in-Ok-true.field-0-test) c.would_replace.ensures
