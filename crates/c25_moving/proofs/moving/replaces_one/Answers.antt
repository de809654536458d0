use Rattle.std.proofs.Common.{map}
use Rattle.std.proofs.lemmas.Bool.{false≢true}
use Rattle.c25_disk.specs.Written.{contents_of}
use Rattle.c25_move_files.specs.Files.{old_of}
use Rattle.c25_moving.proofs.OldTexts.{read_there}
use Rattle.c25_moving.proofs.moving.replaces_one.Goals as goal

pub returns-in-Ok-Some : goal.returns-in-Ok-Some
returns-in-Ok-Some g c =
    read_there (g.D.Disk.bytes_of c.args.disk.now) c.args.gathered.now.code_page (map old_of c.args.gathered.now.files.items) (contents_of c.args.output.now) c.in-Ok-Some.bytes.items c.as_slice.result.now c.may_be_old.result c.as_slice.ensures.value
    (rw c.in-Ok-Some.field-0-is at c.in-Ok-Some.ensures) c.may_be_old.ensures

pub returns-in-Ok-None : goal.returns-in-Ok-None
returns-in-Ok-None g c = λ not_so. absurd (false≢true not_so)
