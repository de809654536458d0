use Rattle.std.proofs.Common.{map}
use Rattle.std.proofs.lemmas.Bool.{false≢true}
use Rattle.c25_move_files.specs.Files.{old_of}
use Rattle.c25_moving.proofs.OldTexts.{one_is_old}
use Rattle.c25_moving.proofs.moving.replaces_old.Goals as goal

pub returns-then-is_old : goal.returns-then-is_old
returns-then-is_old g c = λ so.
    one_is_old (g.D.Disk.bytes_of c.args.disk.now) c.args.gathered.now.code_page (map old_of c.args.gathered.now.files.items) c.args.outputs.now c.loop-output.output-index _ c.output-item.result c.loop-output-test.true c.output-item.is
    (c.in_ok-is_old.ensures c.if-is_old.true)

pub returns : goal.returns
returns g c = λ not_so. absurd (false≢true not_so)
