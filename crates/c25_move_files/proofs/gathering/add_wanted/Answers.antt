use Rattle.std.proofs.Common.{IfSome, Option, subst}
use Rattle.c25_move_files.specs.Files.{IsRead, old_of}
use Rattle.c25_move_files.specs.declared.old.OldFile.{OldFile}
use Rattle.c25_move_files.proofs.Each.{read_more}
use Rattle.c25_move_files.proofs.gathering.add_wanted.Goals as goal

pub returns-in_ok-push : goal.returns-in_ok-push
returns-in_ok-push g c = λ all.
    let read = subst (λ (o : Option OldFile). IfSome o (λ f. IsRead (g.D.Disk.bytes_of c.args.old.now.disk.now) c.args.old.now.code_page (old_of f))) c.in-Some.is c.in_ok-file.ensures in
    read_more (g.D.Disk.bytes_of c.args.old.now.disk.now) c.args.old.now.code_page c.args.copied.now.items c.push.new.self.items c.in-Some.file c.in_ok-push.ensures.items all read
