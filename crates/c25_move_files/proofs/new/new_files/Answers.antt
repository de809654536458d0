use Rattle.std.proofs.Common.{◌++◌, ◌∙◌, ap, map}
use Rattle.c25_move_files.specs.Files.{contents, moved_of, new_of}
use Rattle.c25_move_files.proofs.Each.{moved_contents}
use Rattle.c25_move_files.proofs.new.new_files.Goals as goal

pub returns : goal.returns
returns c =
    c.in_ok-push_new.ensures ∙ ap (λ fs. map new_of fs ++ map (λ m. contents (moved_of m)) c.args.moved.now) c.new-files.ensures.items
    ∙ moved_contents c.args.moved.now
