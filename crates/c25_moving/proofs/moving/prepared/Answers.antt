use Rattle.std.proofs.Common.{◌++◌, ◌∙◌, ap, map, string_bytes}
use Rattle.c25_disk.specs.Written.{contents_of}
use Rattle.c25_move_files.specs.Files.{new_of}
use Rattle.c25_moving.specs.Moving.{WouldReplaceNamed, command_output, names_of_task}
use Rattle.c25_moving.proofs.Refusing.{named_in_place, short_end}
use Rattle.c25_moving.proofs.moving.prepared.Goals as goal

pub returns-in-Err-clause-refused : goal.returns-in-Err-clause-refused
returns-in-Err-clause-refused c =
    short_end (WouldReplaceNamed c.args.task.now.folder.now (names_of_task c.args.gathered.now c.args.task.now) (map new_of c.args.made.now.files.items ++ command_output c.args.command.now (string_bytes c.args.made.now.command)))
    (λ line. ⊥) c.short.result (c.in-Err.error, c.short.ensures)

pub returns-in-Ok-false-clause-refused : goal.returns-in-Ok-false-clause-refused
returns-in-Ok-false-clause-refused c =
    named_in_place c.args.task.now.folder.now (names_of_task c.args.gathered.now c.args.task.now) (map new_of c.args.made.now.files.items ++ command_output c.args.command.now (string_bytes c.args.made.now.command))
    (map contents_of c.as_slice.result.now) c.would_replace.result _ (ap (map contents_of) c.as_slice.ensures.value ∙ c.in-Ok.ensures) c.in-Ok-false.ensures c.in-Ok-false.field-0-test c.would_replace.ensures
