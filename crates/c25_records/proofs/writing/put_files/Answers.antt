use Rattle.std.proofs.Common.{ℕ, List, ◌++◌, ap, ◌∙◌, string_bytes}
use Rattle.c25_meaning_objects.specs.Records.{file_entry}
use Rattle.c25_records.proofs.Puts.{next_seen}
use Rattle.c25_records.proofs.writing.put_files.Goals as goal

pub put_file-requires : goal.put_file-requires
put_file-requires c = rw c.deref.ensures (rw c.file-item.is (c.requires c.loop-file.file-index _ c.loop-file-test.true))

pub loop-file-preserved : goal.loop-file-preserved
loop-file-preserved c =
    next_seen string_bytes file_entry c.args.files.now c.loop-file.file-index c.file-item.result c.args.out.now.items c.loop-file.out.items c.put_file.new.out.items c.loop-file-test.true c.file-item.is c.loop-file.invariant
    (c.in_ok-put_file.ensures ∙ ap (λ (name : List ℕ). c.loop-file.out.items ++ file_entry name) c.deref.ensures)
