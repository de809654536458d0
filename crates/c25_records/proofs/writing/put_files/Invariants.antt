use Rattle.std.proofs.Common.{◌≡◌, ◌++◌, take}
use Rattle.std.specs.List.{flat_map}
use Rattle.c25_meaning_objects.specs.Records.{file_entry}
use Rattle.c25_module.specs.View.{files_data}
use Rattle.c25_records.proofs.writing.put_files.Given as goal

abbrev pub invariant-loop-file : goal.invariant-loop-file
invariant-loop-file l = l.out.items ≡ l.fn.out.items ++ flat_map file_entry (files_data (take l.file-index l.files))
