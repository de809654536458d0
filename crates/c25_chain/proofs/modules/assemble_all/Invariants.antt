use Rattle.std.proofs.Common.{◌≡◌, drop, map, string_bytes}
use Rattle.c25_meaning_common.specs.Results.{fold_ok}
use Rattle.c25_chain.specs.Modules.{modules_of, with_source}
use Rattle.c25_chain.specs.View.{modules_view}
use Rattle.c25_chain.proofs.modules.assemble_all.Given as goal

abbrev pub invariant-loop-source : goal.invariant-loop-source
invariant-loop-source l =
    fold_ok (with_source l.files) (modules_view l.all) (map string_bytes (drop l.source-index l.sources)) ≡ modules_of l.files (map string_bytes l.sources)
