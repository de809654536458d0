use Rattle.std.proofs.Common.{◌≡◌, map, string_bytes}
use Rattle.c25_report.specs.ProgramFiles.{listing_names}
use Rattle.c25_report.proofs.texts.listing_names.Given as goal

abbrev pub invariant-loop-index : goal.invariant-loop-index
invariant-loop-index l = map string_bytes l.names.items ≡ listing_names l.base l.index
