-- the lines so far are appended
use Rattle.std.proofs.Common.{◌≡◌, ◌++◌, take, string_bytes}
use Rattle.std.specs.List.{flat_map}
use Rattle.c25_symbols.specs.Text.{symbol_line}
use Rattle.c25_symbols.specs.View.{entries_view}
use Rattle.c25_symbols.proofs.writing.push_entries.Given as goal

abbrev pub invariant-loop-entry : goal.invariant-loop-entry
invariant-loop-entry l = string_bytes l.out ≡ string_bytes l.fn.out ++ flat_map symbol_line (entries_view (take l.entry-index l.entries))
