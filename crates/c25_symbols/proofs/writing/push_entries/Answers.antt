use Rattle.std.proofs.Common.{◌++◌, List, ap, ◌∙◌, string_bytes}
use Rattle.std.specs.List.{flat_map}
use Rattle.std.proofs.lemmas.List.{take_all}
use Rattle.c25_symbols.specs.Text.{symbol_line}
use Rattle.c25_symbols.specs.View.{entries_view}
use Rattle.c25_symbols.specs.declared.entries.SymbolEntry.{SymbolEntry}
use Rattle.c25_symbols.proofs.writing.push_entries.Goals as goal

pub returns : goal.returns
returns c =
    c.loop-entry.invariant
    ∙ ap (λ (es : List SymbolEntry). string_bytes c.args.out.now ++ flat_map symbol_line (entries_view es)) (take_all c.loop-entry.entry-index c.args.entries.now c.loop-entry-test.false)
