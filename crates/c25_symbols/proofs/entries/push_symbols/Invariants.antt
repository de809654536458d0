-- the symbols so far that the module defines are after those that were there
use Rattle.std.proofs.Common.{◌≡◌, ℕ, ◌++◌, List, filter, map, take}
use Rattle.c25_meaning_linking.specs.Words.{is_defined}
use Rattle.c25_meaning_objects.specs.Module.{Contents}
use Rattle.c25_meaning_linking.specs.Place.{Place, all_sections}
use Rattle.c25_module.specs.View.{contents, symbols_data}
use Rattle.c25_symbols.specs.Parts.{KnowsNext}
use Rattle.c25_symbols.specs.Symbols.{listed, source_of}
use Rattle.c25_symbols.specs.View.{entries_view}
use Rattle.c25_symbols.proofs.entries.push_symbols.Given as goal

abbrev pub invariant-loop-symbol : goal.invariant-loop-symbol
invariant-loop-symbol l = (modules : List Contents) (sources : List (List ℕ)) (places : List Place) (number : ℕ) → KnowsNext l.next places (all_sections (take number modules)) → l.source ≡ source_of sources number
    → entries_view l.entries.items
    ≡ entries_view l.fn.entries.items ++ map (listed modules sources places number (contents l.owner)) (filter (λ y. is_defined y.kind) (symbols_data (take l.symbol-index l.owner.symbols.items)))
