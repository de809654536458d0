-- Programs with their symbols, over files that were read from a disk.
use Rattle.std.proofs.Common.{◌≡◌, refl, sym, subst, ℕ, List, string_bytes}
use Rattle.std.specs.Prelude.{Result, Ok, Err, String}
use Rattle.std.specs.declared.alloc.Global.{Global}
use Rattle.c25_chain.specs.Linked.{IsLinked, places_of}
use Rattle.c25_chain.specs.Modules.{modules_of}
use Rattle.c25_chain.specs.Refusal.{Fault}
use Rattle.c25_chain.specs.View.{modules_view}
use Rattle.c25_chain.specs.declared.linked.Linked.{Linked}
use Rattle.c25_chain.specs.declared.modules.Modules.{Modules}
use Rattle.c25_disk.specs.Held.{Held}
use Rattle.c25_meaning_common.specs.Results.{IsNoMemory}
use Rattle.c25_meaning_expansion.specs.Files.{Files}
use Rattle.c25_meaning_objects.specs.Module.{Contents}
use Rattle.c25_meaning_linking.specs.GoodMap.{ranges_for}
use Rattle.c25_symbols.specs.Text.{symbols_text}
use Rattle.c25_tasks.specs.Symbols.{BuildsWithSymbols, BuildsWithSymbolsOver, IsBuiltWithSymbols}
use Rattle.c25_tasks.specs.declared.symbols.BuiltWithSymbols.{BuiltWithSymbols}
use Rattle.c25_inputs.proofs.Fails.{over_short}

-- ---- what was built

pub with_symbols : (files : Files) (sources names : List (List ℕ)) (command : List ℕ) (m : Modules) (linked : Linked) (symbols : String Global) (shown : List Contents) → modules_of files sources ≡ Ok (modules_view m) → shown ≡ m.modules.items
    → (l : IsLinked shown command linked) → string_bytes symbols ≡ symbols_text shown names (places_of linked.image.described) (ranges_for l.under.command)
    → IsBuiltWithSymbols files sources names command (record { built = record { linked = linked; listings = m.listings }; symbols = symbols })
with_symbols files sources names command m linked symbols shown assembled is = subst With (sym is) (λ l text. record {
  built = record { all = modules_view m; assembled = assembled; listings_are = refl; linked = l };
  symbols_are = text;
})
  where
    With : List Contents → Type 0
    With ms = (l : IsLinked ms command linked) → string_bytes symbols ≡ symbols_text ms names (places_of linked.image.described) (ranges_for l.under.command)
        → IsBuiltWithSymbols files sources names command (record { built = record { linked = linked; listings = m.listings }; symbols = symbols })

-- ---- over a disk

pub over_same : (held : Held) (given : Files) (names sources shown modules : List (List ℕ)) (command seen : List ℕ) (answer : Result BuiltWithSymbols Fault) → sources ≡ names → modules ≡ shown → seen ≡ command → BuildsWithSymbolsOver held given sources modules seen answer
    → BuildsWithSymbolsOver held given names shown command answer
over_same held given names sources shown modules command seen answer named of_shown same comes =
    let with_names = subst (λ (ns : List (List ℕ)). BuildsWithSymbolsOver held given ns modules seen answer) named comes in
    let with_shown = subst (λ (ns : List (List ℕ)). BuildsWithSymbolsOver held given names ns seen answer) of_shown with_names in
    subst (λ (t : List ℕ). BuildsWithSymbolsOver held given names shown t answer) same with_shown

pub over_told : (held : Held) (given : Files) (names shown : List (List ℕ)) (command : List ℕ) (fault : Fault) → IsNoMemory fault → BuildsWithSymbolsOver held given names shown command (Err fault)
over_told held given names shown command fault short = over_short held given (λ files result. BuildsWithSymbols files names shown command result) fault short
