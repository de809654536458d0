-- Programs of sources on a disk, with the text of their symbols.
use Rattle.std.specs.Prelude.{◌≡◌, ℕ, List, Option, Result, Ok, Err}
use Rattle.std.specs.String.{string_bytes}
use Rattle.c25_chain.specs.Built.{IsBuiltAs, IsUnbuilt}
use Rattle.c25_chain.specs.Linked.{places_of}
use Rattle.c25_chain.specs.Refusal.{Fault, refusal_of}
use Rattle.c25_disk.specs.Held.{Held}
use Rattle.c25_meaning_common.specs.declared.failure.Failure.TheVariants as failure
use Rattle.c25_meaning_expansion.specs.Files.{Files}
use Rattle.c25_meaning_linking.specs.GoodMap.{ranges_for}
use Rattle.c25_symbols.specs.Text.{symbols_text}
use Rattle.c25_inputs.specs.Files.{AfterOptional, AfterSources, ComesTo, SourceNames, assembled_in}
use Rattle.c25_tasks.specs.declared.symbols.BuiltWithSymbols.{BuiltWithSymbols}

-- a built program with the text of the symbols of its modules, which are named so, at the places of its map and in
-- the ranges of its command
pub record IsBuiltWithSymbols (files : Files) (sources shown : List (List ℕ)) (command : List ℕ) (b : BuiltWithSymbols) : Type 0 where
  pub built : IsBuiltAs files sources command b.built
  pub symbols_are : string_bytes b.symbols ≡ symbols_text built.all.modules shown (places_of b.built.linked.image.described) (ranges_for built.linked.under.command)

-- a built program with its symbols, or the first fault, unless memory ran out
abbrev pub BuildsWithSymbols : Files → (sources shown : List (List ℕ)) → List ℕ → Result BuiltWithSymbols Fault → Type 0
BuildsWithSymbols files sources shown command (Ok b) = IsBuiltWithSymbols files sources shown command b
BuildsWithSymbols files sources shown command (Err (failure.NoMemory n)) = Unit {0}
BuildsWithSymbols files sources shown command (Err (failure.Fault f)) = IsUnbuilt files sources command (refusal_of f)

-- a built program with its symbols, of the named sources among given files and those that they copy
abbrev pub BuildsWithSymbolsOver : Held → Files → (names shown : List (List ℕ)) → List ℕ → Result BuiltWithSymbols Fault → Type 0
BuildsWithSymbolsOver held given names shown command answer = ComesTo held given (λ files result. BuildsWithSymbols files names shown command result) answer

-- a built program with its symbols, of files on a disk, its modules named as the sources: these are read first, and
-- then the command file, where one is named
abbrev pub BuildsWithSymbolsFrom : Held → SourceNames → Option (List ℕ) → Result BuiltWithSymbols Fault → Type 0
BuildsWithSymbolsFrom held sources command answer =
    AfterSources held sources (λ given. AfterOptional held command (BuildsWithSymbolsOver held given (assembled_in sources) sources.names)) answer
