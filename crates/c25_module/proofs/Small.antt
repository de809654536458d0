-- Names and sizes of the items of a module.
use Rattle.std.proofs.Common.{◌≡◌, ℕ, ◌<◌, ◌≤◌, true, List, [], ◌∷◌, ◌++◌, length, All, string_bytes}
use Rattle.std.specs.Prelude.{◌^◌, String}
use Rattle.std.specs.declared.alloc.Global.{Global}
use Rattle.std.specs.List.{AllByRecursion}
use Rattle.std.proofs.lemmas.List.Elements.{All-from_recursion}
use Rattle.c25_meaning_objects.specs.declared.object.Version.{Version}
use Rattle.c25_meaning_objects.specs.Module.{SectionData, SymbolData, body_size, each_fits, section_fits, symbol_fits, file_fits}
use Rattle.c25_module.specs.declared.parts.Section.{Section}
use Rattle.c25_module.specs.declared.parts.Symbol.{Symbol}
use Rattle.c25_module.specs.View.{body_data, section_data, symbol_data, sections_data, symbols_data, files_data}
use Rattle.c25_module.proofs.Texts.{both}
use Rattle.c25_module.proofs.Fitting.{section_small, symbol_small, file_short}

sections_each : (before : List SectionData) (ss : List Section) → each_fits section_fits before (sections_data ss) ≡ true → AllByRecursion (λ s. (length (string_bytes s.name) ≤ 32) × (body_size (body_data s.body) ≤ 65536)) ss
sections_each before [] e = tt
sections_each before (s ∷ ss) e =
    let g = both (section_fits before (section_data s)) (each_fits section_fits (before ++ section_data s ∷ []) (sections_data ss)) e in
    let small = section_small before (section_data s) g.0 in
    ((small.1, small.0), sections_each (before ++ section_data s ∷ []) ss g.1)

pub sections_small : (ss : List Section) → each_fits section_fits [] (sections_data ss) ≡ true → All (λ s. (length (string_bytes s.name) ≤ 32) × (body_size (body_data s.body) ≤ 65536)) ss
sections_small ss e = All-from_recursion (λ s. (length (string_bytes s.name) ≤ 32) × (body_size (body_data s.body) ≤ 65536)) ss (sections_each [] ss e)

symbols_each : (version : Version) (sections : List SectionData) (before : List SymbolData) (ys : List Symbol) → each_fits (symbol_fits version sections) before (symbols_data ys) ≡ true → AllByRecursion (λ y. length (string_bytes y.name) ≤ 128) ys
symbols_each version sections before [] e = tt
symbols_each version sections before (y ∷ ys) e =
    let g = both (symbol_fits version sections before (symbol_data y)) (each_fits (symbol_fits version sections) (before ++ symbol_data y ∷ []) (symbols_data ys)) e in
    ((symbol_small version sections before (symbol_data y) g.0).0, symbols_each version sections (before ++ symbol_data y ∷ []) ys g.1)

pub symbols_small : (version : Version) (sections : List SectionData) (ys : List Symbol) → each_fits (symbol_fits version sections) [] (symbols_data ys) ≡ true → All (λ y. length (string_bytes y.name) ≤ 128) ys
symbols_small version sections ys e = All-from_recursion (λ y. length (string_bytes y.name) ≤ 128) ys (symbols_each version sections [] ys e)

files_each : (before : List (List ℕ)) (fs : List (String Global)) → each_fits file_fits before (files_data fs) ≡ true → AllByRecursion (λ f. length (string_bytes f) < 2 ^ 32) fs
files_each before [] e = tt
files_each before (f ∷ fs) e =
    let g = both (file_fits before (string_bytes f)) (each_fits file_fits (before ++ string_bytes f ∷ []) (files_data fs)) e in
    (file_short before (string_bytes f) g.0, files_each (before ++ string_bytes f ∷ []) fs g.1)

pub files_small : (fs : List (String Global)) → each_fits file_fits [] (files_data fs) ≡ true → All (λ f. length (string_bytes f) < 2 ^ 32) fs
files_small fs e = All-from_recursion (λ f. length (string_bytes f) < 2 ^ 32) fs (files_each [] fs e)
