-- What modules are linked to under a command: a program, or the first fault (SPRU018, linker description;
-- which fault is reported first is this project's own: 71, 70 and 76 over all modules, then 72, 73, 74 and 78
-- section by section as they are placed, then 75).
use Rattle.std.specs.Prelude.{◌≡◌, ◌==◌, ℕ, List, [], ◌∷◌, map, find, filter, ℤ, Bool, false, not, Option, Some, None, is_none, Result, Ok, Err, if◌then◌else◌, ◌⊎◌, ◌↔◌, true}
use Rattle.std.specs.Option.{option_map}
use Rattle.std.specs.List.Sorted.{IsPermutation}
use Rattle.std.specs.Fmt.{decimal}
use Rattle.std.specs.Ordering.{nat_cmp}
use Rattle.std.specs.FinMap as finite
use Rattle.c25_bits.specs.Cut.{cut}
use Rattle.c25_meaning_linking.specs.Command.{CommandData}
use Rattle.c25_meaning_common.specs.Fields.{takes}
use Rattle.c25_meaning_linking.specs.GoodMap.{is_among, IsGoodMap, IsUnplaced, ranges_for, placings_for, requests}
use Rattle.c25_meaning_linking.specs.MapText.{MapData, PartData, SectionPlace, NamedValue}
use Rattle.c25_meaning_image.specs.Marks.{fit_from, run_fit}
use Rattle.c25_meaning_objects.specs.Module.{SectionData, Contents, body_size}
use Rattle.c25_meaning_linking.specs.Place.{Place, by_modules, is_section_named, part_base}
use Rattle.c25_meaning_common.specs.Results.{◌>>=◌}
use Rattle.c25_meaning_linking.specs.Words.{Definition, symbol_name, section_name, definitions, definition_of, definition_value, name_value, relocated_value, HasWord, program_marks, program_run_marks, LineData, program_lines}
use Rattle.c25_meaning_linking.specs.declared.link_fault.LinkFault.{LinkFault}
use Rattle.c25_meaning_linking.specs.declared.link_fault.LinkFault.TheVariants.{Unresolved, DefinedTwice, RelocRange, NoEntry}
use Rattle.c25_meaning_common.specs.declared.placed.Placed.{Placed}
use Rattle.c25_meaning_image.specs.declared.mark.Mark.{Mark}
use Rattle.c25_meaning_image.specs.declared.mark.RunMark.{RunMark}
use Rattle.c25_meaning_objects.specs.declared.object.RelocationBase.{RelocationBase}
use Rattle.c25_meaning_objects.specs.declared.object.RelocationBase.TheVariants as base
use Rattle.c25_meaning_objects.specs.declared.object.Relocation.{Relocation}

-- ---- the names of symbols: 71, 70 and 76

-- the first name that is also among the names before it
abbrev pub first_again : List (List ℕ) → List (List ℕ) → Option (List ℕ)
first_again before [] = None
first_again before (name ∷ names) = if is_among name before then Some name else first_again (name ∷ before) names

-- the names of the global symbols that modules define, by modules and symbols
abbrev pub defined_names : List Contents → List (List ℕ)
defined_names modules = map (λ d. d.symbol.name) (definitions modules)

-- a relocation, with its module and the module's number
pub record Use : Type 0 where
  pub number : ℕ
  pub owner : Contents
  pub relocation : Relocation

-- a relocation of a module
abbrev pub use_of : ℕ → Contents → Relocation → Use
use_of number m r = record { number = number; owner = m; relocation = r }

-- the relocations of one module
abbrev pub module_uses : ℕ → Contents → List Use
module_uses number m = map (use_of number m) m.relocations

-- the relocations of all modules, by modules and relocations
abbrev pub uses : List Contents → List Use
uses modules = by_modules module_uses 0 modules

-- whether no definition has this name
abbrev pub is_missing : List Definition → List ℕ → Bool
is_missing ds name = is_none (definition_of name ds)

-- whether a base is an external symbol that no module defines
abbrev pub missing_base : List Definition → Contents → RelocationBase → Bool
missing_base ds m (base.Section index) = false
missing_base ds m (base.Loaded index) = false
missing_base ds m (base.External index) = is_missing ds (symbol_name m index)

-- whether a relocation counts from an external symbol that no module defines
abbrev pub is_unresolved : List Definition → Use → Bool
is_unresolved ds u = missing_base ds u.owner u.relocation.base

-- the name of the section or symbol that a relocation counts from
abbrev pub base_name : Contents → RelocationBase → List ℕ
base_name m (base.Section index) = section_name m index
base_name m (base.Loaded index) = section_name m index
base_name m (base.External index) = symbol_name m index

-- the first name that a relocation counts from and that no module defines
abbrev pub first_unresolved : List Contents → Option (List ℕ)
first_unresolved modules = option_map (λ u. base_name u.owner u.relocation.base) (find (is_unresolved (definitions modules)) (uses modules))

-- the entry's name, if no module defines it
abbrev pub missing_entry : List Definition → Option (List ℕ) → Option (List ℕ)
missing_entry ds None = None
missing_entry ds (Some name) = if is_missing ds name then Some name else None

-- this fault at the name, if there is a name
abbrev pub refused_with : LinkFault → Option (List ℕ) → Result (Unit {0}) (Placed (List ℕ) LinkFault)
refused_with fault None = Ok tt
refused_with fault (Some name) = Err (record { place = name; fault = fault })

-- the first fault of the names of symbols, if there is one
abbrev pub names_checked : List Contents → Option (List ℕ) → Result (Unit {0}) (Placed (List ℕ) LinkFault)
names_checked modules entry =
    refused_with DefinedTwice (first_again [] (defined_names modules)) >>= λ _.
    refused_with Unresolved (first_unresolved modules) >>= λ _.
    refused_with NoEntry (missing_entry (definitions modules) entry)

-- ---- the values of relocated fields: 75

-- whether the field of a relocation does not take its value
abbrev pub spills : List Contents → List Place → Use → Bool
spills modules places u = not (takes u.relocation.kind (relocated_value modules places u.number u.owner u.relocation))

-- the section of the first relocation whose field does not take its value
abbrev pub first_spilled : List Contents → List Place → Option (List ℕ)
first_spilled modules places = option_map (λ u. section_name u.owner u.relocation.section) (find (spills modules places) (uses modules))

-- ---- the map

-- the part that a module adds to a section of the program
abbrev pub section_part : List Contents → List Place → ℕ → SectionData → PartData
section_part modules places number s = record { number = decimal number; base = part_base modules places number s.name; size = body_size s.body }

-- the part that a module adds to the section of this name, if it has that section
abbrev pub section_parts : List Contents → List Place → List ℕ → ℕ → Contents → List PartData
section_parts modules places name number m = map (section_part modules places number) (filter (is_section_named name) m.sections)

-- a section with its parts, by modules
abbrev pub section_place : List Contents → List Place → Place → SectionPlace
section_place modules places place = record { place = place; parts = by_modules (section_parts modules places place.name) 0 modules }

-- a name with the low 32 bits of a value
abbrev pub named_value : List ℕ → ℤ → NamedValue
named_value name z = record { name = name; value = cut z 32 }

-- a defined global symbol and its value
abbrev pub symbol_value : List Contents → List Place → Definition → NamedValue
symbol_value modules places d = named_value d.symbol.name (definition_value modules places d)

-- the entry and its value
abbrev pub entry_value : List Contents → List Place → List ℕ → NamedValue
entry_value modules places name = named_value name (name_value modules places name)

-- the map of modules whose sections are at these places
abbrev pub map_of : List Contents → Option (List ℕ) → List Place → MapData
map_of modules entry places = record {
  sections = map (section_place modules places) places;
  symbols = map (symbol_value modules places) (definitions modules);
  entry = option_map (entry_value modules places) entry;
}

-- ---- linking

-- a program: the words of both pages, the marks of the instructions on page 0 that run where they are loaded
-- and of those that run elsewhere, the instructions that have a line of a file, and the map
pub record ImageData : Type 0 where
  pub program : finite.FinMap nat_cmp ℕ
  pub store : finite.FinMap nat_cmp ℕ
  pub marks : List Mark
  pub run_marks : List RunMark
  pub lines : List LineData
  pub described : MapData

-- a page has exactly the words that the modules give it
abbrev pub HasWords : List Contents → List Place → ℕ → finite.FinMap nat_cmp ℕ → Type 0
HasWords modules places page words = (address word : ℕ) → (finite.get words address ≡ Some word) ↔ HasWord modules places page address word

-- the marks are those of the instructions on page 0 that run where they are loaded, in ascending order
pub record HasMarks (modules : List Contents) (places : List Place) (marks : List Mark) : Type 0 where
  pub same : IsPermutation (program_marks modules places) marks
  pub ascend : fit_from 0 marks ≡ true

-- the run marks are those of the instructions on page 0 that run elsewhere, in the order in which they run
pub record HasRunMarks (modules : List Contents) (places : List Place) (marks : List Mark) (run_marks : List RunMark) : Type 0 where
  pub same : IsPermutation (program_run_marks modules places) run_marks
  pub fit : run_fit marks run_marks ≡ true

-- the lines are those of the instructions on page 0 that have one, in ascending order
pub record HasLines (modules : List Contents) (places : List Place) (lines : List LineData) : Type 0 where
  pub same : IsPermutation (program_lines modules places) lines
  pub ascend : fit_from 0 (map (λ l. l.mark) lines) ≡ true

-- the file and the line of the instruction that is loaded at an address, if it has one
abbrev pub line_at : ℕ → List LineData → Option (List ℕ × ℕ)
line_at address lines = option_map (λ l. (l.file, l.line)) (find (λ l. l.mark.address == address) lines)

-- modules under a command are linked to this program
pub record IsProgram (modules : List Contents) (command : CommandData) (image : ImageData) : Type 0 where
  pub places : List Place
  pub names : names_checked modules command.entry ≡ Ok tt
  pub good : IsGoodMap modules command places
  pub fields : first_spilled modules places ≡ None
  pub program : HasWords modules places 0 image.program
  pub store : HasWords modules places 1 image.store
  pub marks : HasMarks modules places image.marks
  pub run_marks : HasRunMarks modules places image.marks image.run_marks
  pub lines : HasLines modules places image.lines
  pub described : image.described ≡ map_of modules command.entry places

-- names are in order, and this is the first section that cannot be placed
pub record IsRefusedPlace (modules : List Contents) (command : CommandData) (refusal : Placed (List ℕ) LinkFault) : Type 0 where
  pub names : names_checked modules command.entry ≡ Ok tt
  pub unplaced : IsUnplaced (ranges_for command) (requests modules (placings_for command)) refusal

-- names and places are in order, and this is the first field that does not take its value
pub record IsRefusedField (modules : List Contents) (command : CommandData) (refusal : Placed (List ℕ) LinkFault) : Type 0 where
  pub places : List Place
  pub names : names_checked modules command.entry ≡ Ok tt
  pub good : IsGoodMap modules command places
  pub spilled : refused_with RelocRange (first_spilled modules places) ≡ Err refusal

-- this is the first fault of modules under a command
abbrev pub IsRefusal : List Contents → CommandData → Placed (List ℕ) LinkFault → Type 0
IsRefusal modules command refusal =
    (names_checked modules command.entry ≡ Err refusal) ⊎ (IsRefusedPlace modules command refusal ⊎ IsRefusedField modules command refusal)
