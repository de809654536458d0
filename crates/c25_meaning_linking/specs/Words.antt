-- The words of a program, from its modules: the words of initialised sections at their addresses, where each
-- relocated field holds the address or value that it counts from, plus the addend (SPRU018, linker
-- description, relocation and symbols).
use Rattle.std.specs.Prelude.{◌≡◌, ℕ, ◌+◌, ◌==◌, ℤ, pos, ◌+ℤ◌, Bool, true, false, not, ◌&&◌, List, [], Option, Some, None, find, filter, map, unwrap_or}
use Rattle.std.specs.Option.{option_map_or}
use Rattle.std.specs.List.{slice_get, zip}
use Rattle.std.specs.Str.{bytes_eq}
use Rattle.c25_meaning_objects.specs.Module.{SectionData, SymbolData, Contents, is_global, body_words}
use Rattle.c25_meaning_common.specs.Fields.{filled, field_number}
use Rattle.c25_meaning_linking.specs.Place.{Place, by_modules, part_base, part_run, page_of, runs_elsewhere, IsPart}
use Rattle.c25_meaning_image.specs.declared.mark.Mark.{Mark}
use Rattle.c25_meaning_image.specs.declared.mark.RunMark.{RunMark}
use Rattle.c25_meaning_objects.specs.declared.object.LineMark.{LineMark}
use Rattle.c25_meaning_objects.specs.declared.object.ModuleMark.{ModuleMark}
use Rattle.c25_meaning_objects.specs.declared.object.SymbolKind.{SymbolKind}
use Rattle.c25_meaning_objects.specs.declared.object.SymbolKind.TheVariants as kind
use Rattle.c25_meaning_objects.specs.declared.object.RelocationBase.{RelocationBase}
use Rattle.c25_meaning_objects.specs.declared.object.RelocationBase.TheVariants as base
use Rattle.c25_meaning_objects.specs.declared.object.Relocation.{Relocation}

-- ---- names

-- the name of a module's section, by its number; empty where there is no such section
abbrev pub section_name : Contents → ℕ → List ℕ
section_name m index = option_map_or (λ s. s.name) (slice_get m.sections index) []

-- the name of a module's symbol, by its number; empty where there is no such symbol
abbrev pub symbol_name : Contents → ℕ → List ℕ
symbol_name m index = option_map_or (λ y. y.name) (slice_get m.symbols index) []

-- ---- where the sections of a module are

-- the address where the part of a module's section is loaded, by the section's number; 0 where there is no
-- such section
abbrev pub section_base : List Contents → List Place → ℕ → Contents → ℕ → ℕ
section_base modules places number m index = option_map_or (λ s. part_base modules places number s.name) (slice_get m.sections index) 0

-- the address where the part of a module's section runs, by the section's number; 0 where there is no such
-- section
abbrev pub section_run : List Contents → List Place → ℕ → Contents → ℕ → ℕ
section_run modules places number m index = option_map_or (λ s. part_run modules places number s.name) (slice_get m.sections index) 0

-- whether a module's section has a run address, by the section's number
abbrev pub section_runs_elsewhere : List Place → Contents → ℕ → Bool
section_runs_elsewhere places m index = option_map_or (λ s. runs_elsewhere s.name places) (slice_get m.sections index) false

-- the page of a module's section, by the section's number
abbrev pub section_page : List Place → Contents → ℕ → ℕ
section_page places m index = option_map_or (λ s. page_of s.name places) (slice_get m.sections index) 0

-- ---- the values of symbols

-- whether a symbol of this kind is defined in its module
abbrev pub is_defined : SymbolKind → Bool
is_defined kind.External = false
is_defined _ = true

-- whether a symbol is global and defined in its module
abbrev pub is_definition : SymbolData → Bool
is_definition y = is_global y.scope && is_defined y.kind

-- a defined global symbol, with its module and the module's number
pub record Definition : Type 0 where
  pub number : ℕ
  pub owner : Contents
  pub symbol : SymbolData

-- a symbol with its module and the module's number
abbrev pub definition : ℕ → Contents → SymbolData → Definition
definition number m y = record { number = number; owner = m; symbol = y }

-- the defined global symbols of one module
abbrev pub module_definitions : ℕ → Contents → List Definition
module_definitions number m = map (definition number m) (filter is_definition m.symbols)

-- the defined global symbols of all modules, by modules and symbols
abbrev pub definitions : List Contents → List Definition
definitions modules = by_modules module_definitions 0 modules

-- the first definition of this name
abbrev pub definition_of : List ℕ → List Definition → Option Definition
definition_of name ds = find (λ d. bytes_eq name d.symbol.name) ds

-- the value of a symbol of a module: a number, or an offset plus the address where its section's part runs or
-- is loaded; 0 for an external symbol
abbrev pub kind_value : List Contents → List Place → ℕ → Contents → SymbolKind → ℤ → ℤ
kind_value modules places number m kind.Absolute z = z
kind_value modules places number m (kind.InSection index) z = pos (section_run modules places number m index) +ℤ z
kind_value modules places number m (kind.Loaded index) z = pos (section_base modules places number m index) +ℤ z
kind_value modules places number m kind.External z = pos 0

-- the value of a definition
abbrev pub definition_value : List Contents → List Place → Definition → ℤ
definition_value modules places d = kind_value modules places d.number d.owner d.symbol.kind d.symbol.value

-- the value of a global name; 0 where no module defines it
abbrev pub name_value : List Contents → List Place → List ℕ → ℤ
name_value modules places name = option_map_or (definition_value modules places) (definition_of name (definitions modules)) (pos 0)

-- ---- relocated words

-- the address or value that a relocation counts from
abbrev pub base_value : List Contents → List Place → ℕ → Contents → RelocationBase → ℤ
base_value modules places number m (base.Section index) = pos (section_run modules places number m index)
base_value modules places number m (base.Loaded index) = pos (section_base modules places number m index)
base_value modules places number m (base.External index) = name_value modules places (symbol_name m index)

-- the value that a field is filled with
abbrev pub relocated_value : List Contents → List Place → ℕ → Contents → Relocation → ℤ
relocated_value modules places number m r = base_value modules places number m r.base +ℤ r.addend

-- whether a relocation concerns the word at this offset of this section
abbrev pub is_relocation_at : ℕ → ℕ → Relocation → Bool
is_relocation_at section offset r = r.section == section && r.offset == offset

-- the relocation of a word of a module, if it has one
abbrev pub relocation_at : Contents → ℕ → ℕ → Option Relocation
relocation_at m section offset = find (is_relocation_at section offset) m.relocations

-- a word with its relocated field filled, if it has one
abbrev pub relocated : List Contents → List Place → ℕ → Contents → Option Relocation → ℕ → ℕ
relocated modules places number m None word = word
relocated modules places number m (Some r) word = filled r.kind (field_number r.kind (relocated_value modules places number m r)) word

-- a word of a module as the program has it
abbrev pub linked_word : List Contents → List Place → ℕ → Contents → ℕ → ℕ → ℕ → ℕ
linked_word modules places number m section offset word = relocated modules places number m (relocation_at m section offset) word

-- the program has this word at this address of this page: it is a word of an initialised section of a module,
-- linked
pub record HasWord (modules : List Contents) (places : List Place) (page address word : ℕ) : Type 0 where
  pub number : ℕ
  pub index : ℕ
  pub owner : Contents
  pub section : SectionData
  pub offset : ℕ
  pub before : ℕ
  pub part : IsPart modules number index owner section
  pub word_is : slice_get (body_words section.body) offset ≡ Some before
  pub page_is : page ≡ page_of section.name places
  pub address_is : address ≡ part_base modules places number section.name + offset
  pub linked : word ≡ linked_word modules places number owner index offset before

-- ---- marks

-- the mark of an instruction at the address where it is loaded
abbrev pub placed_mark : List Contents → List Place → ℕ → Contents → ModuleMark → Mark
placed_mark modules places number m mark = record { address = section_base modules places number m mark.section + mark.offset; size = mark.size }

-- whether an instruction is loaded on page 0, by its mark
abbrev pub is_on_program : List Place → Contents → ModuleMark → Bool
is_on_program places m mark = section_page places m mark.section == 0

-- whether an instruction is loaded on page 0, in a section with a run address
abbrev pub is_copied : List Place → Contents → ModuleMark → Bool
is_copied places m mark = is_on_program places m mark && section_runs_elsewhere places m mark.section

-- whether an instruction is loaded on page 0, in a section without a run address, and so runs there
abbrev pub is_run_in_place : List Place → Contents → ModuleMark → Bool
is_run_in_place places m mark = is_on_program places m mark && not (section_runs_elsewhere places m mark.section)

-- the marks of a module's instructions on page 0 that run where they are loaded
abbrev pub module_marks : List Contents → List Place → ℕ → Contents → List Mark
module_marks modules places number m = map (placed_mark modules places number m) (filter (is_run_in_place places m) m.marks)

-- the mark of an instruction that runs elsewhere than it is loaded
abbrev pub placed_run_mark : List Contents → List Place → ℕ → Contents → ModuleMark → RunMark
placed_run_mark modules places number m mark = record {
  load = section_base modules places number m mark.section + mark.offset;
  run = section_run modules places number m mark.section + mark.offset;
  size = mark.size;
}

-- the run marks of a module's instructions on page 0 that run elsewhere than they are loaded
abbrev pub module_run_marks : List Contents → List Place → ℕ → Contents → List RunMark
module_run_marks modules places number m = map (placed_run_mark modules places number m) (filter (is_copied places m) m.marks)

-- the run marks of the instructions on page 0 that run elsewhere than they are loaded, by modules and marks
abbrev pub program_run_marks : List Contents → List Place → List RunMark
program_run_marks modules places = by_modules (module_run_marks modules places) 0 modules

-- the marks of the instructions on page 0 that run where they are loaded, by modules and marks
abbrev pub program_marks : List Contents → List Place → List Mark
program_marks modules places = by_modules (module_marks modules places) 0 modules

-- ---- lines

-- an instruction of a program, where it is loaded, with the line of a file that it comes from
pub record LineData : Type 0 where
  pub mark : Mark
  pub file : List ℕ
  pub line : ℕ

-- the name of a module's file, by its number; empty where there is no such file
abbrev pub file_name : Contents → ℕ → List ℕ
file_name m index = unwrap_or (slice_get m.files index) []

-- a mark of a module with its line, at the address where the instruction is loaded
abbrev pub placed_line : List Contents → List Place → ℕ → Contents → ModuleMark × LineMark → LineData
placed_line modules places number m told = record { mark = placed_mark modules places number m told.0; file = file_name m told.1.file; line = told.1.line }

-- whether an instruction with a line is loaded on page 0
abbrev pub is_line_on_program : List Place → Contents → ModuleMark × LineMark → Bool
is_line_on_program places m told = is_on_program places m told.0

-- the instructions of a module on page 0, each with its line; none where the module has no lines
abbrev pub module_lines : List Contents → List Place → ℕ → Contents → List LineData
module_lines modules places number m = map (placed_line modules places number m) (filter (is_line_on_program places m) (zip m.marks m.lines))

-- the instructions on page 0 that have a line, by modules and marks
abbrev pub program_lines : List Contents → List Place → List LineData
program_lines modules places = by_modules (module_lines modules places) 0 modules
