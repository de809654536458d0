-- The lists of a module as clauses see them: texts and vectors as lists.
use Rattle.std.specs.Prelude.{ℕ, List, map, String, string_bytes}
use Rattle.std.specs.declared.alloc.Global.{Global}
use Rattle.c25_meaning_objects.specs.Module.{SectionBody, Uninitialised, Initialised, SectionData, SymbolData, Contents}
use Rattle.c25_module.specs.declared.parts.Body.{Body}
use Rattle.c25_module.specs.declared.parts.Body.TheVariants as body
use Rattle.c25_module.specs.declared.parts.Section.{Section}
use Rattle.c25_module.specs.declared.parts.Symbol.{Symbol}
use Rattle.c25_module.specs.declared.parts.Parts.{Parts}

-- the body of a section
abbrev pub body_data : Body → SectionBody
body_data (body.Uninitialised size) = Uninitialised size
body_data (body.Initialised words) = Initialised words.items

-- a section, as the definitions have it
abbrev pub section_data : Section → SectionData
section_data s = record { name = string_bytes s.name; body = body_data s.body }

-- a symbol, as the definitions have it
abbrev pub symbol_data : Symbol → SymbolData
symbol_data y = record { kind = y.kind; scope = y.scope; value = y.value; name = string_bytes y.name }

-- sections, as the definitions have them
abbrev pub sections_data : List Section → List SectionData
sections_data sections = map section_data sections

-- symbols, as the definitions have them
abbrev pub symbols_data : List Symbol → List SymbolData
symbols_data symbols = map symbol_data symbols

-- names of files, one after the other
abbrev pub files_data : List (String Global) → List (List ℕ)
files_data files = map string_bytes files

-- all the lists of a module
abbrev pub contents : Parts → Contents
contents parts = record {
  sections = sections_data parts.sections.items;
  marks = parts.marks.items;
  symbols = symbols_data parts.symbols.items;
  relocations = parts.relocations.items;
  version = parts.version;
  files = files_data parts.files.items;
  lines = parts.lines.items;
  blocks = parts.blocks.items;
}
