-- Where modules use a name, and where they define it.
use Rattle.std.specs.Prelude.{◌==◌, ◌&&◌, ℕ, ℤ, pos, Bool, false, not, List, map, filter, find, Option, None}
use Rattle.std.specs.List.{zip}
use Rattle.std.specs.Option.{option_map}
use Rattle.std.specs.Ordering.{int_eq}
use Rattle.std.specs.Str.{bytes_eq}
use Rattle.c25_link.specs.Misfits.{has_word, line_in, line_of}
use Rattle.c25_meaning_linking.specs.Linking.{Use, uses}
use Rattle.c25_meaning_linking.specs.Place.{by_modules}
use Rattle.c25_meaning_linking.specs.Words.{Definition, definition, definitions, is_defined, symbol_name}
use Rattle.c25_meaning_objects.specs.Module.{Contents, SymbolData, is_global}
use Rattle.c25_meaning_objects.specs.declared.object.ModuleMark.{ModuleMark}
use Rattle.c25_meaning_objects.specs.declared.object.RelocationBase.{RelocationBase}
use Rattle.c25_meaning_objects.specs.declared.object.RelocationBase.TheVariants as base
use Rattle.c25_meaning_objects.specs.declared.object.SymbolKind.{SymbolKind}
use Rattle.c25_meaning_objects.specs.declared.object.SymbolKind.TheVariants as kind
use Rattle.c25_link_faults.specs.declared.lines.Wanted.{Wanted}
use Rattle.c25_link_faults.specs.declared.lines.Wanted.TheVariants as wanted
use Rattle.c25_link_faults.specs.declared.sites.Site.{Site}

-- a place in a module: the module's number, counted from 0, and the line of the instruction there, where it is
-- known
pub record SiteData : Type 0 where
  pub number : ℕ
  pub line : Option (List ℕ × ℕ)

-- ---- lines

-- the instruction that has the word of a relocation, or the one that stands in a section at an offset
abbrev pub is_wanted : Wanted → ModuleMark → Bool
is_wanted (wanted.WordOf relocation) mark = has_word relocation mark
is_wanted (wanted.At section offset) mark = mark.section == section && int_eq (pos mark.offset) offset

-- the line of that instruction, where there is one that has a line
abbrev pub wanted_line : Contents → Wanted → Option (List ℕ × ℕ)
wanted_line m w = option_map (λ told. line_in m told.1) (find (λ told. is_wanted w told.0) (zip m.marks m.lines))

-- ---- uses

-- whether a base is the external symbol of a name
abbrev pub is_base : List ℕ → Contents → RelocationBase → Bool
is_base name m (base.Section index) = false
is_base name m (base.Loaded index) = false
is_base name m (base.External index) = bytes_eq name (symbol_name m index)

-- whether a relocation counts from the external symbol of a name
abbrev pub is_use : List ℕ → Use → Bool
is_use name u = is_base name u.owner u.relocation.base

-- the place of a relocation
abbrev pub use_site : Use → SiteData
use_site u = record { number = u.number; line = wanted_line u.owner (wanted.WordOf u.relocation) }

-- where modules use a name that they do not define, by modules and relocations
abbrev pub use_sites : List Contents → List ℕ → List SiteData
use_sites modules name = map use_site (filter (is_use name) (uses modules))

-- ---- definitions

-- the line of the instruction at a symbol, where it is the place of one
abbrev pub symbol_line : Contents → SymbolKind → ℤ → Option (List ℕ × ℕ)
symbol_line m kind.Absolute value = None
symbol_line m (kind.InSection index) value = wanted_line m (wanted.At index value)
symbol_line m (kind.Loaded index) value = wanted_line m (wanted.At index value)
symbol_line m kind.External value = None

-- the place of a symbol
abbrev pub symbol_site : Definition → SiteData
symbol_site d = record { number = d.number; line = symbol_line d.owner d.symbol.kind d.symbol.value }

-- whether a definition is that of a name
abbrev pub is_definition_of : List ℕ → Definition → Bool
is_definition_of name d = bytes_eq name d.symbol.name

-- where modules define a name for all modules
abbrev pub definition_sites : List Contents → List ℕ → List SiteData
definition_sites modules name = map symbol_site (filter (is_definition_of name) (definitions modules))

-- whether a symbol is defined in its module, and for that module alone
abbrev pub is_local : SymbolData → Bool
is_local y = not (is_global y.scope) && is_defined y.kind

-- the symbols that a module defines for itself alone
abbrev pub module_locals : ℕ → Contents → List Definition
module_locals number m = map (definition number m) (filter is_local m.symbols)

-- where modules define a name each for itself
abbrev pub local_sites : List Contents → List ℕ → List SiteData
local_sites modules name = map symbol_site (filter (is_definition_of name) (by_modules module_locals 0 modules))

-- ---- how the code has it

-- a place, as clauses see it
abbrev pub site_data : Site → SiteData
site_data s = record { number = s.number; line = option_map line_of s.line }

-- places, as clauses see them
abbrev pub sites_data : List Site → List SiteData
sites_data sites = map site_data sites
