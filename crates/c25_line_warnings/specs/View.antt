-- What the types of this crate stand for.
use Rattle.std.specs.Prelude.{ℕ, List, map}
use Rattle.std.specs.Cow.{cow_str_bytes}
use denote.Ref.{Bor}
use Rattle.c25_module.specs.View.{sections_data}
use Rattle.c25_place.specs.View.{places_view}
use Rattle.c25_line_warnings.specs.Memories as memories
use Rattle.c25_line_warnings.specs.SourceLine as source
use Rattle.c25_line_warnings.specs.declared.memories.Memories.{Memories}
use Rattle.c25_line_warnings.specs.declared.source_line.SourceLine.{SourceLine}
use Rattle.c25_line_warnings.specs.declared.warning_kind.WarningKind.{WarningKind}

-- a line with its words
abbrev pub line_of : SourceLine → source.SourceLine
line_of l = record { file = l.file.now; line = l.line; text = cow_str_bytes l.text; section = l.section; offset = l.offset; count = l.count }

-- lines with their words
abbrev pub lines_of : List SourceLine → List source.SourceLine
lines_of ls = map line_of ls

-- what says in which memory a symbol lies
abbrev pub memories_of : Memories → memories.Memories
memories_of m = record { symbols = m.symbols.now.entries; sections = sections_data m.sections.now; places = places_view m.places.now }

-- a warning with the symbol that it names
abbrev pub pair_of : WarningKind × Bor (List ℕ) → WarningKind × List ℕ
pair_of p = (p.0, p.1.now)
