-- What the types of both phases stand for.
use Rattle.std.specs.Prelude.{map}
use Rattle.std.specs.String.{string_bytes}
use Rattle.c25_statements.specs.Exprs.{exprs_in}
use Rattle.c25_statements.specs.View.{trees_of}
use Rattle.c25_meaning_language.specs.ExpansionFault as answer
use Rattle.c25_meaning_assembly.specs.Sections as sections
use Rattle.c25_meaning_language.specs.Value.{Table}
use Rattle.c25_phases.specs.Names.{bytes_of_names}
use Rattle.c25_phases.specs.Origins.{origin_of}
use Rattle.c25_phases.specs.declared.fault.AsmFault.{AsmFault}
use Rattle.c25_phases.specs.declared.fault.AsmFault.TheVariants as fault
use Rattle.c25_phases.specs.declared.item.Content.{Content}
use Rattle.c25_phases.specs.declared.item.Content.TheVariants as content
use Rattle.c25_phases.specs.declared.item.PendingItem.{PendingItem}
use Rattle.c25_phases.specs.declared.progress.Progress.{Progress}

-- the content of an item
abbrev pub content_of : Content → sections.Content
content_of (content.Operands target operands) = sections.Operands target (trees_of (exprs_in operands))
content_of (content.Words words) = sections.Words words.items
content_of (content.Zeros count) = sections.Zeros count
content_of (content.Exported names) = sections.Exported (bytes_of_names names.items)

-- an item: its content, its line, and where it begins
abbrev pub item_of : PendingItem → sections.PendingItem
item_of i = record { origin = origin_of i.origin; section = i.section; offset = i.offset; content = content_of i.content }

-- what the lines so far have made
abbrev pub progress_of : Progress → sections.Progress
progress_of p = record {
  sections = p.sections;
  current = p.current;
  names = p.symbols.entries;
  declared = p.declared;
  exported = p.exported;
  registers = p.registers;
  items = map item_of p.items.items;
  files = p.files;
}

-- the values of names so far, and of `$`
abbrev pub symbols_of : Progress → Table
symbols_of p = p.symbols

-- why a source has no module
abbrev pub fault_of : AsmFault → answer.ExpansionFault
fault_of (fault.Line f) = answer.Faulty f.place.file.now f.place.line f.fault
fault_of (fault.NoFile file line name) = answer.Missing file.now line (string_bytes name)
