-- The direct operands of a linked program that name a word of data memory, by a relocation or by a number, each with the word that is
-- meant.
use Rattle.std.specs.Prelude.{◌≡◌, ℕ, ◌+◌, ◌++◌, ◌%◌, ◌^◌, ◌==◌, ◌&&◌, Bool, true, false, List, find, map, filter}
use Rattle.std.specs.Option.{option_map_or}
use Rattle.std.specs.Str.{bytes_eq}
use Rattle.c25_bits.specs.Cut.{cut}
use Rattle.c25_meaning_common.specs.declared.relocation.RelocationKind.{RelocationKind}
use Rattle.c25_meaning_common.specs.declared.relocation.RelocationKind.TheVariants.{Word16, Low7, Page9}
use Rattle.c25_meaning_linking.specs.Linking.{symbol_value}
use Rattle.c25_meaning_linking.specs.MapText.{MapData, NamedValue}
use Rattle.c25_meaning_linking.specs.Place.{Place, by_modules}
use Rattle.c25_meaning_linking.specs.Words.{definitions, relocated_value, section_base, section_page, section_run}
use Rattle.c25_meaning_objects.specs.Module.{Contents}
use Rattle.c25_meaning_objects.specs.declared.object.Relocation.{Relocation}
use Rattle.c25_page_reports.specs.declared.operands.AbsoluteOperand.{AbsoluteOperand}
use Rattle.c25_page_reports.specs.declared.operands.PageOperand.{PageOperand}

-- whether a field is that of a direct operand
abbrev pub is_direct : RelocationKind → Bool
is_direct Word16 = false
is_direct Low7 = true
is_direct Page9 = false

-- whether a relocation is of a direct operand of an instruction on page 0
abbrev pub is_page_operand : List Place → Contents → Relocation → Bool
is_page_operand places m r = is_direct r.kind && (section_page places m r.section == 0)

-- the direct operand of a relocation: where its instruction is loaded, where it runs, and the low 16 bits of the address of the word
-- that is meant
abbrev pub page_operand : List Contents → List Place → ℕ → Contents → Relocation → PageOperand
page_operand modules places number m r = record {
  load = (section_base modules places number m r.section + r.offset) % 2 ^ 16;
  run = (section_run modules places number m r.section + r.offset) % 2 ^ 16;
  word = cut (relocated_value modules places number m r) 16;
}

-- the relocated direct operands of one module, in the order of its relocations
abbrev pub module_operands : List Contents → List Place → ℕ → Contents → List PageOperand
module_operands modules places number m = map (page_operand modules places number m) (filter (is_page_operand places m) m.relocations)

-- whether an absolute operand is one of a module, by its number, and of an instruction on page 0
abbrev pub is_absolute_of : List Place → ℕ → Contents → AbsoluteOperand → Bool
is_absolute_of places number m o = (o.number == number) && (section_page places m o.section == 0)

-- the direct operand that is absolute: where its instruction is loaded, where it runs, and the address of the word that is meant
abbrev pub absolute_operand : List Contents → List Place → ℕ → Contents → AbsoluteOperand → PageOperand
absolute_operand modules places number m o = record {
  load = (section_base modules places number m o.section + o.offset) % 2 ^ 16;
  run = (section_run modules places number m o.section + o.offset) % 2 ^ 16;
  word = o.word;
}

-- those of these absolute operands that are of one module, in their order
abbrev pub module_absolutes : List AbsoluteOperand → List Contents → List Place → ℕ → Contents → List PageOperand
module_absolutes absolutes modules places number m = map (absolute_operand modules places number m) (filter (is_absolute_of places number m) absolutes)

-- the direct operands of one module: those that are relocated, and then the absolute ones
abbrev pub all_operands : List AbsoluteOperand → List Contents → List Place → ℕ → Contents → List PageOperand
all_operands absolutes modules places number m = module_operands modules places number m ++ module_absolutes absolutes modules places number m

-- the direct operands of a program, by modules: those that are relocated, and these absolute ones
abbrev pub page_operands : List AbsoluteOperand → List Contents → List Place → List PageOperand
page_operands absolutes modules places = by_modules (all_operands absolutes modules places) 0 modules

-- the symbols of a map are those that modules define, where the map says that their sections stand
abbrev pub HasSymbols : List Contents → MapData → Type 0
HasSymbols modules described = described.symbols ≡ map (symbol_value modules (map (λ s. s.place) described.sections)) (definitions modules)

-- the value that the first of named values of this name has; 0 where none has it
abbrev pub value_among : List NamedValue → List ℕ → ℕ
value_among values name = option_map_or (λ v. v.value) (find (λ v. bytes_eq name v.name) values) 0
