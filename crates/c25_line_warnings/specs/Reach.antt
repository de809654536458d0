-- What stands before a line, and what follows from it: instructions that may not be repeated, and instructions
-- that nothing leads to.
use Rattle.std.specs.Prelude.{ℕ, ◌+◌, ◌==◌, Bool, false, not, ◌&&◌, ◌||◌, nat_le, pos, Option, Some, None, if◌then◌else◌}
use Rattle.std.specs.List.{list_any}
use Rattle.std.specs.Ordering.{int_eq}
use Rattle.c25_meaning_instructions.specs.declared.mnemonic.Spelling.{Spelling}
use Rattle.c25_meaning_objects.specs.Module.{Contents, SymbolData}
use Rattle.c25_meaning_objects.specs.declared.object.Relocation.{Relocation}
use Rattle.c25_meaning_objects.specs.declared.object.RelocationBase.{RelocationBase}
use Rattle.c25_meaning_objects.specs.declared.object.RelocationBase.TheVariants as relocation
use Rattle.c25_meaning_objects.specs.declared.object.SymbolKind.{SymbolKind}
use Rattle.c25_meaning_objects.specs.declared.object.SymbolKind.TheVariants as symbol
use Rattle.c25_line_warnings.specs.Instructions.{is_branch, is_last, is_repeat, is_unrepeatable}
use Rattle.c25_line_warnings.specs.SourceLine.{SourceLine}
use Rattle.c25_line_warnings.specs.declared.reach.Before.{Before}

-- before the first line
abbrev pub nothing : Before
nothing = record { section = 0; end = 0; repeats = false; is_last = false }

-- whether the words of a line come directly after these
abbrev pub is_next : Before → SourceLine → Bool
is_next b l = b.section == l.section && b.end == l.offset

-- whether the words so far run into the next ones: not after an instruction that ends with a branch, nor after
-- data that follow one
abbrev pub last_by : Before → SourceLine → Option Spelling → Bool
last_by b l (Some s) = is_last s
last_by b l None = is_next b l && b.is_last

-- whether an instruction that repeats the next one was the last
abbrev pub repeats_by : Option Spelling → Bool
repeats_by (Some s) = is_repeat s
repeats_by None = false

-- the words before the next line, after a line that spells this instruction, or has data or no words
unfoldable pub after : Before → SourceLine → Option Spelling → Before
after b l s =
    if l.count == 0 then b
    else record { section = l.section; end = l.offset + l.count; repeats = repeats_by s; is_last = last_by b l s }

-- whether a line's instruction is repeated and may not be
unfoldable pub is_wrongly_repeated : Before → SourceLine → Spelling → Bool
is_wrongly_repeated b l s = is_next b l && b.repeats && is_unrepeatable s

-- whether a symbol of this kind and value is the address of a word of a section
abbrev pub names_word_by : SymbolKind → SymbolData → ℕ → ℕ → Bool
names_word_by (symbol.InSection n) y section offset = n == section && int_eq y.value (pos offset)
names_word_by (symbol.Loaded n) y section offset = n == section && int_eq y.value (pos offset)
names_word_by symbol.Absolute y section offset = false
names_word_by symbol.External y section offset = false

-- whether a symbol is the address of a word of a section
abbrev pub names_word : ℕ → ℕ → SymbolData → Bool
names_word section offset y = names_word_by y.kind y section offset

-- whether an operand that counts from this base is the address of a word of a section
abbrev pub leads_by : RelocationBase → Relocation → ℕ → ℕ → Bool
leads_by (relocation.Section n) r section offset = n == section && int_eq r.addend (pos offset)
leads_by (relocation.Loaded n) r section offset = n == section && int_eq r.addend (pos offset)
leads_by (relocation.External n) r section offset = false

-- whether an operand is the address of a word of a section, as `$+4` may be
abbrev pub leads_to_word : ℕ → ℕ → Relocation → Bool
leads_to_word section offset r = leads_by r.base r section offset

-- whether a symbol or an operand of the module is the address of a word of a section
unfoldable pub is_named : Contents → ℕ → ℕ → Bool
is_named m section offset = list_any (names_word section offset) m.symbols || list_any (leads_to_word section offset) m.relocations

-- whether nothing leads to a line's instruction: the words before it do not run into it, and no symbol and no
-- operand is its address. A `B` may be one of a table of branches, and an instruction among the first 32
-- words of its section an interrupt vector (SPRU014, interrupts).
unfoldable pub is_not_reached : Contents → Before → SourceLine → Spelling → Bool
is_not_reached m b l s =
    is_next b l && b.is_last && not (is_branch s) && nat_le 32 l.offset && not (is_named m l.section l.offset)
