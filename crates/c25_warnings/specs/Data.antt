-- Words of data that nothing in their module reaches.
use Rattle.std.specs.Prelude.{ℕ, ◌+◌, ◌/◌, ◌%◌, ◌==◌, Bool, true, false, not, ◌&&◌, ◌||◌, codes, int_le, int_lt, is_some, pos, slice_get, unsigned_abs, List, [], ◌∷◌, Option, Some, None, if◌then◌else◌, ℤ}
use Rattle.std.specs.List.{list_any}
use Rattle.std.specs.Option.{option_or}
use Rattle.std.specs.Str.{bytes_eq}
use Rattle.c25_line_warnings.specs.Said.{spelling_in}
use Rattle.c25_line_warnings.specs.SourceLine.{SourceLine}
use Rattle.c25_meaning_assembly.specs.Sections.{Definitions}
use Rattle.c25_meaning_common.specs.declared.relocation.RelocationKind.{RelocationKind}
use Rattle.c25_meaning_common.specs.declared.relocation.RelocationKind.TheVariants as field
use Rattle.c25_meaning_instructions.specs.declared.mnemonic.LongMemName.TheVariants as long_mem
use Rattle.c25_meaning_instructions.specs.declared.mnemonic.MemName.TheVariants as mem
use Rattle.c25_meaning_instructions.specs.declared.mnemonic.Mnemonic.TheVariants as family
use Rattle.c25_meaning_instructions.specs.declared.mnemonic.Spelling.{Spelling}
use Rattle.c25_meaning_instructions.specs.declared.mnemonic.Spelling.TheVariants as spelling
use Rattle.c25_meaning_language.specs.Value.{start_of_text, value_named}
use Rattle.c25_meaning_language.specs.declared.value.Base.{Base}
use Rattle.c25_meaning_language.specs.declared.value.Base.TheVariants as base
use Rattle.c25_meaning_language.specs.declared.value.Value.{Value}
use Rattle.c25_meaning_objects.specs.Module.{Contents, SectionData, SymbolData, body_size}
use Rattle.c25_meaning_objects.specs.declared.object.Block.{Block}
use Rattle.c25_meaning_objects.specs.declared.object.ModuleMark.{ModuleMark}
use Rattle.c25_meaning_objects.specs.declared.object.Relocation.{Relocation}
use Rattle.c25_meaning_objects.specs.declared.object.RelocationBase.{RelocationBase}
use Rattle.c25_meaning_objects.specs.declared.object.RelocationBase.TheVariants as relocation
use Rattle.c25_meaning_objects.specs.declared.object.Scope.{Scope}
use Rattle.c25_meaning_objects.specs.declared.object.Scope.TheVariants as scope
use Rattle.c25_meaning_objects.specs.declared.object.SymbolKind.{SymbolKind}
use Rattle.c25_meaning_objects.specs.declared.object.SymbolKind.TheVariants as symbol
use Rattle.c25_uses.specs.Uses.{Defined}

-- ---- the symbols of a section

-- whether a symbol of this kind is one of a section
abbrev pub lies_in : SymbolKind → ℕ → Bool
lies_in (symbol.InSection n) section = n == section
lies_in (symbol.Loaded n) section = n == section
lies_in symbol.Absolute section = false
lies_in symbol.External section = false

abbrev pub is_global : Scope → Bool
is_global scope.Global = true
is_global scope.Local = false

-- whether other modules see a symbol of a section, and may reach other words from it
abbrev pub is_seen : ℕ → SymbolData → Bool
is_seen section y = lies_in y.kind section && is_global y.scope

-- whether a place comes before another one, or there is no other
abbrev pub is_before : ℤ → Option ℤ → Bool
is_before place None = true
is_before place (Some next) = int_lt place next

-- the nearest place after `place`, of the one so far and that of a symbol of the section
abbrev pub nearer : ℕ → (place : ℤ) → Option ℤ → SymbolData → Option ℤ
nearer section place next y =
    if lies_in y.kind section && (int_lt place y.value && is_before y.value next) then Some y.value else next

-- the place of the next symbol of the section after `place`, of these symbols and the one so far
unfoldable pub next_place : ℕ → (place : ℤ) → Option ℤ → List SymbolData → Option ℤ
next_place section place next [] = next
next_place section place next (y ∷ ys) = next_place section place (nearer section place next y) ys

abbrev pub is_bss : Option SectionData → Bool
is_bss None = false
is_bss (Some s) = bytes_eq s.name (codes ".bss")

-- where the words at a place of a section end: in `.bss` at the next symbol. In another section the words after them count as
-- theirs, to its end, since their order may follow something outside the program: a device's registers, say
unfoldable pub words_end : Contents → (section : ℕ) → (place : ℤ) → Option ℤ
words_end m section place = if is_bss (slice_get m.sections section) then next_place section place None m.symbols else None

-- ---- words that fill the rest of a data page

-- where a section ends
abbrev pub section_end : Option SectionData → ℕ
section_end None = 0
section_end (Some s) = body_size s.body

-- where the words from a place of a section end: at the next symbol, or with the section
unfoldable pub stretch_end : Contents → (section : ℕ) → (place : ℤ) → ℕ
stretch_end m section place =
    elim (next_place section place None m.symbols) [ None ↦ section_end (slice_get m.sections section) | Some next ↦ unsigned_abs next ]

-- whether words from one place of a section to another one are the rest of a data page, which has 128 words, counted from the start of
-- the section: the page begins before them, and ends with them
abbrev pub are_rest_of_page : (place end : ℕ) → Bool
are_rest_of_page place end = not (place % 128 == 0) && (end % 128 == 0 && end / 128 == place / 128 + 1)

-- whether the words from a place of a section are that: the ones after them begin a page
unfoldable pub pads_page : Contents → (section : ℕ) → (place : ℤ) → Bool
pads_page m section place = int_le (pos 0) place && are_rest_of_page (unsigned_abs place) (stretch_end m section place)

-- ---- the operands that reach a section

-- whether an operand counts from a section
abbrev pub counts_from : RelocationBase → ℕ → Bool
counts_from (relocation.Section n) section = n == section
counts_from (relocation.Loaded n) section = n == section
counts_from (relocation.External n) section = false

-- whether an operand is a whole address, from which other words may be reached; a direct operand and that of LDPK are not
abbrev pub is_address : RelocationKind → Bool
is_address field.Word16 = true
is_address field.Low7 = false
is_address field.Page9 = false

-- whether an operand reaches the words from a place of a section up to their end
abbrev pub reaches : ℕ → (place : ℤ) → (end : Option ℤ) → Relocation → Bool
reaches section place end r = counts_from r.base section && (is_address r.kind || (int_le place r.addend && is_before r.addend end))

-- whether a block, which lies in one data page, comes after a place of a section: the words before it may fill a page
abbrev pub fills : ℕ → (place : ℤ) → Block → Bool
fills section place b = b.section == section && int_lt place (pos b.offset)

-- whether an instruction stands in a section: data among instructions may be there for its place, as an interrupt vector is
abbrev pub is_instruction_in : ℕ → ModuleMark → Bool
is_instruction_in section mark = mark.section == section

-- whether the words from a place of a section up to their end serve, though nothing names them
abbrev pub serves : Contents → ℕ → (place : ℤ) → (end : Option ℤ) → Bool
serves m section place end =
    list_any (is_seen section) m.symbols
    || (list_any (is_instruction_in section) m.marks
    || (list_any (fills section place) m.blocks
    || (pads_page m section place || list_any (reaches section place end) m.relocations)))

unfoldable pub is_reached : Contents → ℕ → ℤ → Bool
is_reached m section place = serves m section place (words_end m section place)

-- whether the same holds of a value that counts from this base; of one that is no place of a section it does
abbrev pub may_reach : Contents → Base → ℤ → Bool
may_reach m (base.Section n) place = is_reached m n place
may_reach m _ place = true

-- ---- instructions that write the next word

abbrev pub writes_next : Spelling → Bool
writes_next (spelling.Row (family.Mem mem.Dmov)) = true
writes_next (spelling.Row (family.Mem mem.Ltd)) = true
writes_next (spelling.Row (family.LongMem long_mem.Macd)) = true
writes_next _ = false

abbrev pub writes_next_if : Option Spelling → Bool
writes_next_if None = false
writes_next_if (Some s) = writes_next s

-- whether one of these lines has such an instruction, which reaches a word by the name of the word before
abbrev pub any_moves : List SourceLine → Bool
any_moves ls = list_any (λ l. writes_next_if (spelling_in l.text)) ls

-- ---- lines

-- the label of a line that makes words of data
unfoldable pub data_label : SourceLine → Option (List ℕ) → Option (List ℕ)
data_label l label = if l.count == 0 || is_some (spelling_in l.text) then None else label

-- what a name stands for among these symbols
abbrev pub value_among : Definitions → List ℕ → Option Value
value_among symbols name = value_named (record { entries = symbols; here = start_of_text }) name

-- this name, if it has a value, which is the place of words that nothing reaches
abbrev pub unreached_by : Contents → List ℕ → Option Value → Option (List ℕ)
unreached_by m name None = None
unreached_by m name (Some v) = if may_reach m v.base v.offset then None else Some name

-- the same, if there is a name
abbrev pub unreached : Contents → Definitions → Option (List ℕ) → Option (List ℕ)
unreached m symbols None = None
unreached m symbols (Some name) = unreached_by m name (value_among symbols name)

-- the name of a line's words, which are reserved or data, if nothing reaches them but by the name
abbrev pub data_name : Contents → Definitions → SourceLine → Defined → Option (List ℕ)
data_name m symbols l d = unreached m symbols (option_or d.place (data_label l d.label))
