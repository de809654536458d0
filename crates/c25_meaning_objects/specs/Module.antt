-- What a module of relocatable words consists of, and which lists make up a module. Sections, symbols and
-- relocation are those of SPRU018's chapters on sections and on the assembler; the records that hold them are
-- this project's own.
use Rattle.std.specs.Prelude.{◌≡◌, ◌<◌, ℕ, ℤ, pos, ◌+◌, ◌-◌, ◌%◌, Bool, true, false, ◌||◌, ◌&&◌, ◌==◌, not, nat_lt, nat_le, slice_index, if◌then◌else◌, List, [], ◌∷◌, ◌++◌, length, Option, Some, None, ◌^◌, FitsSigned}
use Rattle.std.specs.Int.{w32}
use Rattle.std.specs.List.{slice_get, list_all, list_any, fold, AllByRecursion}
use Rattle.std.specs.Ordering.{int_eq}
use Rattle.std.specs.Str.{bytes_eq, is_utf8}
use Rattle.c25_meaning_common.specs.Bytes.{is_visible, begins_name, goes_on_name}
use Rattle.c25_meaning_objects.specs.declared.object.Version.{Version}
use Rattle.c25_meaning_objects.specs.declared.object.Version.TheVariants.{One, Two}
use Rattle.c25_meaning_objects.specs.declared.object.SymbolKind.{SymbolKind}
use Rattle.c25_meaning_objects.specs.declared.object.SymbolKind.TheVariants.{Absolute, InSection, Loaded, External}
use Rattle.c25_meaning_objects.specs.declared.object.Scope.{Scope}
use Rattle.c25_meaning_objects.specs.declared.object.Scope.TheVariants.{Local, Global}
use Rattle.c25_meaning_objects.specs.declared.object.ModuleMark.{ModuleMark}
use Rattle.c25_meaning_objects.specs.declared.object.RelocationBase.{RelocationBase}
use Rattle.c25_meaning_objects.specs.declared.object.RelocationBase.TheVariants as base
use Rattle.c25_meaning_objects.specs.declared.object.Relocation.{Relocation}
use Rattle.c25_meaning_objects.specs.declared.object.LineMark.{LineMark}
use Rattle.c25_meaning_objects.specs.declared.object.Block.{Block}
use Rattle.c25_meaning_common.specs.Fields.{field_values}

-- the contents of a section: a number of reserved words, or words that are loaded
pub data SectionBody : Type 0 where
  Uninitialised : ℕ → SectionBody
  Initialised : List ℕ → SectionBody

-- a section: its name and its contents
pub record SectionData : Type 0 where
  pub name : List ℕ
  pub body : SectionBody

-- a symbol; the meaning of its value depends on its kind
pub record SymbolData : Type 0 where
  pub kind : SymbolKind
  pub scope : Scope
  pub value : ℤ
  pub name : List ℕ

-- the lists of a module; only version 2 has files, lines and blocks
pub record Contents : Type 0 where
  pub sections : List SectionData
  pub marks : List ModuleMark
  pub symbols : List SymbolData
  pub relocations : List Relocation
  pub version : Version
  pub files : List (List ℕ)
  pub lines : List LineMark
  pub blocks : List Block

-- ---- names

-- a character of a section's name: 21h to 7Eh without `"`
abbrev pub is_section_byte : ℕ → Bool
is_section_byte b = is_visible b && not (b == 34)

-- whether a text may be a section's name: 1 to 32 characters 21h to 7Eh without `"`
abbrev pub is_section_name : List ℕ → Bool
is_section_name name = nat_le 1 (length name) && nat_le (length name) 32 && list_all is_section_byte name

-- whether a text may be a symbol's name: 1 to 128 characters, a letter or `_`, then letters, digits, `_` and
-- `$`
abbrev pub is_symbol_name : List ℕ → Bool
is_symbol_name name = nat_le 1 (length name) && nat_le (length name) 128 && begins_name (slice_index name 0) && list_all goes_on_name name

-- ---- sections

-- the words of a section that are loaded
abbrev pub body_words : SectionBody → List ℕ
body_words (Uninitialised size) = []
body_words (Initialised words) = words

-- the size of a section in words
abbrev pub body_size : SectionBody → ℕ
body_size (Uninitialised size) = size
body_size (Initialised words) = length words

-- whether a section is initialised
abbrev pub has_words : SectionBody → Bool
has_words (Uninitialised size) = false
has_words (Initialised words) = true

-- whether a section is an initialised `.text`
abbrev pub is_text : SectionData → Bool
is_text s = bytes_eq s.name (46 ∷ 116 ∷ 101 ∷ 120 ∷ 116 ∷ []) && has_words s.body

-- the first section must be an initialised `.text`
abbrev pub begins_sections : List SectionData → SectionData → Bool
begins_sections [] s = is_text s
begins_sections (first ∷ others) s = true

-- whether one of these sections has this name
abbrev pub has_section : List SectionData → List ℕ → Bool
has_section before name = list_any (λ s. bytes_eq s.name name) before

-- whether a section may follow these: its name is valid and new, it has at most 65,536 words, the first is
-- `.text`, and there are at most 255
abbrev pub section_fits : List SectionData → SectionData → Bool
section_fits before s =
    is_section_name s.name && nat_le (body_size s.body) 65536 && begins_sections before s
    && not (has_section before s.name) && nat_lt (length before) 255

-- ---- marks

-- the words of a section by its number; no words where it is uninitialised or there is no such section
abbrev pub words_at : List SectionData → ℕ → List ℕ
words_at sections number = elim (slice_get sections number) [ None ↦ [] | Some s ↦ body_words s.body ]

-- whether the second place is at or after the first, by section and offset
abbrev pub is_from : ℕ → ℕ → ℕ → ℕ → Bool
is_from section offset other_section other_offset =
    nat_lt section other_section || (section == other_section && nat_le offset other_offset)

-- the last item of a list, if there is one
abbrev pub last_of : {A : Type 0} → List A → Option A
last_of xs = slice_get xs (length xs - 1)

-- whether a mark begins at or after the end of the last one
abbrev pub mark_after : Option ModuleMark → ModuleMark → Bool
mark_after None m = true
mark_after (Some last) m = is_from last.section (last.offset + last.size) m.section m.offset

-- whether a mark may follow these: one or two words of an initialised section, after the last mark
abbrev pub mark_fits : List SectionData → List ModuleMark → ModuleMark → Bool
mark_fits sections before m =
    (m.size == 1 || m.size == 2) && nat_le (m.offset + m.size) (length (words_at sections m.section)) && mark_after (last_of before) m

-- ---- symbols

-- whether other modules see the symbol
abbrev pub is_global : Scope → Bool
is_global Local = false
is_global Global = true

-- whether a version has symbols of this kind: version 1 has none that count from where a section is loaded
abbrev pub kind_allowed : Version → SymbolKind → Bool
kind_allowed Two kind = true
kind_allowed One Absolute = true
kind_allowed One (InSection number) = true
kind_allowed One (Loaded number) = false
kind_allowed One External = true

-- whether a symbol's kind is valid: its section exists; an external symbol is global and has the value 0
abbrev pub place_fits : List SectionData → SymbolData → SymbolKind → Bool
place_fits sections y Absolute = true
place_fits sections y (InSection number) = nat_lt number (length sections)
place_fits sections y (Loaded number) = nat_lt number (length sections)
place_fits sections y External = is_global y.scope && int_eq y.value (pos 0)

-- whether one of these symbols has this name
abbrev pub has_symbol : List SymbolData → List ℕ → Bool
has_symbol before name = list_any (λ y. bytes_eq y.name name) before

-- whether a symbol is valid by itself
abbrev pub symbol_stands : Version → List SectionData → SymbolData → Bool
symbol_stands version sections y = is_symbol_name y.name && kind_allowed version y.kind && place_fits sections y y.kind

-- whether a symbol may follow these: it is valid, its name is new, and there are at most 65,535
abbrev pub symbol_fits : Version → List SectionData → List SymbolData → SymbolData → Bool
symbol_fits version sections before y =
    symbol_stands version sections y && not (has_symbol before y.name) && nat_lt (length before) 65535

-- ---- relocations

-- whether there is a symbol, and it is external
abbrev pub is_external : Option SymbolData → Bool
is_external None = false
is_external (Some y) = is_external_kind y.kind where
  is_external_kind : SymbolKind → Bool
  is_external_kind Absolute = false
  is_external_kind (InSection number) = false
  is_external_kind (Loaded number) = false
  is_external_kind External = true

-- whether a version is version 2
abbrev pub is_two : Version → Bool
is_two One = false
is_two Two = true

-- whether the base of a relocation is valid: a section that exists, in version 2 also where it is loaded, or
-- a symbol that is external
abbrev pub base_fits : Version → List SectionData → List SymbolData → RelocationBase → Bool
base_fits version sections symbols (base.Section number) = nat_lt number (length sections)
base_fits version sections symbols (base.Loaded number) = is_two version && nat_lt number (length sections)
base_fits version sections symbols (base.External number) = is_external (slice_get symbols number)

-- whether a relocation's word is after that of the last one: no word has two
abbrev pub relocation_after : Option Relocation → Relocation → Bool
relocation_after None r = true
relocation_after (Some last) r = is_from last.section (last.offset + 1) r.section r.offset

-- whether the word of a relocation exists, with 0 in the field that is to be filled
abbrev pub field_is_clear : List ℕ → Relocation → Bool
field_is_clear words r = nat_lt r.offset (length words) && slice_index words r.offset % field_values r.kind == 0

-- whether a relocation may follow these
abbrev pub relocation_fits : Version → List SectionData → List SymbolData → List Relocation → Relocation → Bool
relocation_fits version sections symbols before r =
    base_fits version sections symbols r.base && relocation_after (last_of before) r && field_is_clear (words_at sections r.section) r

-- ---- files

-- whether one of these files has this name
abbrev pub has_file : List (List ℕ) → List ℕ → Bool
has_file before name = list_any (λ f. bytes_eq f name) before

-- whether a file's name may follow these: it is UTF-8, new, and shorter than 2^32 bytes
abbrev pub file_fits : List (List ℕ) → List ℕ → Bool
file_fits before name = is_utf8 name && nat_lt (length name) (2 ^ 32) && not (has_file before name)

-- ---- lines

-- how many files are used with one more line; files are used in the order of their numbers
abbrev pub used_with : ℕ → LineMark → ℕ
used_with count l = if nat_lt l.file count then count else l.file + 1

-- how many files these lines use
abbrev pub used : List LineMark → ℕ
used lines = fold used_with 0 lines

-- whether a line may follow these: there is a mark for it, its file has been used or is the next one, and its
-- number is at least 1
abbrev pub line_fits : List ModuleMark → List (List ℕ) → List LineMark → LineMark → Bool
line_fits marks files before l =
    nat_lt (length before) (length marks) && nat_lt l.file (length files) && nat_le l.file (used before) && nat_le 1 l.line

-- whether each mark has a line and each file is used
abbrev pub are_told : Contents → Bool
are_told c = length c.lines == length c.marks && used c.lines == length c.files

-- ---- blocks

-- how many words a section reserves without loading them
abbrev pub reserved : SectionBody → ℕ
reserved (Uninitialised size) = size
reserved (Initialised words) = 0

-- how many words an uninitialised section reserves, by its number; 0 where it is initialised or there is no
-- such section
abbrev pub reserved_at : List SectionData → ℕ → ℕ
reserved_at sections number = elim (slice_get sections number) [ None ↦ 0 | Some s ↦ reserved s.body ]

-- whether a block begins at or after the end of the last one
abbrev pub block_after : Option Block → Block → Bool
block_after None b = true
block_after (Some last) b = is_from last.section (last.offset + last.size) b.section b.offset

-- whether a block may follow these: 1 to 128 words of an uninitialised section, after the last block
abbrev pub block_fits : List SectionData → List Block → Block → Bool
block_fits sections before b =
    nat_le 1 b.size && nat_le b.size 128 && nat_le (b.offset + b.size) (reserved_at sections b.section) && block_after (last_of before) b

-- ---- modules

-- whether each item of a list may follow the items before it
abbrev pub each_fits : {A : Type 0} → (List A → A → Bool) → List A → List A → Bool
each_fits fits before [] = true
each_fits fits before (x ∷ xs) = fits before x && each_fits fits (before ++ x ∷ []) xs

-- whether a module has a section
abbrev pub has_sections : Contents → Bool
has_sections c = nat_lt 0 (length c.sections)

-- whether the lists of version 2 are as the version asks: version 1 has no files, lines and blocks; in
-- version 2 each mark has a line
abbrev pub told_by : Version → Contents → Bool
told_by One c = length c.files == 0 && length c.lines == 0 && length c.blocks == 0
told_by Two c = are_told c

-- whether each list is valid: each item may follow those before it
abbrev pub lists_fit : Contents → Bool
lists_fit c =
    each_fits section_fits [] c.sections && (each_fits (mark_fits c.sections) [] c.marks
    && (each_fits (symbol_fits c.version c.sections) [] c.symbols && (each_fits (relocation_fits c.version c.sections c.symbols) [] c.relocations
    && (each_fits file_fits [] c.files && (each_fits (line_fits c.marks c.files) [] c.lines
    && (told_by c.version c && each_fits (block_fits c.sections) [] c.blocks))))))

-- whether these lists make up a module
abbrev pub is_module : Contents → Bool
is_module c = has_sections c && lists_fit c

-- numbers have the widths that records have for them
pub record IsSized (c : Contents) : Type 0 where
  pub words : AllByRecursion (λ s. AllByRecursion (λ w. w < 2 ^ 16) (body_words s.body)) c.sections
  pub values : AllByRecursion (λ y. FitsSigned w32 y.value) c.symbols
  pub addends : AllByRecursion (λ r. FitsSigned w32 r.addend) c.relocations
  pub lines : AllByRecursion (λ l. (l.file < 2 ^ 16) × (l.line < 2 ^ 32)) c.lines

-- these lists make up a module that records can hold
pub record IsModule (c : Contents) : Type 0 where
  pub lists : is_module c ≡ true
  pub sized : IsSized c
