-- The bytes of a module, in records of this project's own: a head, then records of a tag, a length and a
-- payload. Numbers are big-endian. Each module has exactly one spelling.
use Rattle.std.specs.Prelude.{ℕ, List, [], ◌∷◌, ◌++◌, length}
use Rattle.std.specs.List.{flat_map}
use Rattle.std.specs.Int.{w16, w32, to_be_bytes, cast_unsigned}
use Rattle.c25_meaning_objects.specs.declared.object.Version.{Version}
use Rattle.c25_meaning_objects.specs.declared.object.Version.TheVariants.{One, Two}
use Rattle.c25_meaning_objects.specs.declared.object.SymbolKind.{SymbolKind}
use Rattle.c25_meaning_objects.specs.declared.object.SymbolKind.TheVariants.{Absolute, InSection, Loaded, External}
use Rattle.c25_meaning_objects.specs.declared.object.Scope.{Scope}
use Rattle.c25_meaning_objects.specs.declared.object.Scope.TheVariants.{Local, Global}
use Rattle.c25_meaning_objects.specs.declared.object.ModuleMark.{ModuleMark}
use Rattle.c25_meaning_common.specs.declared.relocation.RelocationKind.{RelocationKind}
use Rattle.c25_meaning_common.specs.declared.relocation.RelocationKind.TheVariants.{Word16, Low7, Page9}
use Rattle.c25_meaning_objects.specs.declared.object.RelocationBase.{RelocationBase}
use Rattle.c25_meaning_objects.specs.declared.object.RelocationBase.TheVariants as base
use Rattle.c25_meaning_objects.specs.declared.object.Relocation.{Relocation}
use Rattle.c25_meaning_objects.specs.declared.object.LineMark.{LineMark}
use Rattle.c25_meaning_objects.specs.declared.object.Block.{Block}
use Rattle.c25_meaning_objects.specs.Module.{SectionBody, Uninitialised, Initialised, SectionData, SymbolData, Contents}

-- a name with its length in the byte before it
abbrev pub counted : List ℕ → List ℕ
counted name = length name ∷ name

-- the flag of a section: 1 if it is initialised
abbrev pub body_flag : SectionBody → ℕ
body_flag (Uninitialised size) = 0
body_flag (Initialised words) = 1

-- the contents of a section: its size in words, and the words if it is initialised
abbrev pub body_bytes : SectionBody → List ℕ
body_bytes (Uninitialised size) = to_be_bytes w32 size
body_bytes (Initialised words) = to_be_bytes w32 (length words) ++ flat_map (to_be_bytes w16) words

-- a section's payload: flag, name, size, and the words if there are any
abbrev pub section_payload : SectionData → List ℕ
section_payload s = body_flag s.body ∷ (counted s.name ++ body_bytes s.body)

-- a mark's payload: section, offset, size
abbrev pub mark_payload : ModuleMark → List ℕ
mark_payload m = to_be_bytes w16 m.section ++ to_be_bytes w16 m.offset ++ m.size ∷ []

-- the code of a kind
abbrev pub kind_code : SymbolKind → ℕ
kind_code Absolute = 0
kind_code (InSection number) = 1
kind_code External = 2
kind_code (Loaded number) = 3

-- the number of the section in a symbol's payload: 0 where the kind has none
abbrev pub kind_section : SymbolKind → ℕ
kind_section Absolute = 0
kind_section (InSection number) = number
kind_section External = 0
kind_section (Loaded number) = number

-- the code of a scope
abbrev pub scope_code : Scope → ℕ
scope_code Local = 0
scope_code Global = 1

-- a symbol's payload: kind, scope, section, value, name
abbrev pub symbol_payload : SymbolData → List ℕ
symbol_payload y =
    kind_code y.kind ∷ (scope_code y.scope ∷ (to_be_bytes w16 (kind_section y.kind) ++ (to_be_bytes w32 (cast_unsigned w32 y.value) ++ counted y.name)))

-- the code of a field
abbrev pub field_code : RelocationKind → ℕ
field_code Word16 = 1
field_code Low7 = 2
field_code Page9 = 3

-- the code of a base
abbrev pub base_code : RelocationBase → ℕ
base_code (base.Section number) = 0
base_code (base.External number) = 1
base_code (base.Loaded number) = 2

-- the number of the section or symbol that a base counts from
abbrev pub base_index : RelocationBase → ℕ
base_index (base.Section number) = number
base_index (base.External number) = number
base_index (base.Loaded number) = number

-- a relocation's payload: section, offset, field, base, number, addend
abbrev pub relocation_payload : Relocation → List ℕ
relocation_payload r =
    to_be_bytes w16 r.section ++ (to_be_bytes w16 r.offset
    ++ (field_code r.kind ∷ (base_code r.base ∷ (to_be_bytes w16 (base_index r.base) ++ to_be_bytes w32 (cast_unsigned w32 r.addend)))))

-- a line's payload: file, line
abbrev pub line_payload : LineMark → List ℕ
line_payload l = to_be_bytes w16 l.file ++ to_be_bytes w32 l.line

-- a block's payload: section, offset, size
abbrev pub block_payload : Block → List ℕ
block_payload b = to_be_bytes w16 b.section ++ to_be_bytes w16 b.offset ++ b.size ∷ []

-- a record: a tag, the length of the payload in four bytes, and the payload
abbrev pub entry : ℕ → List ℕ → List ℕ
entry tag payload = tag ∷ (to_be_bytes w32 (length payload) ++ payload)

-- the record of a section
abbrev pub section_entry : SectionData → List ℕ
section_entry s = entry 1 (section_payload s)

-- the record of a mark
abbrev pub mark_entry : ModuleMark → List ℕ
mark_entry m = entry 2 (mark_payload m)

-- the record of a symbol
abbrev pub symbol_entry : SymbolData → List ℕ
symbol_entry y = entry 3 (symbol_payload y)

-- the record of a relocation
abbrev pub relocation_entry : Relocation → List ℕ
relocation_entry r = entry 4 (relocation_payload r)

-- the record of a file, whose payload is the file's name
abbrev pub file_entry : List ℕ → List ℕ
file_entry name = entry 5 name

-- the record of a line
abbrev pub line_entry : LineMark → List ℕ
line_entry l = entry 6 (line_payload l)

-- the record of a block
abbrev pub block_entry : Block → List ℕ
block_entry b = entry 7 (block_payload b)

-- the byte of a version
abbrev pub version_code : Version → ℕ
version_code One = 1
version_code Two = 2

-- the head: `C25O` and the version
abbrev pub head : Version → List ℕ
head version = 67 ∷ 50 ∷ 53 ∷ 79 ∷ version_code version ∷ []

-- the records of the lists, in their order
abbrev pub records : Contents → List ℕ
records c =
    flat_map section_entry c.sections ++ (flat_map mark_entry c.marks
    ++ (flat_map symbol_entry c.symbols ++ (flat_map relocation_entry c.relocations
    ++ (flat_map file_entry c.files ++ (flat_map line_entry c.lines ++ flat_map block_entry c.blocks)))))

-- the last record: tag 255, without a payload
abbrev pub last_entry : List ℕ
last_entry = entry 255 []

-- the bytes of a module
abbrev pub spelling : Contents → List ℕ
spelling c = head c.version ++ (records c ++ last_entry)
