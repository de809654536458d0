-- Reading the bytes of a module, in records of this project's own, from front to back up to the first fault:
-- of one record, first that it is cut off, then that its tag is unknown or out of order, then that its
-- payload is bad.
use Rattle.std.specs.Prelude.{ℕ, zero, suc, ◌+◌, Bool, ◌||◌, ◌&&◌, ◌==◌, not, nat_lt, nat_le, slice_index, if◌then◌else◌, List, [], ◌∷◌, ◌++◌, length, take, drop, Option, Some, None, Result, Ok, Err}
use Rattle.std.specs.Int.{w16, w32, from_be_bytes, cast_signed}
use Rattle.std.specs.Option.{option_and_then, option_map}
use Rattle.c25_meaning_objects.specs.declared.object.Version.{Version}
use Rattle.c25_meaning_objects.specs.declared.object.Version.TheVariants.{One, Two}
use Rattle.c25_meaning_objects.specs.declared.object.SymbolKind.{SymbolKind}
use Rattle.c25_meaning_objects.specs.declared.object.SymbolKind.TheVariants.{Absolute, InSection, Loaded, External}
use Rattle.c25_meaning_objects.specs.declared.object.Scope.{Scope}
use Rattle.c25_meaning_objects.specs.declared.object.Scope.TheVariants.{Local, Global}
use Rattle.c25_meaning_objects.specs.declared.object.ModuleMark.{ModuleMark}
use Rattle.c25_meaning_common.specs.declared.relocation.RelocationKind.{RelocationKind}
use Rattle.c25_meaning_common.specs.declared.relocation.RelocationKind.TheVariants.{Word16, Low7, Page9}
use Rattle.c25_meaning_objects.specs.declared.object.RelocationBase.{RelocationBase}
use Rattle.c25_meaning_objects.specs.declared.object.RelocationBase.TheVariants as base
use Rattle.c25_meaning_objects.specs.declared.object.Relocation.{Relocation}
use Rattle.c25_meaning_objects.specs.declared.object.LineMark.{LineMark}
use Rattle.c25_meaning_objects.specs.declared.object.Block.{Block}
use Rattle.c25_meaning_objects.specs.declared.object.ObjectFault.{ObjectFault}
use Rattle.c25_meaning_objects.specs.declared.object.ObjectFault.TheVariants.{BadMagic, BadVersion, Short, BadTag, BadField, Trailing}
use Rattle.c25_meaning_common.specs.Results.{◌>>=◌}
use Rattle.c25_meaning_objects.specs.Module.{SectionBody, Uninitialised, Initialised, SectionData, SymbolData, Contents, section_fits, mark_fits, symbol_fits, relocation_fits, file_fits, line_fits, are_told, told_by, block_fits, has_sections}

-- ---- the parts of payloads, by the bytes where they begin

-- the number in two bytes
abbrev pub short_at : List ℕ → ℕ → ℕ
short_at bytes at = from_be_bytes w16 (slice_index bytes at ∷ slice_index bytes (at + 1) ∷ [])

-- the number in four bytes
abbrev pub long_at : List ℕ → ℕ → ℕ
long_at bytes at = from_be_bytes w32 (slice_index bytes at ∷ slice_index bytes (at + 1) ∷ slice_index bytes (at + 2) ∷ slice_index bytes (at + 3) ∷ [])

-- the words of bytes, two bytes a word, if the number of bytes is even
unfoldable pub words_in : List ℕ → Option (List ℕ)
words_in [] = Some []
words_in (high ∷ []) = None
words_in (high ∷ low ∷ rest) = option_map (λ words. from_be_bytes w16 (high ∷ low ∷ []) ∷ words) (words_in rest)

-- ---- payloads

-- the mark of a payload: section, offset, size
unfoldable pub mark_of : List ℕ → Option ModuleMark
mark_of bytes =
    if length bytes == 5
    then Some (record { section = short_at bytes 0; offset = short_at bytes 2; size = slice_index bytes 4 })
    else None

-- the kind of a symbol by its code and the number of its section, which must be 0 where the kind has no
-- section
abbrev pub kind_of : ℕ → ℕ → Option SymbolKind
kind_of code section =
    if code == 0 then (if section == 0 then Some Absolute else None)
    else (if code == 1 then Some (InSection section)
    else (if code == 2 then (if section == 0 then Some External else None)
    else (if code == 3 then Some (Loaded section)
    else None)))

-- the scope of a code
abbrev pub scope_of : ℕ → Option Scope
scope_of code = if code == 0 then Some Local else (if code == 1 then Some Global else None)

-- a symbol of this kind and scope with the value and the name that the payload holds
abbrev pub symbol_with : List ℕ → SymbolKind → Scope → SymbolData
symbol_with bytes kind scope = record { kind = kind; scope = scope; value = cast_signed w32 (long_at bytes 4); name = drop 9 bytes }

-- the symbol of a payload: kind, scope, section, value, and the name with its length in the byte before it
unfoldable pub symbol_of : List ℕ → Option SymbolData
symbol_of bytes =
    if nat_lt (length bytes) 9 then None
    else (if not (slice_index bytes 8 == length (drop 9 bytes)) then None
    else option_and_then (λ kind. option_map (λ scope. symbol_with bytes kind scope) (scope_of (slice_index bytes 1)))
    (kind_of (slice_index bytes 0) (short_at bytes 2)))

-- the field of a code
abbrev pub field_of : ℕ → Option RelocationKind
field_of code = if code == 1 then Some Word16 else (if code == 2 then Some Low7 else (if code == 3 then Some Page9 else None))

-- the base of a code, with the number of the section or symbol
abbrev pub base_of : ℕ → ℕ → Option RelocationBase
base_of code index =
    if code == 0 then Some (base.Section index)
    else (if code == 1 then Some (base.External index)
    else (if code == 2 then Some (base.Loaded index)
    else None))

-- a relocation of this field and base with the section, the offset and the addend that the payload holds
abbrev pub relocation_with : List ℕ → RelocationKind → RelocationBase → Relocation
relocation_with bytes kind base = record { section = short_at bytes 0; offset = short_at bytes 2; kind = kind; base = base; addend = cast_signed w32 (long_at bytes 8) }

-- the relocation of a payload of twelve bytes: section, offset, field, base, number, addend
unfoldable pub relocation_of : List ℕ → Option Relocation
relocation_of bytes =
    if length bytes == 12
    then option_and_then (λ kind. option_map (λ base. relocation_with bytes kind base) (base_of (slice_index bytes 5) (short_at bytes 6)))
    (field_of (slice_index bytes 4))
    else None

-- the contents of a section by the flag: 0 for a size alone, 1 for a size and as many words
abbrev pub body_of : ℕ → List ℕ → Option SectionBody
body_of flag bytes =
    if nat_lt (length bytes) 4 then None
    else (if flag == 0 then (if length bytes == 4 then Some (Uninitialised (long_at bytes 0)) else None)
    else (if flag == 1 then option_and_then (λ words. if length words == long_at bytes 0 then Some (Initialised words) else None) (words_in (drop 4 bytes))
    else None))

-- the section of a payload: flag, name with its length in the byte before it, contents
unfoldable pub section_of : List ℕ → Option SectionData
section_of bytes =
    if nat_lt (length bytes) 2 then None
    else (if nat_lt (length (drop 2 bytes)) (slice_index bytes 1) then None
    else option_map (λ body. record { name = take (slice_index bytes 1) (drop 2 bytes); body = body })
    (body_of (slice_index bytes 0) (drop (slice_index bytes 1) (drop 2 bytes))))

-- the line of a payload: file, line
unfoldable pub line_of : List ℕ → Option LineMark
line_of bytes = if length bytes == 6 then Some (record { file = short_at bytes 0; line = long_at bytes 2 }) else None

-- the block of a payload: section, offset, size
unfoldable pub block_of : List ℕ → Option Block
block_of bytes =
    if length bytes == 5
    then Some (record { section = short_at bytes 0; offset = short_at bytes 2; size = slice_index bytes 4 })
    else None

-- ---- a record after others

-- the item of a payload, if there is one and it may follow, or else BadField
abbrev pub checked : {A : Type 0} → (A → Bool) → Option A → Result A ObjectFault
checked fits None = Err BadField
checked fits (Some x) = if fits x then Ok x else Err BadField

-- the greatest tag of the records so far; 1 before the first
abbrev pub latest : Contents → ℕ
latest c =
    if nat_lt 0 (length c.blocks) then 7
    else (if nat_lt 0 (length c.lines) then 6
    else (if nat_lt 0 (length c.files) then 5
    else (if nat_lt 0 (length c.relocations) then 4
    else (if nat_lt 0 (length c.symbols) then 3
    else (if nat_lt 0 (length c.marks) then 2 else 1)))))

-- the greatest tag of a version, apart from that of the last record
abbrev pub last_tag : Version → ℕ
last_tag One = 4
last_tag Two = 7

-- whether a tag is known and no greater one came before; 255 is the tag of the last record
abbrev pub is_in_order : Contents → ℕ → Bool
is_in_order c tag = nat_le (latest c) tag && (nat_le tag (last_tag c.version) || tag == 255)

-- the module so far with one more section
unfoldable pub with_section : Contents → List ℕ → Result Contents ObjectFault
with_section c payload = do
  s ← checked (section_fits c.sections) (section_of payload)
  Ok (record c { sections = c.sections ++ s ∷ [] })

-- the module so far with one more mark
unfoldable pub with_mark : Contents → List ℕ → Result Contents ObjectFault
with_mark c payload = do
  m ← checked (mark_fits c.sections c.marks) (mark_of payload)
  Ok (record c { marks = c.marks ++ m ∷ [] })

-- the module so far with one more symbol
unfoldable pub with_symbol : Contents → List ℕ → Result Contents ObjectFault
with_symbol c payload = do
  y ← checked (symbol_fits c.version c.sections c.symbols) (symbol_of payload)
  Ok (record c { symbols = c.symbols ++ y ∷ [] })

-- the module so far with one more relocation
unfoldable pub with_relocation : Contents → List ℕ → Result Contents ObjectFault
with_relocation c payload = do
  r ← checked (relocation_fits c.version c.sections c.symbols c.relocations) (relocation_of payload)
  Ok (record c { relocations = c.relocations ++ r ∷ [] })

-- the module so far with one more file
unfoldable pub with_file : Contents → List ℕ → Result Contents ObjectFault
with_file c payload = do
  name ← checked (file_fits c.files) (Some payload)
  Ok (record c { files = c.files ++ name ∷ [] })

-- the module so far with one more line
unfoldable pub with_line : Contents → List ℕ → Result Contents ObjectFault
with_line c payload = do
  l ← checked (line_fits c.marks c.files c.lines) (line_of payload)
  Ok (record c { lines = c.lines ++ l ∷ [] })

-- the module so far with one more block; before the first block each mark must have its line
unfoldable pub with_block : Contents → List ℕ → Result Contents ObjectFault
with_block c payload =
    if not (are_told c) then Err BadField
    else (checked (block_fits c.sections c.blocks) (block_of payload) >>= λ b. Ok (record c { blocks = c.blocks ++ b ∷ [] }))

-- the module so far with the item of a record with tag 1 to 7; a section must come before all other items
unfoldable pub with_record : Contents → ℕ → List ℕ → Result Contents ObjectFault
with_record c tag payload =
    if tag == 1 then with_section c payload
    else (if not (has_sections c) then Err BadField
    else (if tag == 2 then with_mark c payload
    else (if tag == 3 then with_symbol c payload
    else (if tag == 4 then with_relocation c payload
    else (if tag == 5 then with_file c payload
    else (if tag == 6 then with_line c payload
    else (if tag == 7 then with_block c payload
    else Err BadTag)))))))

-- ---- all of the bytes

-- a record: its tag and its payload
pub record Record : Type 0 where
  pub tag : ℕ
  pub payload : List ℕ

-- the record at the front, and the bytes after it
unfoldable pub record_at : List ℕ → Result (Record × List ℕ) ObjectFault
record_at bytes =
    if nat_lt (length bytes) 5 then Err Short
    else (if nat_lt (length (drop 5 bytes)) (long_at bytes 1) then Err Short
    else Ok (record { tag = slice_index bytes 0; payload = take (long_at bytes 1) (drop 5 bytes) }, drop (long_at bytes 1) (drop 5 bytes)))

-- the module at its last record, which has an empty payload and nothing after it
unfoldable pub ended : Contents → List ℕ → List ℕ → Result Contents ObjectFault
ended c payload rest =
    if has_sections c && told_by c.version c && length payload == 0 then (if length rest == 0 then Ok c else Err Trailing) else Err BadField

-- the module so far with the records from here on, at most `n`: of each record first that it is cut off, then
-- that its tag may not follow, then its payload
unfoldable pub read_from : ℕ → Contents → List ℕ → Result Contents ObjectFault
read_from zero c bytes = Err Short
read_from (suc n) c bytes = do
  found ← record_at bytes
  if not (is_in_order c found.0.tag) then Err BadTag
      else (if found.0.tag == 255 then ended c found.0.payload found.1
      else (with_record c found.0.tag found.0.payload >>= λ d. read_from n d found.1))

-- the module before the first record
abbrev pub nothing_read : Version → Contents
nothing_read version = record {
  sections = [];
  marks = [];
  symbols = [];
  relocations = [];
  version = version;
  files = [];
  lines = [];
  blocks = [];
}

-- the module of all records; a record takes at least five bytes, so there are fewer records than bytes
abbrev pub read_all : Version → List ℕ → Result Contents ObjectFault
read_all version bytes = read_from (length bytes) (nothing_read version) bytes

-- the version of a byte
abbrev pub version_of : ℕ → Result Version ObjectFault
version_of byte = if byte == 1 then Ok One else (if byte == 2 then Ok Two else Err BadVersion)

-- whether bytes begin with `C25O`
abbrev pub has_magic : List ℕ → Bool
has_magic bytes =
    nat_le 4 (length bytes) && slice_index bytes 0 == 67 && slice_index bytes 1 == 50 && slice_index bytes 2 == 53 && slice_index bytes 3 == 79

-- the module that bytes hold, or their first fault
unfoldable pub module_of : List ℕ → Result Contents ObjectFault
module_of bytes =
    if not (has_magic bytes) then Err BadMagic
    else (if not (nat_le 5 (length bytes)) then Err BadVersion
    else (version_of (slice_index bytes 4) >>= λ version. read_all version (drop 5 bytes)))
