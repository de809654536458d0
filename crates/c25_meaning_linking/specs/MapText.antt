-- The text of the map that the linker prints (this project's own; SPRU018's linker has a map of another
-- form).
use Rattle.std.specs.Prelude.{◌≡◌, ℕ, ◌+◌, ◌/◌, ◌%◌, ◌<◌, ◌≤◌, ◌^◌, ◌==◌, List, [], ◌∷◌, ◌++◌, Option, Some, None, IfSome, All, Bool, codes, true, length, slice_index, nat_lt, ◌&&◌, ◌||◌, not, if◌then◌else◌}
use Rattle.std.specs.List.{flat_map, list_all}
use Rattle.std.specs.Fmt.{decimal}
use Rattle.c25_meaning_common.specs.Bytes.{is_digit}
use Rattle.c25_meaning_objects.specs.Module.{is_section_name, is_symbol_name}
use Rattle.c25_meaning_linking.specs.Place.{Place}
use Rattle.c25_meaning_common.specs.Digits.{four_digits}

-- ---- maps

-- the part that a module adds to a section: the module's number in decimal digits, which may be of any size,
-- the address of the part's first word, and its size
pub record PartData : Type 0 where
  pub number : List ℕ
  pub base : ℕ
  pub size : ℕ

-- a section with its parts
pub record SectionPlace : Type 0 where
  pub place : Place
  pub parts : List PartData

-- a name and its value
pub record NamedValue : Type 0 where
  pub name : List ℕ
  pub value : ℕ

-- a map: the sections in the order of placement, the global symbols, and the entry if one is named
pub record MapData : Type 0 where
  pub sections : List SectionPlace
  pub symbols : List NamedValue
  pub entry : Option NamedValue

-- ---- the text of maps

-- a line of the map, which ends in LF
abbrev pub map_line : List ℕ → List ℕ
map_line text = text ++ 10 ∷ []

-- an address in four hexadecimal digits; 65,536, which an empty part may have, in five
abbrev pub address_text : ℕ → List ℕ
address_text address = if address == 65536 then codes "10000" else four_digits address

-- the character of the last decimal digit of a number
abbrev pub decimal_digit : ℕ → ℕ
decimal_digit n = 48 + n % 10

-- the last five decimal digits of a number: all of one below 100,000
abbrev pub five_digits : ℕ → List ℕ
five_digits n = decimal_digit (n / 10000) ∷ decimal_digit (n / 1000) ∷ decimal_digit (n / 100) ∷ decimal_digit (n / 10) ∷ decimal_digit n ∷ []

-- a number in eight hexadecimal digits
unfoldable pub eight_digits : ℕ → List ℕ
eight_digits n = four_digits (n / 65536) ++ four_digits (n % 65536)

-- the line of a part
unfoldable pub part_text : PartData → List ℕ
part_text p = map_line (codes "PART " ++ p.number ++ codes " " ++ address_text p.base ++ codes " " ++ five_digits p.size)

-- the line of a section
unfoldable pub place_text : Place → List ℕ
place_text p = map_line (codes "SECTION " ++ decimal p.page ++ codes " " ++ four_digits p.base ++ codes " " ++ five_digits p.size ++ codes " " ++ p.name)

-- the line of a section's run address, if it has one
abbrev pub run_lines : Option ℕ → List ℕ
run_lines None = []
run_lines (Some run) = map_line (codes "RUN " ++ four_digits run)

-- the lines of a section and of its parts
abbrev pub section_text : SectionPlace → List ℕ
section_text s = place_text s.place ++ run_lines s.place.run ++ flat_map part_text s.parts

-- the line of a value and its name, without the keyword in front
unfoldable pub value_text : NamedValue → List ℕ
value_text n = map_line (eight_digits n.value ++ codes " " ++ n.name)

-- the line of a symbol
abbrev pub symbol_text : NamedValue → List ℕ
symbol_text n = codes "SYMBOL " ++ value_text n

-- the line of the entry
abbrev pub entry_text : NamedValue → List ℕ
entry_text n = codes "ENTRY " ++ value_text n

-- the line of the entry, if there is one
abbrev pub entry_lines : Option NamedValue → List ℕ
entry_lines None = []
entry_lines (Some entry) = entry_text entry

-- the text of a map
abbrev pub map_text : MapData → List ℕ
map_text m =
    map_line (codes "C25 MAP 1") ++ flat_map section_text m.sections ++ flat_map symbol_text m.symbols ++ entry_lines m.entry ++ map_line (codes "END")

-- ---- the maps that have a text

-- whether digits are a decimal number without leading zeros
abbrev pub is_number : List ℕ → Bool
is_number digits = nat_lt 0 (length digits) && list_all is_digit digits && (length digits == 1 || not (slice_index digits 0 == 48))

-- a part whose numbers fit the columns of its line
pub record IsPrintedPart (p : PartData) : Type 0 where
  pub number : is_number p.number ≡ true
  pub base : p.base ≤ 65536
  pub size : p.size ≤ 99999

-- a section whose name is valid and whose numbers fit the columns of its lines
pub record IsPrintedSection (s : SectionPlace) : Type 0 where
  pub name : is_section_name s.place.name ≡ true
  pub page : s.place.page ≤ 1
  pub base : s.place.base < 65536
  pub size : s.place.size ≤ 99999
  pub run : IfSome s.place.run (λ run. run < 65536)
  pub parts : All IsPrintedPart s.parts

-- a section whose addresses fit the columns of its lines
pub record HasDigits (s : SectionPlace) : Type 0 where
  pub base : s.place.base < 65536
  pub run : IfSome s.place.run (λ run. run < 65536)
  pub parts : All (λ p. p.base ≤ 65536) s.parts

-- a symbol whose name is valid and whose value has 32 bits
pub record IsPrintedValue (n : NamedValue) : Type 0 where
  pub name : is_symbol_name n.name ≡ true
  pub value : n.value < 2 ^ 32

-- a map all of whose lines are valid
pub record IsPrinted (m : MapData) : Type 0 where
  pub sections : All IsPrintedSection m.sections
  pub symbols : All IsPrintedValue m.symbols
  pub entry : IfSome m.entry IsPrintedValue

-- a text is that of this map; each map has one text, and each text is that of at most one map
pub record IsMapOf (text : List ℕ) (m : MapData) : Type 0 where
  pub printed : IsPrinted m
  pub text_is : text ≡ map_text m
