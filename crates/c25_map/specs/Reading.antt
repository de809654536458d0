-- How the text of a map is read: fields, lines, and all of them from the front on. `read_map` returns what
-- the relation between texts and maps says; this is the way in which it does.
use Rattle.std.specs.Prelude.{ℕ, ◌+◌, ◌*◌, ◌==◌, ◌||◌, ◌&&◌, Bool, not, nat_le, List, [], ◌∷◌, ◌++◌, length, take, drop, codes, Option, Some, None, option_map, is_some, ok_or, Result, Ok, Err, if◌then◌else◌}
use Rattle.std.specs.List.{list_all, slice_split}
use Rattle.std.specs.Str.{bytes_eq}
use Rattle.c25_meaning_common.specs.Bytes.{is_digit}
use Rattle.c25_meaning_common.specs.Digits.{decimal_of, hexadecimal_of}
use Rattle.c25_meaning_linking.specs.MapText.{PartData, SectionPlace, NamedValue, MapData, is_number}
use Rattle.c25_meaning_objects.specs.Module.{is_section_name, is_symbol_name}
use Rattle.c25_meaning_linking.specs.Place.{Place}
use Rattle.c25_meaning_common.specs.Results.{◌>>=◌}
use Rattle.c25_map.specs.declared.map_fault.MapFault.{MapFault}
use Rattle.c25_map.specs.declared.map_fault.MapFault.TheVariants.{BadMap}

-- ---- fields

-- `0` to `9`, `A` to `F`
abbrev pub is_upper_digit : ℕ → Bool
is_upper_digit b = is_digit b || (nat_le 65 b && nat_le b 70)

-- the word of four hexadecimal digits in upper case
unfoldable pub word_of : List ℕ → Result ℕ MapFault
word_of digits = if list_all is_upper_digit digits then ok_or (hexadecimal_of 4 digits) BadMap else Err BadMap

-- an address: that of a word, or 65,536
unfoldable pub address_of : List ℕ → Result ℕ MapFault
address_of digits = if bytes_eq digits (codes "10000") then Ok 65536 else word_of digits

-- the number of eight hexadecimal digits in upper case
unfoldable pub long_of : List ℕ → Result ℕ MapFault
long_of digits =
    if length digits == 8 then (word_of (take 4 digits) >>= λ high. word_of (drop 4 digits) >>= λ low. Ok (65536 * high + low))
    else Err BadMap

-- the size of five decimal digits
unfoldable pub size_of : List ℕ → Result ℕ MapFault
size_of digits = if length digits == 5 then ok_or (decimal_of 99999 digits) BadMap else Err BadMap

-- the number of a page
unfoldable pub page_of : List ℕ → Result ℕ MapFault
page_of digits = if bytes_eq digits (codes "0") then Ok 0 else (if bytes_eq digits (codes "1") then Ok 1 else Err BadMap)

-- ---- what a line says

-- the part that the fields of a line say
unfoldable pub part_of : List ℕ → List ℕ → List ℕ → Result PartData MapFault
part_of number base size =
    if is_number number then (address_of base >>= λ b. size_of size >>= λ s. Ok (record { number = number; base = b; size = s }))
    else Err BadMap

-- the section that the fields of a line say, without its parts
unfoldable pub place_of : List ℕ → List ℕ → List ℕ → List ℕ → Result Place MapFault
place_of page base size name =
    if is_section_name name then (page_of page >>= λ p. word_of base >>= λ b. size_of size >>= λ s. Ok (record { name = name; page = p; base = b; size = s; run = None }))
    else Err BadMap

-- the value and the name that the fields of a line say
unfoldable pub value_of : List ℕ → List ℕ → Result NamedValue MapFault
value_of value name =
    if is_symbol_name name then (long_of value >>= λ v. Ok (record { name = name; value = v }))
    else Err BadMap

-- ---- a map and one line more

-- whether neither symbols nor an entry have come yet
abbrev pub is_open : MapData → Bool
is_open m = length m.symbols == 0 && not (is_some m.entry)

-- the map with a section more
unfoldable pub with_section : MapData → Place → Result MapData MapFault
with_section m place =
    if is_open m then Ok (record m { sections = m.sections ++ record { place = place; parts = [] } ∷ [] }) else Err BadMap

-- the sections with a part more of the last one
abbrev pub onto_last : List SectionPlace → PartData → Option (List SectionPlace)
onto_last [] part = None
onto_last (s ∷ []) part = Some (record s { parts = s.parts ++ part ∷ [] } ∷ [])
onto_last (s ∷ t ∷ more) part = option_map (λ rest. s ∷ rest) (onto_last (t ∷ more) part)

-- the map with a part more of its last section
unfoldable pub with_part : MapData → PartData → Result MapData MapFault
with_part m part =
    if is_open m then ok_or (option_map (λ sections. record m { sections = sections }) (onto_last m.sections part)) BadMap else Err BadMap

-- whether a section already has a run address or a part
abbrev pub is_settled : SectionPlace → Bool
is_settled s = is_some s.place.run || not (length s.parts == 0)

-- the sections with the address where the last one runs, which comes once and before its parts
abbrev pub run_of_last : List SectionPlace → ℕ → Option (List SectionPlace)
run_of_last [] run = None
run_of_last (s ∷ []) run = if is_settled s then None else Some (record s { place = record s.place { run = Some run } } ∷ [])
run_of_last (s ∷ t ∷ more) run = option_map (λ rest. s ∷ rest) (run_of_last (t ∷ more) run)

-- the map with the address where its last section runs
unfoldable pub with_run : MapData → ℕ → Result MapData MapFault
with_run m run =
    if is_open m then ok_or (option_map (λ sections. record m { sections = sections }) (run_of_last m.sections run)) BadMap else Err BadMap

-- the map with a symbol more
unfoldable pub with_symbol : MapData → NamedValue → Result MapData MapFault
with_symbol m symbol = if is_some m.entry then Err BadMap else Ok (record m { symbols = m.symbols ++ symbol ∷ [] })

-- the map with its entry
unfoldable pub with_entry : MapData → NamedValue → Result MapData MapFault
with_entry m entry = if is_some m.entry then Err BadMap else Ok (record m { entry = Some entry })

-- ---- lines

-- the map with what the fields of a line say
unfoldable pub with_fields : MapData → List (List ℕ) → Result MapData MapFault
with_fields m (kind ∷ run ∷ []) = if bytes_eq kind (codes "RUN") then (word_of run >>= λ r. with_run m r) else Err BadMap
with_fields m (kind ∷ value ∷ name ∷ []) =
    if bytes_eq kind (codes "SYMBOL") then (value_of value name >>= λ symbol. with_symbol m symbol)
    else (if bytes_eq kind (codes "ENTRY") then (value_of value name >>= λ entry. with_entry m entry)
    else Err BadMap)
with_fields m (kind ∷ number ∷ base ∷ size ∷ []) =
    if bytes_eq kind (codes "PART") then (part_of number base size >>= λ part. with_part m part) else Err BadMap
with_fields m (kind ∷ page ∷ base ∷ size ∷ name ∷ []) =
    if bytes_eq kind (codes "SECTION") then (place_of page base size name >>= λ place. with_section m place) else Err BadMap
with_fields m _ = Err BadMap

-- the parts of a text between one character and the next
abbrev pub cut : ℕ → List ℕ → List (List ℕ)
cut separator text = slice_split (λ b. b == separator) text

-- the map with what a line says
abbrev pub with_line : MapData → List ℕ → Result MapData MapFault
with_line m line = with_fields m (cut 32 line)

-- the map, if the end of its line and nothing else follows `END`
abbrev pub finished : MapData → List (List ℕ) → Result MapData MapFault
finished m ([] ∷ []) = Ok m
finished m _ = Err BadMap

-- the map with what lines say, up to the last one
unfoldable pub with_lines : MapData → List (List ℕ) → Result MapData MapFault
with_lines m [] = Err BadMap
with_lines m (line ∷ rest) = if bytes_eq line (codes "END") then finished m rest else (with_line m line >>= λ n. with_lines n rest)

-- the map before the first line
abbrev pub nothing : MapData
nothing = record { sections = []; symbols = []; entry = None }

-- the map of the lines after a first line `C25 MAP 1`
unfoldable pub with_head : List (List ℕ) → Result MapData MapFault
with_head (head ∷ lines) = if bytes_eq head (codes "C25 MAP 1") then with_lines nothing lines else Err BadMap
with_head [] = Err BadMap

-- the map of a text
abbrev pub map_of : List ℕ → Result MapData MapFault
map_of text = with_head (cut 10 text)
