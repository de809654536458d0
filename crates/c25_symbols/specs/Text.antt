-- The text that lists the symbols of a program by name, and after them the ranges of its memories (this
-- project's own).
use Rattle.std.specs.Prelude.{ℕ, ◌-◌, List, ◌++◌, codes, nat_lt, if◌then◌else◌}
use Rattle.std.specs.Fmt.{decimal}
use Rattle.std.specs.List.{flat_map}
use Rattle.c25_meaning_linking.specs.Command.{RangeData}
use Rattle.c25_meaning_common.specs.Digits.{four_digits}
use Rattle.c25_meaning_objects.specs.Module.{Contents}
use Rattle.c25_meaning_objects.specs.declared.object.SymbolKind.{SymbolKind}
use Rattle.c25_meaning_objects.specs.declared.object.SymbolKind.TheVariants.{Absolute, InSection, Loaded, External}
use Rattle.c25_meaning_linking.specs.MapText.{map_line, five_digits, eight_digits}
use Rattle.c25_meaning_linking.specs.Place.{Place}
use Rattle.c25_symbols.specs.Symbols.{Listed, symbols_by_name}
use Rattle.c25_symbols.specs.Used.{used_in}

-- a value of 16 bits in four hexadecimal digits, any other in eight
abbrev pub value_digits : ℕ → List ℕ
value_digits n = if nat_lt n 65536 then four_digits n else eight_digits n

-- the keyword of a symbol's kind: a number, an address in its section, one where its section is loaded, or a
-- symbol of another module, which is not listed
abbrev pub kind_text : SymbolKind → List ℕ
kind_text Absolute = codes "SET"
kind_text (InSection index) = codes "IN"
kind_text (Loaded index) = codes "LOAD"
kind_text External = codes "REF"

-- the keyword of a symbol's kind, its section, and the source of its module
unfoldable pub place_words : Listed → List ℕ
place_words y = kind_text y.kind ++ codes " " ++ y.section ++ codes " " ++ y.source

-- the line of a symbol
unfoldable pub symbol_line : Listed → List ℕ
symbol_line y = map_line (codes "SYMBOL " ++ value_digits y.value ++ codes " " ++ place_words y ++ codes " " ++ y.name)

-- so many words, how many of them are used, and how many are free
unfoldable pub word_counts : ℕ → ℕ → List ℕ
word_counts size used = five_digits size ++ codes " " ++ five_digits used ++ codes " " ++ five_digits (size - used)

-- the line of a range: its page, the address of its first word, its words, and its name
unfoldable pub range_line : List Place → RangeData → List ℕ
range_line places r =
    map_line (codes "RANGE " ++ decimal r.page ++ codes " " ++ four_digits r.origin ++ codes " " ++ word_counts r.size (used_in places r) ++ codes " " ++ r.name)

-- the text of modules whose sources have these names, whose sections stand at these places, in these ranges
abbrev pub symbols_text : List Contents → List (List ℕ) → List Place → List RangeData → List ℕ
symbols_text modules sources places ranges =
    map_line (codes "C25 SYMBOLS 1") ++ flat_map symbol_line (symbols_by_name modules sources places) ++ flat_map (range_line places) ranges
    ++ map_line (codes "END")
