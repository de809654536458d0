-- What is shown next to the line of a fault, in whole lines.
use Rattle.std.specs.Prelude.{ℕ, zero, suc, ◌&&◌, ℤ, pos, negsuc, List, [], ◌∷◌, ◌++◌, Option, Some, None, codes, nat_lt, if◌then◌else◌}
use Rattle.std.specs.Fmt.{decimal, signed_decimal}
use Rattle.c25_cmd.specs.Refused.{Character, End, RefusedAtData, Word}
use Rattle.c25_link.specs.Misfits.{MisfitData}
use Rattle.c25_link_faults.specs.Overlaps.{SpanData}
use Rattle.c25_meaning_common.specs.Digits.{four_digits, two_digits}
use Rattle.c25_meaning_common.specs.Faults.{placed_text}
use Rattle.c25_meaning_objects.specs.declared.object.RelocationBase.{RelocationBase}
use Rattle.c25_meaning_objects.specs.declared.object.RelocationBase.TheVariants as base
use Rattle.c25_place.specs.Missing.{Any, MissingData, Named, OnPage}

-- ---- a command that is refused: 60 to 63

-- a visible character of ASCII as it is, any other byte by its digits
abbrev pub byte_text : ℕ → List ℕ
byte_text b = if nat_lt 32 b && nat_lt b 127 then b ∷ [] else codes "byte " ++ two_digits b ++ codes "h"

-- what stands at a fault of a command file, and in which column
abbrev pub standing_text : RefusedAtData → List ℕ
standing_text (Word column text) = codes "column " ++ decimal column ++ codes ": " ++ text
standing_text (Character column b) = codes "column " ++ decimal column ++ codes ": " ++ byte_text b
standing_text End = codes "the text ends here"

-- the line of the file's name and number with what stands at the fault
abbrev pub refused_text : List ℕ → ℕ → RefusedAtData → List ℕ
refused_text file line standing = placed_text file line (standing_text standing) ++ codes "\n"

-- ---- a section without a range: 72

-- the page, where the command names one
abbrev pub page_text : Option ℕ → List ℕ
page_text None = []
page_text (Some page) = codes " on page " ++ decimal page

-- the section is to stand in a range of this name
unfoldable pub in_text : List ℕ → List ℕ
in_text name = codes " is to stand in " ++ name ++ codes ", and no range has this name"

-- the section is to stand on this page
unfoldable pub on_text : ℕ → List ℕ
on_text page = codes " is to stand on page " ++ decimal page ++ codes ", which has no range"

-- the section is to stand anywhere
unfoldable pub anywhere_text : List ℕ
anywhere_text = codes " is to stand anywhere, and there is no range"

-- where the section is to stand, and what is missing there
abbrev pub lack_text : MissingData → List ℕ
lack_text (Named name page) = in_text name ++ page_text page
lack_text (OnPage page) = on_text page
lack_text Any = anywhere_text

-- the name of the command file, the section, and the range that is missing for it
abbrev pub missing_text : List ℕ → List ℕ → MissingData → List ℕ
missing_text file section range = file ++ codes ": " ++ section ++ lack_text range ++ codes "\n"

-- ---- a field that does not take its value: 75

-- an addend with its sign; nothing for 0
abbrev pub addend_text : ℤ → List ℕ
addend_text (pos zero) = []
addend_text (pos (suc n)) = codes "+" ++ signed_decimal (pos (suc n))
addend_text (negsuc n) = signed_decimal (negsuc n)

-- the name of what an addend is added to
abbrev pub base_text : RelocationBase → List ℕ → List ℕ
base_text (base.Section index) name = name
base_text (base.Loaded index) name = codes "load of " ++ name
base_text (base.External index) name = name

-- the text before the address of a field
unfoldable pub at_text : List ℕ
at_text = codes "the field at "

-- an address, in four hexadecimal digits
unfoldable pub address_text : ℕ → List ℕ
address_text address = four_digits address

-- the section of a field
unfoldable pub place_text : List ℕ → List ℕ
place_text section = codes " in " ++ section

-- where a field is: its address and its section
unfoldable pub field_text : MisfitData → List ℕ
field_text f = at_text ++ address_text f.address ++ place_text f.section

-- the value that a field does not take
unfoldable pub untaken_text : ℤ → List ℕ
untaken_text value = codes " does not take " ++ signed_decimal value ++ codes ", which is "

-- the value that a field does not take, and the base and the addend that it is the sum of
unfoldable pub value_text : MisfitData → List ℕ
value_text f = untaken_text f.value ++ base_text f.base f.name ++ addend_text f.addend

-- the name of the module's file, the module's number, where the field is, and its value
abbrev pub misfit_text : List ℕ → MisfitData → List ℕ
misfit_text file f = file ++ codes ": module " ++ decimal f.number ++ codes ": " ++ field_text f ++ value_text f ++ codes "\n"

-- ---- the modules that have a name: 70, 71, 76

-- what a module does with a name: it uses it, defines it for all modules, or defines it for itself alone
pub data Deed : Type 0 where
  Uses : Deed
  Defines : Deed
  Keeps : Deed

-- what a module does with a name
unfoldable pub deed_text : Deed → List ℕ → List ℕ
deed_text Uses name = codes " uses " ++ name
deed_text Defines name = codes " defines " ++ name
deed_text Keeps name = codes " defines " ++ name ++ codes " without .def " ++ name

-- the name of the module's file, the module's number, and what it does with the name
abbrev pub site_text : List ℕ → ℕ → Deed → List ℕ → List ℕ
site_text file number deed name = file ++ codes ": module " ++ decimal number ++ deed_text deed name ++ codes "\n"

-- that no module defines a name
abbrev pub nowhere_text : List ℕ → List ℕ
nowhere_text name = codes "no module defines " ++ name ++ codes "\n"

-- ---- two sections that share a word: 74

-- the first and the last word of a section
unfoldable pub words_text : SpanData → List ℕ
words_text s = codes ": words " ++ address_text s.first ++ codes " to " ++ address_text s.last

-- the name of a section, its first and its last word, and its page
abbrev pub span_text : SpanData → List ℕ
span_text s = s.name ++ words_text s ++ codes " of page " ++ decimal s.page ++ codes "\n"
