-- The text of a module: for each section a heading, and for each of its places the labels and the line of the
-- word there (this project's own).
use Rattle.std.specs.Prelude.{◌≡◌, ℕ, zero, suc, ℤ, pos, negsuc, ◌+◌, Bool, true, false, ◌==◌, ◌&&◌, List, [], ◌++◌, length, filter, find, codes, if◌then◌else◌, Option, Some, None}
use Rattle.std.specs.Fmt.{decimal, signed_decimal}
use Rattle.std.specs.List.{flat_map, slice_get}
use Rattle.std.specs.Ordering.{int_eq}
use Rattle.c25_meaning_common.specs.Digits.{four_digits}
use Rattle.c25_meaning_instructions.specs.declared.insn.Insn.{Insn}
use Rattle.c25_meaning_objects.specs.Module.{Contents, SectionBody, SectionData, SymbolData, Uninitialised, Initialised, body_size, words_at}
use Rattle.c25_meaning_objects.specs.declared.object.ModuleMark.{ModuleMark}
use Rattle.c25_meaning_objects.specs.declared.object.Relocation.{Relocation}
use Rattle.c25_meaning_objects.specs.declared.object.RelocationBase.{RelocationBase}
use Rattle.c25_meaning_objects.specs.declared.object.RelocationBase.TheVariants as base
use Rattle.c25_meaning_objects.specs.declared.object.SymbolKind.{SymbolKind}
use Rattle.c25_meaning_objects.specs.declared.object.SymbolKind.TheVariants.{Absolute, InSection, Loaded, External}
use Rattle.c25_dis.specs.Lines.{ReadAs, line_text}

-- ---- labels

-- whether values of a kind count from a section
abbrev pub counts_from : ℕ → SymbolKind → Bool
counts_from section Absolute = false
counts_from section (InSection number) = number == section
counts_from section (Loaded number) = number == section
counts_from section External = false

-- whether a symbol stands at a place of a section
abbrev pub stands_at : ℕ → ℕ → SymbolData → Bool
stands_at section place y = counts_from section y.kind && int_eq y.value (pos place)

-- a place in four digits; the place after the last of 65,536 words in five
abbrev pub place_text : ℕ → List ℕ
place_text place = if place == 65536 then codes "10000" else four_digits place

-- the line of a symbol at its place
abbrev pub label_line : ℕ → List ℕ → List ℕ
label_line place name = place_text place ++ codes " " ++ name ++ codes ":\n"

-- the lines of the symbols at a place
abbrev pub labels_at : Contents → ℕ → ℕ → List ℕ
labels_at m section place = flat_map (λ y. label_line place y.name) (filter (stands_at section place) m.symbols)

-- ---- what is filled in when modules are linked

-- the name of the section of a number
abbrev pub section_name : Contents → ℕ → List ℕ
section_name m number = elim (slice_get m.sections number) [ None ↦ [] | Some s ↦ s.name ]

-- the name of the symbol of a number
abbrev pub symbol_name : Contents → ℕ → List ℕ
symbol_name m number = elim (slice_get m.symbols number) [ None ↦ [] | Some y ↦ y.name ]

-- the name of what an addend is added to, after `load of` for the address where a section is loaded
abbrev pub base_text : Contents → RelocationBase → List ℕ
base_text m (base.Section number) = section_name m number
base_text m (base.Loaded number) = codes "load of " ++ section_name m number
base_text m (base.External number) = symbol_name m number

-- an addend with its sign; nothing for 0
abbrev pub addend_text : ℤ → List ℕ
addend_text (pos zero) = []
addend_text (pos (suc n)) = codes "+" ++ signed_decimal (pos (suc n))
addend_text (negsuc n) = signed_decimal (negsuc n)

-- the note of what a relocation fills in, after a line's text
abbrev pub filled_text : Contents → Relocation → List ℕ
filled_text m r = codes "  ; " ++ base_text m r.base ++ addend_text r.addend

-- the relocation of the word at a place
abbrev pub relocation_at : Contents → ℕ → ℕ → Option Relocation
relocation_at m section place = find (λ r. r.section == section && r.offset == place) m.relocations

-- the note of what is filled in at a place
abbrev pub note_at : Contents → ℕ → ℕ → List ℕ
note_at m section place = elim (relocation_at m section place) [ None ↦ [] | Some r ↦ filled_text m r ]

-- ---- the line of a word

-- the mark of an instruction that starts at a place
abbrev pub mark_at : Contents → ℕ → ℕ → Option ModuleMark
mark_at m section place = find (λ x. x.section == section && x.offset == place) m.marks

-- whether the instruction of a mark has two words
abbrev pub is_long : Option ModuleMark → Bool
is_long None = false
is_long (Some mark) = mark.size == 2

-- whether the word at a place is the second of an instruction
abbrev pub is_second : Contents → ℕ → ℕ → Bool
is_second m section zero = false
is_second m section (suc place) = is_long (mark_at m section place)

-- the word after a place, where it is the second of a line
abbrev pub second_by : Bool → List ℕ → ℕ → Option ℕ
second_by true words place = slice_get words (place + 1)
second_by false words place = None

-- the second word of the line at a place of the section of a number, if it has one
abbrev pub second_at : Contents → ℕ → ℕ → Option ℕ
second_at m section place = second_by (is_long (mark_at m section place)) (words_at m.sections section) place

-- the notes of what is filled into the words of the line at a place
abbrev pub notes_by : Option ℕ → Contents → ℕ → ℕ → List ℕ
notes_by None m section place = note_at m section place
notes_by (Some second) m section place = note_at m section place ++ note_at m section (place + 1)

-- words are read where a mark says that an instruction starts there, and are data elsewhere
abbrev pub IsReadBy : Option ModuleMark → ℕ → Option ℕ → Option Insn → Type 0
IsReadBy None first second insn = insn ≡ None
IsReadBy (Some mark) first second insn = ReadAs first second insn

-- a text is the line of the word at a place
pub record IsLineAt (m : Contents) (section place first : ℕ) (text : List ℕ) : Type 0 where
  pub insn : Option Insn
  pub read : IsReadBy (mark_at m section place) first (second_at m section place) insn
  pub text_is : text ≡ line_text place first (second_at m section place) insn ++ notes_by (second_at m section place) m section place ++ codes "\n"

-- there is no line where there is no word, and where the word is in the line before
abbrev pub IsWordAt : Contents → ℕ → ℕ → Option ℕ → Bool → List ℕ → Type 0
IsWordAt m section place None second text = text ≡ []
IsWordAt m section place (Some first) true text = text ≡ []
IsWordAt m section place (Some first) false text = IsLineAt m section place first text

-- a text is that of a place: its labels, and the line of its word
pub record IsPlace (m : Contents) (section place : ℕ) (text : List ℕ) : Type 0 where
  pub line : List ℕ
  pub word : IsWordAt m section place (slice_get (words_at m.sections section) place) (is_second m section place) line
  pub text_is : text ≡ labels_at m section place ++ line

-- ---- sections

-- a text is those of the first n numbers, one after the other
abbrev pub AreTexts : (ℕ → List ℕ → Type 0) → ℕ → List ℕ → Type 0
AreTexts Is zero text = text ≡ []
AreTexts Is (suc n) text = (before last : List ℕ) × AreTexts Is n before × Is n last × (text ≡ before ++ last)

-- the body of a section in words
abbrev pub body_text : SectionBody → List ℕ
body_text (Uninitialised size) = codes "reserves " ++ decimal size
body_text (Initialised words) = codes "initialised"

-- the heading of a section
abbrev pub heading : SectionData → List ℕ
heading s = codes "section " ++ s.name ++ codes " " ++ body_text s.body ++ codes "\n"

-- a text is a section's: its heading, and the text of each place, also of the one after the last word
pub record IsSection (m : Contents) (section : ℕ) (s : SectionData) (text : List ℕ) : Type 0 where
  pub places : List ℕ
  pub each : AreTexts (IsPlace m section) (body_size s.body + 1) places
  pub text_is : text ≡ heading s ++ places

-- a text is that of a section, if there is one; it is empty otherwise
abbrev pub IsSectionBy : Contents → ℕ → Option SectionData → List ℕ → Type 0
IsSectionBy m section None text = text ≡ []
IsSectionBy m section (Some s) text = IsSection m section s text

-- a text is that of the section of a number
abbrev pub IsSectionAt : Contents → ℕ → List ℕ → Type 0
IsSectionAt m section text = IsSectionBy m section (slice_get m.sections section) text

-- a text is a module's: its sections in their order
abbrev pub IsModuleText : Contents → List ℕ → Type 0
IsModuleText m text = AreTexts (IsSectionAt m) (length m.sections) text
