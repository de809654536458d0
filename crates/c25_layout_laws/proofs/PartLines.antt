-- The lines of parts, and what they are read as.
use Rattle.std.proofs.Common.{◌≡◌, ℕ, ◌/◌, ◌%◌, ◌<◌, ◌≤◌, ◌&&◌, true, List, [], ◌∷◌, ◌++◌, length, nat_le, codes, Option, Some, None, refl, ap, sym, ◌∙◌, arith, append_assoc, append-nil, subst}
use Rattle.std.specs.Prelude.{string_bytes, String}
use Rattle.std.specs.List.{list_all, flat_map}
use Rattle.std.specs.Option.{option_map}
use Rattle.std.specs.declared.alloc.Global.{Global}
use Rattle.std.proofs.lemmas.Bool.{and_from, and_parts}
use Rattle.std.proofs.lemmas.Bool.Decides.{nat_tests}
use Rattle.std.proofs.lemmas.List.{length-append}
use Rattle.std.proofs.lemmas.List.Folds.{list_all-append}
use Rattle.c25_layout.specs.SourceText.{item_text, label_text, load_line, part_text, row_text, section_text, source_text}
use Rattle.c25_layout.specs.declared.layout.Part.{Part}
use Rattle.c25_layout.specs.declared.layout.Row.{Row}
use Rattle.c25_meaning_assembly.specs.AssemblyLine.{AssemblyAct, Enter, Label, Put, Statement}
use Rattle.c25_meaning_common.specs.Bytes.{goes_on_name}
use Rattle.c25_meaning_common.specs.Digits.{four_digits, hex_digit}
use Rattle.c25_meaning_expansion.specs.Acts.{directive_of as expanding_of}
use Rattle.c25_meaning_expansion.specs.ExpansionRules.{directive_in as expanding}
use Rattle.c25_print_laws.proofs.Lines.{is_free, is_unmoved, is_word, spaced, unmoved_of, word_parts}
use Rattle.c25_print_laws.proofs.Numerals.{all_of}
use Rattle.c25_print_laws.proofs.ReadBack.{six}
use Rattle.c25_print_laws.proofs.Tokens.{Word, is_quiet}
use Rattle.c25_print_laws.proofs.Words.{name}
use Rattle.c25_layout_laws.proofs.DataRows.{item_read}
use Rattle.c25_layout_laws.proofs.LabelledLines.{IsLabelField, first_is}
use Rattle.c25_layout_laws.proofs.PlainSources.{AreLines, IsLine, both_lines, text_of_lines}
use Rattle.c25_layout_laws.proofs.Remarked.{AreAfter, before_after, last_after, remark, spaced_quiet}
use Rattle.c25_layout_laws.proofs.RowItems.{ReadsItem}
use Rattle.c25_layout_laws.proofs.Shown.{Says, label_field, label_says, no_label, section_lexed, section_says, section_string}
use Rattle.c25_layout_laws.proofs.Targets.{name_bytes, name_lexed}
use Rattle.c25_layout.specs.Layouts.{IsLabel, IsRow}
use Rattle.c25_layout_laws.specs.Listed.{section_of}

-- ---- one line

quiet_goes_on : (b : ℕ) → goes_on_name b ≡ true → is_quiet b ≡ true
quiet_goes_on b h = grind (arith, nat_tests)

-- a field of column 1 with its bytes
pub record IsColumn (field : List ℕ) (label : Option (List ℕ)) : Type 0 where
  pub is : IsLabelField field label
  pub quiet : list_all is_quiet field ≡ true
  pub short : length field ≤ 128

pub column_of : (l : Option (String Global)) → IsLabel l → IsColumn (label_text l) (option_map string_bytes l)
column_of None h = record { is = no_label; quiet = refl; short = omega arith }
column_of (Some text) h = record { is = label_field (string_bytes text) h.0 h.1; quiet = all_of goes_on_name is_quiet (string_bytes text) quiet_goes_on (name_bytes (string_bytes text) h.0); short = h.1 }

line_read : (field : List ℕ) (label : Option (List ℕ)) (word : List ℕ) (tokens : List Word) (tail : List ℕ) (act : AssemblyAct) → IsColumn field label → is_word word ≡ true → is_free word ≡ true → AreAfter tokens tail
    → list_all is_quiet tail ≡ true → length tail ≤ 800 → Says word tokens act → IsLine (field ++ 9 ∷ (word ++ tail)) (record { label = label; act = act })
line_read field label word tokens tail act column first free after quiet short says =
    let parts = word_parts word first in
    let two = and_parts (list_all is_quiet word && nat_le (length word) 20) (is_unmoved (expanding (Some word))) free in
    let one = and_parts (list_all is_quiet word) (nat_le (length word) 20) two.0 in
    let few : length word ≤ 20 = let has = one.1 in grind (arith, nat_tests) in
    record {
      read = says field label tail column.is after;
      quiet = record {
        unmoved = ap expanding (first_is field word tail label column.is parts.0 parts.1 parts.2 after.ends) ∙ unmoved_of (expanding (Some word)) two.1;
        quiet = list_all-append is_quiet field (9 ∷ (word ++ tail))
            ∙ and_from (list_all is_quiet field) (list_all is_quiet (9 ∷ (word ++ tail))) column.quiet (list_all-append is_quiet word tail ∙ and_from (list_all is_quiet word) (list_all is_quiet tail) one.0 quiet);
        short =
            let a = length-append field (9 ∷ (word ++ tail)) in
            let b = length-append word tail in
            let c = column.short in
            omega (arith, a, b, c, few, short);
      };
    }

empty_column : IsColumn [] None
empty_column = record { is = no_label; quiet = refl; short = omega arith }

-- ---- rows

quiet_digit : (n : ℕ) → n < 16 → is_quiet (hex_digit n) ≡ true
quiet_digit n h = grind (arith, nat_tests)

quiet_remark : (address : ℕ) → list_all is_quiet (remark (32 ∷ four_digits address)) ≡ true
quiet_remark address = rw (quiet_digit (address / 256 / 16 % 16) (omega arith), quiet_digit (address / 256 % 16) (omega arith), quiet_digit (address / 16 % 16) (omega arith), quiet_digit (address % 16) (omega arith)) refl

abbrev pub label_of : Option (String Global) → Option (List ℕ)
label_of l = option_map string_bytes l

-- what a row is read as
pub record ReadsRow (r : Row) : Type 0 where
  pub item : ReadsItem r.item
  pub label : IsLabel r.label
  pub load_label : IsLabel r.load_label

pub row_read : (value : List ℕ → Option ℕ) (r : Row) → IsRow value r → ReadsRow r
row_read value r h = record { item = item_read value r.item h.item h.some; label = h.label; load_label = h.load_label }

-- its lines
abbrev pub load_lines : Option (String Global) → List (List ℕ)
load_lines None = []
load_lines (Some text) = (9 ∷ (codes ".label" ++ spaced (name (string_bytes text) ∷ []))) ∷ []

abbrev pub main_line : Row → List ℕ
main_line r = label_text r.label ++ 9 ∷ (item_text r.item ++ remark (32 ∷ four_digits r.address))

abbrev pub row_lines : Row → List (List ℕ)
row_lines r = load_lines r.load_label ++ main_line r ∷ []

-- their statements
abbrev pub load_statements : Option (String Global) → List Statement
load_statements None = []
load_statements (Some text) = record { label = None; act = Label (string_bytes text) } ∷ []

abbrev pub main_statement : (r : Row) → ReadsRow r → Statement
main_statement r x = record { label = label_of r.label; act = Put x.item.put x.item.trees }

abbrev pub row_statements : (r : Row) → ReadsRow r → List Statement
row_statements r x = load_statements r.load_label ++ main_statement r x ∷ []

free_label : is_free (codes ".label") ≡ true
unfolding expanding_of
free_label = refl

free_sect : is_free (codes ".sect") ≡ true
unfolding expanding_of
free_sect = refl

load_read : (l : Option (String Global)) → IsLabel l → AreLines (load_lines l) (load_statements l)
load_read None h = tt
load_read (Some text) h =
    let lexed = name_lexed (string_bytes text) [] h.0 h.1 refl tt in
    let size = length-append (string_bytes text) [] in
    let few = h.1 in (
      line_read [] None (codes ".label") (name (string_bytes text) ∷ []) (spaced (name (string_bytes text) ∷ [])) (Label (string_bytes text)) empty_column refl free_label
          (last_after (name (string_bytes text) ∷ []) lexed) (spaced_quiet (name (string_bytes text) ∷ []) lexed) (omega (arith, size, few)) (label_says (string_bytes text)),
      tt,
    )

main_read : (r : Row) (x : ReadsRow r) → IsLine (main_line r) (main_statement r x)
main_read r x =
    let i = x.item in
    let more = 32 ∷ four_digits r.address in
    let tail = spaced i.tokens ++ remark more in
    let size = length-append (spaced i.tokens) (remark more) in
    let short = i.short in
    let shown : item_text r.item ++ remark more ≡ i.word ++ tail = ap (λ (xs : List ℕ). xs ++ remark more) i.shown ∙ append_assoc i.word (spaced i.tokens) (remark more) in
    subst (λ (xs : List ℕ). IsLine (label_text r.label ++ 9 ∷ xs) (main_statement r x)) (sym shown)
    (line_read (label_text r.label) (label_of r.label) i.word i.tokens tail (Put i.put i.trees) (column_of r.label x.label) i.is_first i.free (before_after i.tokens more i.lexed)
    (list_all-append is_quiet (spaced i.tokens) (remark more) ∙ and_from (list_all is_quiet (spaced i.tokens)) (list_all is_quiet (remark more)) (spaced_quiet i.tokens i.lexed) (quiet_remark r.address))
    (omega (arith, size, short)) i.says)

pub row_is_read : (r : Row) (x : ReadsRow r) → AreLines (row_lines r) (row_statements r x)
row_is_read r x = both_lines (load_lines r.load_label) (main_line r ∷ []) (load_statements r.load_label) (main_statement r x ∷ []) (load_read r.load_label x.load_label) (main_read r x, tt)

-- ---- rows and parts

abbrev pub RowsRead : List Row → Type 0
RowsRead [] = Unit {0}
RowsRead (r ∷ rows) = ReadsRow r × RowsRead rows

abbrev pub rows_lines : List Row → List (List ℕ)
rows_lines [] = []
rows_lines (r ∷ rows) = row_lines r ++ rows_lines rows

abbrev pub rows_statements : (rows : List Row) → RowsRead rows → List Statement
rows_statements [] x = []
rows_statements (r ∷ rows) x = row_statements r x.0 ++ rows_statements rows x.1

rows_are_read : (rows : List Row) (x : RowsRead rows) → AreLines (rows_lines rows) (rows_statements rows x)
rows_are_read [] x = tt
rows_are_read (r ∷ rows) x = both_lines (row_lines r) (rows_lines rows) (row_statements r x.0) (rows_statements rows x.1) (row_is_read r x.0) (rows_are_read rows x.1)

abbrev pub PartsRead : List Part → Type 0
PartsRead [] = Unit {0}
PartsRead (p ∷ parts) = RowsRead p.rows.items × PartsRead parts

abbrev section_line : ℕ → List ℕ
section_line address = 9 ∷ (codes ".sect" ++ spaced (section_string address ∷ []))

abbrev pub part_lines : Part → List (List ℕ)
part_lines p = section_line p.address ∷ rows_lines p.rows.items

abbrev pub part_statements : (p : Part) → RowsRead p.rows.items → List Statement
part_statements p x = record { label = None; act = Enter (section_of p.address) } ∷ rows_statements p.rows.items x

abbrev pub parts_lines : List Part → List (List ℕ)
parts_lines [] = []
parts_lines (p ∷ parts) = part_lines p ++ parts_lines parts

abbrev pub parts_statements : (parts : List Part) → PartsRead parts → List Statement
parts_statements [] x = []
parts_statements (p ∷ parts) x = part_statements p x.0 ++ parts_statements parts x.1

section_read : (address : ℕ) → IsLine (section_line address) (record { label = None; act = Enter (section_of address) })
section_read address =
    line_read [] None (codes ".sect") (section_string address ∷ []) (spaced (section_string address ∷ [])) (Enter (section_of address)) empty_column refl free_sect
    (last_after (section_string address ∷ []) (section_lexed address)) (spaced_quiet (section_string address ∷ []) (section_lexed address)) (omega arith) (section_says address)

pub parts_are_read : (parts : List Part) (x : PartsRead parts) → AreLines (parts_lines parts) (parts_statements parts x)
parts_are_read [] x = tt
parts_are_read (p ∷ parts) x =
    both_lines (part_lines p) (parts_lines parts) (part_statements p x.0) (parts_statements parts x.1) (section_read p.address, rows_are_read p.rows.items x.0) (parts_are_read parts x.1)

-- ---- their text

lines_joined : (ts us : List (List ℕ)) → text_of_lines (ts ++ us) ≡ text_of_lines ts ++ text_of_lines us
lines_joined [] us = refl
lines_joined (t ∷ ts) us = ap (λ (xs : List ℕ). t ++ 10 ∷ xs) (lines_joined ts us) ∙ sym (append_assoc t (10 ∷ text_of_lines ts) (text_of_lines us))

load_text_is : (l : Option (String Global)) → text_of_lines (load_lines l) ≡ load_line l
load_text_is None = refl
load_text_is (Some text) = ap (λ (xs : List ℕ). (9 ∷ (codes ".label" ++ 32 ∷ xs)) ++ 10 ∷ []) (append-nil (string_bytes text))

seven : (a b c d e f g : List ℕ) → a ++ b ++ c ++ d ++ e ++ f ++ g ≡ a ++ (b ++ (c ++ (d ++ (e ++ (f ++ g)))))
seven a b c d e f g = append_assoc (a ++ b ++ c ++ d ++ e) f g ∙ six a b c d e (f ++ g)

row_text_is : (r : Row) → text_of_lines (row_lines r) ≡ row_text r
row_text_is r =
    let label = label_text r.label in
    let item = item_text r.item in
    let digits = four_digits r.address in
    lines_joined (load_lines r.load_label) (main_line r ∷ [])
    ∙ ap (λ (xs : List ℕ). xs ++ (main_line r ++ 10 ∷ [])) (load_text_is r.load_label)
    ∙ ap (λ (xs : List ℕ). load_line r.load_label ++ xs) (append_assoc label (9 ∷ (item ++ remark (32 ∷ digits))) (10 ∷ []) ∙ ap (λ (xs : List ℕ). label ++ 9 ∷ xs) (append_assoc item (remark (32 ∷ digits)) (10 ∷ [])))
    ∙ sym (seven (load_line r.load_label) label (codes "\t") item (codes "\t; ") digits (codes "\n"))

rows_text_is : (rows : List Row) → text_of_lines (rows_lines rows) ≡ flat_map row_text rows
rows_text_is [] = refl
rows_text_is (r ∷ rows) = lines_joined (row_lines r) (rows_lines rows) ∙ ap (λ (xs : List ℕ). xs ++ text_of_lines (rows_lines rows)) (row_text_is r) ∙ ap (λ (xs : List ℕ). row_text r ++ xs) (rows_text_is rows)

part_text_is : (p : Part) → text_of_lines (part_lines p) ≡ part_text p
unfolding section_text
part_text_is p = ap (λ (xs : List ℕ). section_line p.address ++ 10 ∷ xs) (rows_text_is p.rows.items)

pub source_text_is : (parts : List Part) → text_of_lines (parts_lines parts) ≡ source_text parts
source_text_is [] = refl
source_text_is (p ∷ parts) = lines_joined (part_lines p) (parts_lines parts) ∙ ap (λ (xs : List ℕ). xs ++ text_of_lines (parts_lines parts)) (part_text_is p) ∙ ap (λ (xs : List ℕ). part_text p ++ xs) (source_text_is parts)
