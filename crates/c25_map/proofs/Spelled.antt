-- The lines of a map: what is printed is read, and what is read was printed.
use Rattle.std.proofs.Common.{◌≡◌, ℕ, ◌+◌, append_assoc, ◌<◌, ◌≤◌, true, ◌&&◌, ◌||◌, nat_lt, nat_le, not, eqb, List, [], ◌∷◌, ◌++◌, length, codes, None, Ok, refl, sym, ap, subst, ◌∙◌, arith}
use Rattle.std.specs.List.{list_all, join_with_byte, slice_index}
use Rattle.std.specs.Fmt.{decimal}
use Rattle.std.proofs.lemmas.Bool.{and_parts}
use Rattle.std.proofs.lemmas.Bool.Decides.{nat_tests}
use Rattle.std.proofs.lemmas.List.Elements.{All-nil, All-cons}
use Rattle.std.proofs.lemmas.Fmt.{decimal_digit as decimal_digit_text}
use Rattle.c25_meaning_common.specs.Bytes.{is_digit, is_letter, begins_name, goes_on_name}
use Rattle.c25_meaning_objects.specs.Module.{is_section_byte, is_section_name, is_symbol_name}
use Rattle.c25_meaning_linking.specs.Place.{Place}
use Rattle.c25_meaning_common.specs.Digits.{four_digits}
use Rattle.c25_meaning_linking.specs.MapText.{PartData, NamedValue, map_line, address_text, five_digits, eight_digits, part_text, place_text, value_text, symbol_text, entry_text, is_number, IsPrintedPart, IsPrintedValue}
use Rattle.c25_meaning_common.specs.Results.{◌>>=◌}
use Rattle.c25_map.specs.Reading.{is_upper_digit, word_of, address_of, long_of, size_of, page_of, part_of, place_of, value_of}
use Rattle.c25_map.specs.declared.map_fault.MapFault.TheVariants.{BadMap}
use Rattle.c25_map.proofs.Cuts.{IsField, field_by}
use Rattle.c25_map.proofs.Digits.{word_back, word_found, address_back, address_found, long_back, long_found, size_back, size_found, page_back, page_found, word_upper, address_upper, long_upper, size_digits}
use Rattle.c25_map.proofs.Steps.{tested, stepped}

-- ---- lines, without their ends

abbrev pub part_line : PartData → List ℕ
part_line p = join_with_byte 32 (codes "PART" ∷ p.number ∷ address_text p.base ∷ five_digits p.size ∷ [])

abbrev pub section_line : Place → List ℕ
section_line p = join_with_byte 32 (codes "SECTION" ∷ decimal p.page ∷ four_digits p.base ∷ five_digits p.size ∷ p.name ∷ [])

abbrev pub run_line : ℕ → List ℕ
run_line run = join_with_byte 32 (codes "RUN" ∷ four_digits run ∷ [])

abbrev pub named_line : List ℕ → NamedValue → List ℕ
named_line kind n = join_with_byte 32 (kind ∷ eight_digits n.value ∷ n.name ∷ [])

part_joined : (number base size : List ℕ) → map_line (codes "PART " ++ number ++ codes " " ++ base ++ codes " " ++ size) ≡ join_with_byte 32 (codes "PART" ∷ number ∷ base ∷ size ∷ []) ++ 10 ∷ []
part_joined number base size = simp append_assoc

place_joined : (page base size name : List ℕ) → map_line (codes "SECTION " ++ page ++ codes " " ++ base ++ codes " " ++ size ++ codes " " ++ name) ≡ join_with_byte 32 (codes "SECTION" ∷ page ∷ base ∷ size ∷ name ∷ []) ++ 10 ∷ []
place_joined page base size name = simp append_assoc

run_joined : (run : List ℕ) → map_line (codes "RUN " ++ run) ≡ join_with_byte 32 (codes "RUN" ∷ run ∷ []) ++ 10 ∷ []
run_joined run = simp append_assoc

symbol_joined : (value name : List ℕ) → codes "SYMBOL " ++ map_line (value ++ codes " " ++ name) ≡ join_with_byte 32 (codes "SYMBOL" ∷ value ∷ name ∷ []) ++ 10 ∷ []
symbol_joined value name = simp append_assoc

entry_joined : (value name : List ℕ) → codes "ENTRY " ++ map_line (value ++ codes " " ++ name) ≡ join_with_byte 32 (codes "ENTRY" ∷ value ∷ name ∷ []) ++ 10 ∷ []
entry_joined value name = simp append_assoc

pub part_text_is : (p : PartData) → part_text p ≡ part_line p ++ 10 ∷ []
unfolding part_text
part_text_is p = part_joined p.number (address_text p.base) (five_digits p.size)

pub place_text_is : (p : Place) → place_text p ≡ section_line p ++ 10 ∷ []
unfolding place_text
place_text_is p = place_joined (decimal p.page) (four_digits p.base) (five_digits p.size) p.name

pub run_text_is : (run : ℕ) → map_line (codes "RUN " ++ four_digits run) ≡ run_line run ++ 10 ∷ []
run_text_is run = run_joined (four_digits run)

pub symbol_text_is : (n : NamedValue) → symbol_text n ≡ named_line (codes "SYMBOL") n ++ 10 ∷ []
unfolding value_text
symbol_text_is n = symbol_joined (eight_digits n.value) n.name

pub entry_text_is : (n : NamedValue) → entry_text n ≡ named_line (codes "ENTRY") n ++ 10 ∷ []
unfolding value_text
entry_text_is n = entry_joined (eight_digits n.value) n.name

-- ---- what is printed is read

pub part_back : (p : PartData) → IsPrintedPart p → part_of p.number (address_text p.base) (five_digits p.size) ≡ Ok p
unfolding part_of
part_back p h = rw (h.number, address_back p.base h.base, size_back p.size h.size) refl

-- a section without its parts, whose numbers have their digits
pub record IsPrintedPlace (p : Place) : Type 0 where
  pub name : is_section_name p.name ≡ true
  pub page : p.page ≤ 1
  pub base : p.base < 65536
  pub size : p.size ≤ 99999

-- a section as its own line says it, which is not where it runs
abbrev pub as_loaded : Place → Place
as_loaded p = record p { run = None }

pub place_back : (p : Place) → IsPrintedPlace p → place_of (decimal p.page) (four_digits p.base) (five_digits p.size) p.name ≡ Ok (as_loaded p)
unfolding place_of
place_back p h = rw (h.name, page_back p.page h.page, word_back p.base h.base, size_back p.size h.size) refl

pub value_back : (n : NamedValue) → IsPrintedValue n → value_of (eight_digits n.value) n.name ≡ Ok n
unfolding value_of
value_back n h = rw (h.name, long_back n.value h.value) refl

-- ---- what is read was printed

-- these fields are those of a part
pub record IsPartOf (number base size : List ℕ) (p : PartData) : Type 0 where
  pub printed : IsPrintedPart p
  pub same : join_with_byte 32 (codes "PART" ∷ number ∷ base ∷ size ∷ []) ≡ part_line p

abbrev a_part : List ℕ → ℕ → ℕ → PartData
a_part number base size = record { number = number; base = base; size = size }

pub part_found : (number base size : List ℕ) (p : PartData) → part_of number base size ≡ Ok p → IsPartOf number base size p
unfolding part_of
part_found number base size p h =
    let test = tested (is_number number) (address_of base >>= λ b. size_of size >>= λ s. Ok (a_part number b s)) BadMap p h in
    let one = stepped (address_of base) (λ (b : ℕ). size_of size >>= λ s. Ok (a_part number b s)) p test.1 in
    let two = stepped (size_of size) (λ (s : ℕ). Ok (a_part number one.0 s)) p one.2 in
    let a = address_found base one.0 one.1 in
    let s = size_found size two.0 two.1 in
    let is : a_part number one.0 two.0 ≡ p = let last = two.2 in cc in
    subst (IsPartOf number base size) {x = a_part number one.0 two.0} is (record {
      printed = record { number = test.0; base = a.1; size = s.1 };
      same = ap (λ (t : List ℕ). join_with_byte 32 (codes "PART" ∷ number ∷ t ∷ size ∷ [])) a.0
          ∙ ap (λ (t : List ℕ). join_with_byte 32 (codes "PART" ∷ number ∷ address_text one.0 ∷ t ∷ [])) s.0;
    })

-- these fields are those of a section
pub record IsPlaceOf (page base size name : List ℕ) (p : Place) : Type 0 where
  pub printed : IsPrintedPlace p
  pub loaded : p.run ≡ None
  pub same : join_with_byte 32 (codes "SECTION" ∷ page ∷ base ∷ size ∷ name ∷ []) ≡ section_line p

abbrev a_place : List ℕ → ℕ → ℕ → ℕ → Place
a_place name page base size = record { name = name; page = page; base = base; size = size; run = None }

pub place_found : (page base size name : List ℕ) (p : Place) → place_of page base size name ≡ Ok p → IsPlaceOf page base size name p
unfolding place_of
place_found page base size name p h =
    let test = tested (is_section_name name) (page_of page >>= λ g. word_of base >>= λ b. size_of size >>= λ s. Ok (a_place name g b s)) BadMap p h in
    let one = stepped (page_of page) (λ (g : ℕ). word_of base >>= λ b. size_of size >>= λ s. Ok (a_place name g b s)) p test.1 in
    let two = stepped (word_of base) (λ (b : ℕ). size_of size >>= λ s. Ok (a_place name one.0 b s)) p one.2 in
    let three = stepped (size_of size) (λ (s : ℕ). Ok (a_place name one.0 two.0 s)) p two.2 in
    let g = page_found page one.0 one.1 in
    let b = word_found base two.0 two.1 in
    let s = size_found size three.0 three.1 in
    let is : a_place name one.0 two.0 three.0 ≡ p = let last = three.2 in cc in
    subst (IsPlaceOf page base size name) {x = a_place name one.0 two.0 three.0} is (record {
      printed = record { name = test.0; page = g.1; base = b.1; size = s.1 };
      loaded = refl;
      same = ap (λ (t : List ℕ). join_with_byte 32 (codes "SECTION" ∷ t ∷ base ∷ size ∷ name ∷ [])) g.0
          ∙ ap (λ (t : List ℕ). join_with_byte 32 (codes "SECTION" ∷ decimal one.0 ∷ t ∷ size ∷ name ∷ [])) b.0
          ∙ ap (λ (t : List ℕ). join_with_byte 32 (codes "SECTION" ∷ decimal one.0 ∷ four_digits two.0 ∷ t ∷ name ∷ [])) s.0;
    })

-- these fields are those of a named value
pub record IsValueOf (value name : List ℕ) (n : NamedValue) : Type 0 where
  pub printed : IsPrintedValue n
  pub same : (kind : List ℕ) → join_with_byte 32 (kind ∷ value ∷ name ∷ []) ≡ named_line kind n

abbrev a_value : List ℕ → ℕ → NamedValue
a_value name value = record { name = name; value = value }

pub value_found : (value name : List ℕ) (n : NamedValue) → value_of value name ≡ Ok n → IsValueOf value name n
unfolding value_of
value_found value name n h =
    let test = tested (is_symbol_name name) (long_of value >>= λ v. Ok (a_value name v)) BadMap n h in
    let one = stepped (long_of value) (λ (v : ℕ). Ok (a_value name v)) n test.1 in
    let v = long_found value one.0 one.1 in
    let is : a_value name one.0 ≡ n = let last = one.2 in cc in
    subst (IsValueOf value name) is (record {
      printed = record { name = test.0; value = v.1 };
      same = λ kind. ap (λ (t : List ℕ). join_with_byte 32 (kind ∷ t ∷ name ∷ [])) v.0;
    })

-- ---- fields have no blank

upper_above : (b : ℕ) → is_upper_digit b ≡ true → 32 < b
upper_above b is = grind (arith, nat_tests)

pub word_field : (text : List ℕ) → list_all is_letter text ≡ true → IsField text
word_field text h = field_by is_letter text (λ b is. grind (arith, nat_tests)) h

pub number_field : (digits : List ℕ) → is_number digits ≡ true → IsField digits
number_field digits h =
    let one = and_parts (nat_lt 0 (length digits) && list_all is_digit digits) (eqb (length digits) 1 || not (eqb (slice_index digits 0) 48)) h in
    let two = and_parts (nat_lt 0 (length digits)) (list_all is_digit digits) one.0 in
    field_by is_digit digits (λ b is. grind (arith, nat_tests)) two.1

pub section_field : (name : List ℕ) → is_section_name name ≡ true → IsField name
section_field name h =
    let one = and_parts (nat_le 1 (length name) && nat_le (length name) 32) (list_all is_section_byte name) h in
    field_by is_section_byte name (λ b is. grind (arith, nat_tests)) one.1

pub symbol_field : (name : List ℕ) → is_symbol_name name ≡ true → IsField name
symbol_field name h =
    let one = and_parts (nat_le 1 (length name) && nat_le (length name) 128 && begins_name (slice_index name 0)) (list_all goes_on_name name) h in
    field_by goes_on_name name (λ b is. grind (arith, nat_tests)) one.1

pub page_field : (p : ℕ) → p ≤ 1 → IsField (decimal p)
page_field p h = subst IsField (sym (decimal_digit_text p (omega arith))) (All-cons (λ b. 32 < b) (48 + p) [] (omega arith) (All-nil (λ b. 32 < b)))

pub four_field : (n : ℕ) → n < 65536 → IsField (four_digits n)
four_field n h = field_by is_upper_digit (four_digits n) upper_above (word_upper n h)

pub address_field : (a : ℕ) → a ≤ 65536 → IsField (address_text a)
address_field a h = field_by is_upper_digit (address_text a) upper_above (address_upper a h)

pub eight_field : (n : ℕ) → n < 4294967296 → IsField (eight_digits n)
eight_field n h = field_by is_upper_digit (eight_digits n) upper_above (long_upper n h)

pub five_field : (n : ℕ) → n ≤ 99999 → IsField (five_digits n)
five_field n h = field_by is_digit (five_digits n) (λ b is. grind (arith, nat_tests)) (size_digits n h)
