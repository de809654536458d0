-- Whole texts: what is read has this text, and each text of a map is read.
use Rattle.std.proofs.Common.{◌≡◌, ℕ, ◌<◌, ◌≤◌, Bool, true, false, eqb, List, [], ◌∷◌, ◌++◌, length, codes, Option, Some, None, Result, Ok, Err, refl, sym, ap, subst, ◌∙◌, arith, if◌then◌else◌, append_assoc}
use Rattle.std.specs.Prelude.{All, IfSome, IfOk, IfErr}
use Rattle.std.specs.Option.{option_map}
use Rattle.std.specs.Str.{bytes_eq}
use Rattle.std.specs.Fmt.{decimal}
use Rattle.std.specs.List.{flat_map, join_with_byte}
use Rattle.std.proofs.lemmas.List.{append-nil}
use Rattle.std.proofs.lemmas.List.Splits.{join_with_byte-slice_split, slice_split_at}
use Rattle.std.proofs.lemmas.List.Elements.{All-nil, All-head, All-tail, All-weaker}
use Rattle.c25_meaning_linking.specs.Place.{Place}
use Rattle.c25_meaning_common.specs.Digits.{four_digits}
use Rattle.c25_meaning_linking.specs.MapText.{PartData, SectionPlace, NamedValue, MapData, address_text, five_digits, eight_digits, part_text, place_text, run_lines, section_text, symbol_text, entry_text, entry_lines, map_text, map_line, IsPrintedPart, IsPrintedSection, IsPrintedValue, IsPrinted, IsMapOf, HasDigits}
use Rattle.c25_meaning_common.specs.Results.{◌>>=◌, Meets}
use Rattle.c25_meaning_common.specs.declared.failure.Failure.{Failure}
use Rattle.c25_meaning_common.specs.declared.failure.Failure.TheVariants.{NoMemory, Fault}
use Rattle.c25_map.specs.Answer.{IsNoMap, IsRefused}
use Rattle.c25_map.specs.Reading.{with_section, onto_last, with_part, run_of_last, with_run, with_symbol, with_entry, with_fields, with_line, with_lines, with_head, finished, nothing, cut, map_of}
use Rattle.c25_map.specs.View.{map_data}
use Rattle.c25_map.specs.declared.map.Map.{Map}
use Rattle.c25_map.specs.declared.map_fault.MapFault.{MapFault}
use Rattle.c25_map.specs.declared.map_fault.MapFault.TheVariants.{BadMap}
use Rattle.c25_map.proofs.Cuts.{has_no_by, NoneHas, none_has_more, IsLine, AreFields, no_end, fields_back, fields_line}
use Rattle.c25_map.proofs.Digits.{same_text, other_text, word_back}
use Rattle.c25_map.proofs.Spelled.{part_line, section_line, run_line, named_line, part_text_is, place_text_is, run_text_is, symbol_text_is, entry_text_is, IsPrintedPlace, as_loaded, part_back, place_back, value_back, number_field, section_field, symbol_field, page_field, four_field, address_field, eight_field, five_field, word_field}
use Rattle.c25_map.proofs.Last.{with_one, running_at}
use Rattle.c25_map.proofs.Steady.{body, sections_text, names_text, run_text, Grows, fields_grow}
use Rattle.c25_map.proofs.Steps.{tested, stepped}

-- ---- what is read has this text

line_grows : (m n : MapData) (line : List ℕ) → with_line m line ≡ Ok n → Grows m (line ++ 10 ∷ []) n
line_grows m n line h = subst (λ t. Grows m (t ++ 10 ∷ []) n) (join_with_byte-slice_split 32 line) (fields_grow m n (cut 32 line) h)

-- the text after a map, and all of the map's lines
record Ends (m n : MapData) (text : List ℕ) : Type 0 where
  same : body m ++ text ≡ body n ++ map_line (codes "END")
  printed : IsPrinted m → IsPrinted n

finished_ends : (m n : MapData) (rest : List (List ℕ)) → finished m rest ≡ Ok n → Ends m n (join_with_byte 10 (codes "END" ∷ rest))
finished_ends m n [] h = absurd cc
finished_ends m n ([] ∷ []) h =
    let is : m ≡ n = cc in
    subst (λ k. Ends m k (map_line (codes "END"))) is (record { same = refl; printed = λ before. before })
finished_ends m n ((x ∷ xs) ∷ rest) h = absurd cc
finished_ends m n ([] ∷ y ∷ rest) h = absurd cc

regrown : (old new line rest : List ℕ) → new ≡ old ++ (line ++ 10 ∷ []) → old ++ (line ++ 10 ∷ rest) ≡ new ++ rest
regrown old new line rest e = rw e (simp append_assoc)

more_ends : (m k n : MapData) (line : List ℕ) (rest : List (List ℕ)) → with_line m line ≡ Ok k → with_lines k rest ≡ Ok n → Ends k n (join_with_byte 10 rest) → Ends m n (join_with_byte 10 (line ∷ rest))
unfolding with_lines
more_ends m k n line [] one h later = absurd cc
more_ends m k n line (next ∷ rest) one h later =
    let grows = line_grows m k line one in
    record {
      same = regrown (body m) (body k) line (join_with_byte 10 (next ∷ rest)) grows.same ∙ later.same;
      printed = λ before. later.printed (grows.printed before);
    }

line_ends : (last : Bool) (m n : MapData) (line : List ℕ) (rest : List (List ℕ)) → bytes_eq line (codes "END") ≡ last
    → (if last then finished m rest else (with_line m line >>= λ k. with_lines k rest)) ≡ Ok n → ((k : MapData) → with_lines k rest ≡ Ok n → Ends k n (join_with_byte 10 rest))
    → Ends m n (join_with_byte 10 (line ∷ rest))
line_ends true m n line rest e h later =
    subst (λ (l : List ℕ). Ends m n (join_with_byte 10 (l ∷ rest))) (sym (same_text line (codes "END") e)) (finished_ends m n rest h)
line_ends false m n line rest e h later =
    let found = stepped (with_line m line) (λ (k : MapData). with_lines k rest) n h in
    more_ends m found.0 n line rest found.1 found.2 (later found.0 found.2)

lines_end : (m n : MapData) (lines : List (List ℕ)) → with_lines m lines ≡ Ok n → Ends m n (join_with_byte 10 lines)
unfolding with_lines
lines_end m n [] h = absurd cc
lines_end m n (line ∷ rest) h = line_ends (bytes_eq line (codes "END")) m n line rest refl h (λ k more. lines_end k n rest more)

no_line_printed : IsPrinted nothing
no_line_printed = record { sections = All-nil IsPrintedSection; symbols = All-nil IsPrintedValue; entry = tt }

-- the text of a map, with what stands between the first and the last line in one
map_text_is : (m : MapData) → map_text m ≡ map_line (codes "C25 MAP 1") ++ (body m ++ map_line (codes "END"))
map_text_is m = simp append_assoc

head_joined : (line : List ℕ) (lines : List (List ℕ)) (text : List ℕ) → join_with_byte 10 lines ≡ text → 0 < length lines → join_with_byte 10 (line ∷ lines) ≡ map_line line ++ text
head_joined line [] text e some = absurd (omega arith)
head_joined line (next ∷ lines) text e some = ap (λ (t : List ℕ). line ++ 10 ∷ t) e ∙ sym (append_assoc line (10 ∷ []) text)

some_lines : (m n : MapData) (lines : List (List ℕ)) → with_lines m lines ≡ Ok n → 0 < length lines
unfolding with_lines
some_lines m n [] h = absurd cc
some_lines m n (line ∷ lines) h = omega arith

head_says : (m : MapData) (parts : List (List ℕ)) → with_head parts ≡ Ok m → IsMapOf (join_with_byte 10 parts) m
unfolding with_head
head_says m [] h = absurd cc
head_says m (head ∷ lines) h =
    let test = tested (bytes_eq head (codes "C25 MAP 1")) (with_lines nothing lines) BadMap m h in
    let ends = lines_end nothing m lines test.1 in
    record {
      printed = ends.printed no_line_printed;
      text_is = head_joined head lines (body m ++ map_line (codes "END")) ends.same (some_lines nothing m lines test.1)
          ∙ ap (λ (l : List ℕ). map_line l ++ (body m ++ map_line (codes "END"))) (same_text head (codes "C25 MAP 1") test.0)
          ∙ sym (map_text_is m);
    }

read_says : (text : List ℕ) (m : MapData) → map_of text ≡ Ok m → IsMapOf text m
read_says text m h = subst (λ t. IsMapOf t m) (join_with_byte-slice_split 10 text) (head_says m (cut 10 text) h)

-- ---- each text of a map is read

-- lines, each with its end
abbrev ended : List (List ℕ) → List ℕ
ended [] = []
ended (line ∷ lines) = line ++ 10 ∷ ended lines

-- lines of this text lead from one map to another, whatever follows
record ReadsTo (m : MapData) (text : List ℕ) (n : MapData) : Type 0 where
  lines : List (List ℕ)
  apart : NoneHas 10 lines
  same : ended lines ≡ text
  reads : (rest : List (List ℕ)) → with_lines m (lines ++ rest) ≡ with_lines n rest

no_lines : (m : MapData) → ReadsTo m [] m
no_lines m = record { lines = []; apart = tt; same = refl; reads = λ rest. refl }

ended_more : (xs ys : List (List ℕ)) → ended (xs ++ ys) ≡ ended xs ++ ended ys
ended_more [] ys = refl
ended_more (x ∷ xs) ys = ap (λ (t : List ℕ). x ++ 10 ∷ t) (ended_more xs ys) ∙ sym (append_assoc x (10 ∷ ended xs) (ended ys))

joined : (m n k : MapData) (text more : List ℕ) → ReadsTo m text n → ReadsTo n more k → ReadsTo m (text ++ more) k
joined m n k text more one two = record {
  lines = one.lines ++ two.lines;
  apart = none_has_more 10 one.lines two.lines one.apart two.apart;
  same = ended_more one.lines two.lines ∙ ap (λ (t : List ℕ). t ++ ended two.lines) one.same ∙ ap (λ (t : List ℕ). text ++ t) two.same;
  reads = λ rest. ap (λ (ls : List (List ℕ)). with_lines m ls) (append_assoc one.lines two.lines rest) ∙ one.reads (two.lines ++ rest) ∙ two.reads rest;
}

not_last : (m n : MapData) (line : List ℕ) → with_line m line ≡ Ok n → bytes_eq line (codes "END") ≡ false
unfolding with_fields
not_last m n line h = other_text line (codes "END") (λ same. let read = sym (ap (λ (l : List ℕ). with_line m l) same) ∙ h in absurd cc)

one_line : (m n : MapData) (line : List ℕ) → IsLine line → with_line m line ≡ Ok n → ReadsTo m (line ++ 10 ∷ []) n
unfolding with_lines
one_line m n line is h = record {
  lines = line ∷ [];
  apart = (no_end line is, tt);
  same = refl;
  reads = λ rest. rw (not_last m n line h, h) refl;
}

read_as : (m n : MapData) (text other : List ℕ) → text ≡ other → ReadsTo m text n → ReadsTo m other n
read_as m n text other e h = subst (λ t. ReadsTo m t n) e h

-- ---- single lines

part_read : (m n : MapData) (part : PartData) → IsPrintedPart part → with_part m part ≡ Ok n → ReadsTo m (part_text part) n
unfolding with_fields
part_read m n part fits h =
    let is = word_field (codes "PART") refl in
    let fields : AreFields (part.number ∷ address_text part.base ∷ five_digits part.size ∷ []) = (number_field part.number fits.number, (address_field part.base fits.base, (five_field part.size fits.size, tt))) in
    let rest = part.number ∷ address_text part.base ∷ five_digits part.size ∷ [] in
    let read : with_line m (part_line part) ≡ Ok n =
    ap (λ (fs : List (List ℕ)). with_fields m fs) (fields_back (codes "PART") rest is fields) ∙ ap (λ r. r >>= λ p. with_part m p) (part_back part fits) ∙ h in
    read_as m n (part_line part ++ 10 ∷ []) (part_text part) (sym (part_text_is part)) (one_line m n (part_line part) (fields_line (codes "PART") rest is fields) read)

place_read : (m n : MapData) (place : Place) → IsPrintedPlace place → with_section m (as_loaded place) ≡ Ok n → ReadsTo m (place_text place) n
unfolding with_fields
place_read m n place fits h =
    let is = word_field (codes "SECTION") refl in
    let fields : AreFields (decimal place.page ∷ four_digits place.base ∷ five_digits place.size ∷ place.name ∷ []) = (page_field place.page fits.page, (four_field place.base fits.base, (five_field place.size fits.size, (section_field place.name fits.name, tt)))) in
    let rest = decimal place.page ∷ four_digits place.base ∷ five_digits place.size ∷ place.name ∷ [] in
    let read : with_line m (section_line place) ≡ Ok n =
    ap (λ (fs : List (List ℕ)). with_fields m fs) (fields_back (codes "SECTION") rest is fields) ∙ ap (λ r. r >>= λ p. with_section m p) (place_back place fits) ∙ h in
    read_as m n (section_line place ++ 10 ∷ []) (place_text place) (sym (place_text_is place)) (one_line m n (section_line place) (fields_line (codes "SECTION") rest is fields) read)

run_read : (m n : MapData) (run : ℕ) → run < 65536 → with_run m run ≡ Ok n → ReadsTo m (run_text run) n
unfolding with_fields
run_read m n run fits h =
    let is = word_field (codes "RUN") refl in
    let fields : AreFields (four_digits run ∷ []) = (four_field run fits, tt) in
    let rest = four_digits run ∷ [] in
    let read : with_line m (run_line run) ≡ Ok n =
    ap (λ (fs : List (List ℕ)). with_fields m fs) (fields_back (codes "RUN") rest is fields) ∙ ap (λ r. r >>= λ w. with_run m w) (word_back run fits) ∙ h in
    read_as m n (run_line run ++ 10 ∷ []) (run_text run) (sym (run_text_is run)) (one_line m n (run_line run) (fields_line (codes "RUN") rest is fields) read)

symbol_read : (m n : MapData) (symbol : NamedValue) → IsPrintedValue symbol → with_symbol m symbol ≡ Ok n → ReadsTo m (symbol_text symbol) n
unfolding with_fields
symbol_read m n symbol fits h =
    let is = word_field (codes "SYMBOL") refl in
    let fields : AreFields (eight_digits symbol.value ∷ symbol.name ∷ []) = (eight_field symbol.value fits.value, (symbol_field symbol.name fits.name, tt)) in
    let rest = eight_digits symbol.value ∷ symbol.name ∷ [] in
    let line = named_line (codes "SYMBOL") symbol in
    let read : with_line m line ≡ Ok n =
    ap (λ (fs : List (List ℕ)). with_fields m fs) (fields_back (codes "SYMBOL") rest is fields) ∙ ap (λ r. r >>= λ y. with_symbol m y) (value_back symbol fits) ∙ h in
    read_as m n (line ++ 10 ∷ []) (symbol_text symbol) (sym (symbol_text_is symbol)) (one_line m n line (fields_line (codes "SYMBOL") rest is fields) read)

entry_read : (m n : MapData) (entry : NamedValue) → IsPrintedValue entry → with_entry m entry ≡ Ok n → ReadsTo m (entry_text entry) n
unfolding with_fields
entry_read m n entry fits h =
    let is = word_field (codes "ENTRY") refl in
    let fields : AreFields (eight_digits entry.value ∷ entry.name ∷ []) = (eight_field entry.value fits.value, (symbol_field entry.name fits.name, tt)) in
    let rest = eight_digits entry.value ∷ entry.name ∷ [] in
    let line = named_line (codes "ENTRY") entry in
    let read : with_line m line ≡ Ok n =
    ap (λ (fs : List (List ℕ)). with_fields m fs) (fields_back (codes "ENTRY") rest is fields) ∙ ap (λ r. r >>= λ y. with_entry m y) (value_back entry fits) ∙ h in
    read_as m n (line ++ 10 ∷ []) (entry_text entry) (sym (entry_text_is entry)) (one_line m n line (fields_line (codes "ENTRY") rest is fields) read)

-- ---- lists of lines

-- sections alone
abbrev of_sections : List SectionPlace → MapData
of_sections sections = record { sections = sections; symbols = []; entry = None }

-- a section with these parts
abbrev with_parts : Place → List PartData → SectionPlace
with_parts place parts = record { place = place; parts = parts }

put_behind : (before : List SectionPlace) (s : SectionPlace) (part : PartData) → onto_last (before ++ s ∷ []) part ≡ Some (before ++ with_one s part ∷ [])
put_behind [] s part = refl
put_behind (b ∷ []) s part = refl
put_behind (b ∷ c ∷ before) s part = ap (λ (o : Option (List SectionPlace)). option_map (λ (rest : List SectionPlace). b ∷ rest) o) (put_behind (c ∷ before) s part)

part_put : (before : List SectionPlace) (place : Place) (parts : List PartData) (part : PartData)
    → with_part (of_sections (before ++ with_parts place parts ∷ [])) part ≡ Ok (of_sections (before ++ with_parts place (parts ++ part ∷ []) ∷ []))
unfolding with_part
part_put before place parts part = rw (put_behind before (with_parts place parts) part) refl

parts_read : (before : List SectionPlace) (place : Place) (parts more : List PartData) → All IsPrintedPart more
    → ReadsTo (of_sections (before ++ with_parts place parts ∷ [])) (flat_map part_text more) (of_sections (before ++ with_parts place (parts ++ more) ∷ []))
parts_read before place parts [] fits =
    subst (λ ps. ReadsTo (of_sections (before ++ with_parts place parts ∷ [])) [] (of_sections (before ++ with_parts place ps ∷ []))) (sym (append-nil parts))
    (no_lines (of_sections (before ++ with_parts place parts ∷ [])))
parts_read before place parts (part ∷ more) fits =
    let m = of_sections (before ++ with_parts place parts ∷ []) in
    let n = of_sections (before ++ with_parts place (parts ++ part ∷ []) ∷ []) in
    let one = part_read m n part (All-head IsPrintedPart part more fits) (part_put before place parts part) in
    let later = parts_read before place (parts ++ part ∷ []) more (All-tail IsPrintedPart part more fits) in
    subst (λ ps. ReadsTo m (flat_map part_text (part ∷ more)) (of_sections (before ++ with_parts place ps ∷ []))) (append_assoc parts (part ∷ []) more)
    (joined m n (of_sections (before ++ with_parts place ((parts ++ part ∷ []) ++ more) ∷ [])) (part_text part) (flat_map part_text more) one later)

run_behind : (before : List SectionPlace) (s : SectionPlace) (run : ℕ) → s.place.run ≡ None → s.parts ≡ [] → run_of_last (before ++ s ∷ []) run ≡ Some (before ++ running_at s run ∷ [])
run_behind [] s run none empty = rw (none, empty) refl
run_behind (b ∷ []) s run none empty = rw (none, empty) refl
run_behind (b ∷ c ∷ before) s run none empty =
    ap (λ (o : Option (List SectionPlace)). option_map (λ (rest : List SectionPlace). b ∷ rest) o) (run_behind (c ∷ before) s run none empty)

run_put : (before : List SectionPlace) (place : Place) (run : ℕ)
    → with_run (of_sections (before ++ with_parts (as_loaded place) [] ∷ [])) run ≡ Ok (of_sections (before ++ running_at (with_parts (as_loaded place) []) run ∷ []))
unfolding with_run
run_put before place run = rw (run_behind before (with_parts (as_loaded place) []) run refl refl) refl

-- a section that runs at an address, if at one
abbrev run_as : Place → Option ℕ → Place
run_as place run = record place { run = run }

run_lines_read : (before : List SectionPlace) (place : Place) (run : Option ℕ) → IfSome run (λ run. run < 65536)
    → ReadsTo (of_sections (before ++ with_parts (as_loaded place) [] ∷ [])) (run_lines run) (of_sections (before ++ with_parts (run_as place run) [] ∷ []))
run_lines_read before place None fits = no_lines (of_sections (before ++ with_parts (as_loaded place) [] ∷ []))
run_lines_read before place (Some run) fits =
    run_read (of_sections (before ++ with_parts (as_loaded place) [] ∷ [])) (of_sections (before ++ with_parts (run_as place (Some run)) [] ∷ [])) run fits (run_put before place run)

section_put : (before : List SectionPlace) (place : Place) → with_section (of_sections before) place ≡ Ok (of_sections (before ++ with_parts place [] ∷ []))
unfolding with_section
section_put before place = refl

section_fits : (s : SectionPlace) → IsPrintedSection s → IsPrintedPlace s.place
section_fits s h = record { name = h.name; page = h.page; base = h.base; size = h.size }

section_read : (before : List SectionPlace) (s : SectionPlace) → IsPrintedSection s → ReadsTo (of_sections before) (section_text s) (of_sections (before ++ s ∷ []))
section_read before s fits =
    let m = of_sections before in
    let loaded = of_sections (before ++ with_parts (as_loaded s.place) [] ∷ []) in
    let running = of_sections (before ++ with_parts s.place [] ∷ []) in
    joined m running (of_sections (before ++ s ∷ [])) (place_text s.place ++ run_lines s.place.run) (flat_map part_text s.parts)
    (joined m loaded running (place_text s.place) (run_lines s.place.run)
    (place_read m loaded s.place (section_fits s fits) (section_put before (as_loaded s.place))) (run_lines_read before s.place s.place.run fits.run))
    (parts_read before s.place [] s.parts fits.parts)

sections_read : (before sections : List SectionPlace) → All IsPrintedSection sections → ReadsTo (of_sections before) (sections_text sections) (of_sections (before ++ sections))
sections_read before [] fits = subst (λ ss. ReadsTo (of_sections before) [] (of_sections ss)) (sym (append-nil before)) (no_lines (of_sections before))
sections_read before (s ∷ sections) fits =
    subst (λ ss. ReadsTo (of_sections before) (sections_text (s ∷ sections)) (of_sections ss)) (append_assoc before (s ∷ []) sections)
    (joined (of_sections before) (of_sections (before ++ s ∷ [])) (of_sections ((before ++ s ∷ []) ++ sections)) (section_text s) (sections_text sections)
    (section_read before s (All-head IsPrintedSection s sections fits)) (sections_read (before ++ s ∷ []) sections (All-tail IsPrintedSection s sections fits)))

-- sections and symbols
abbrev without_entry : List SectionPlace → List NamedValue → MapData
without_entry sections symbols = record { sections = sections; symbols = symbols; entry = None }

symbol_put : (sections : List SectionPlace) (before : List NamedValue) (symbol : NamedValue) → with_symbol (without_entry sections before) symbol ≡ Ok (without_entry sections (before ++ symbol ∷ []))
unfolding with_symbol
symbol_put sections before symbol = refl

symbols_read : (sections : List SectionPlace) (before symbols : List NamedValue) → All IsPrintedValue symbols
    → ReadsTo (without_entry sections before) (flat_map symbol_text symbols) (without_entry sections (before ++ symbols))
symbols_read sections before [] fits =
    subst (λ ys. ReadsTo (without_entry sections before) [] (without_entry sections ys)) (sym (append-nil before)) (no_lines (without_entry sections before))
symbols_read sections before (y ∷ symbols) fits =
    let m = without_entry sections before in
    let n = without_entry sections (before ++ y ∷ []) in
    subst (λ ys. ReadsTo m (flat_map symbol_text (y ∷ symbols)) (without_entry sections ys)) (append_assoc before (y ∷ []) symbols)
    (joined m n (without_entry sections ((before ++ y ∷ []) ++ symbols)) (symbol_text y) (flat_map symbol_text symbols)
    (symbol_read m n y (All-head IsPrintedValue y symbols fits) (symbol_put sections before y)) (symbols_read sections (before ++ y ∷ []) symbols (All-tail IsPrintedValue y symbols fits)))

entry_put : (sections : List SectionPlace) (symbols : List NamedValue) (entry : NamedValue)
    → with_entry (without_entry sections symbols) entry ≡ Ok (record { sections = sections; symbols = symbols; entry = Some entry })
unfolding with_entry
entry_put sections symbols entry = refl

end_read : (sections : List SectionPlace) (symbols : List NamedValue) (entry : Option NamedValue) → IfSome entry IsPrintedValue
    → ReadsTo (without_entry sections symbols) (entry_lines entry) (record { sections = sections; symbols = symbols; entry = entry })
end_read sections symbols None fits = no_lines (without_entry sections symbols)
end_read sections symbols (Some entry) fits =
    entry_read (without_entry sections symbols) (record { sections = sections; symbols = symbols; entry = Some entry }) entry fits (entry_put sections symbols entry)

-- ---- whole texts

body_read : (m : MapData) → IsPrinted m → ReadsTo nothing (body m) m
body_read m fits =
    joined nothing (of_sections m.sections) m (sections_text m.sections) (names_text m) (sections_read [] m.sections fits.sections)
    (joined (of_sections m.sections) (without_entry m.sections m.symbols) m (flat_map symbol_text m.symbols) (entry_lines m.entry)
    (symbols_read m.sections [] m.symbols fits.symbols) (end_read m.sections m.symbols m.entry fits.entry))

-- the lines of a whole map
ended_text : (m : MapData) (lines : List (List ℕ)) → ended lines ≡ body m → ended (codes "C25 MAP 1" ∷ (lines ++ codes "END" ∷ [])) ≡ map_text m
ended_text m lines same =
    ap (λ (t : List ℕ). map_line (codes "C25 MAP 1") ++ t) (ended_more lines (codes "END" ∷ []) ∙ ap (λ (t : List ℕ). t ++ map_line (codes "END")) same)
    ∙ sym (map_text_is m)

-- lines are cut from what follows them
cut_front : (lines : List (List ℕ)) (rest : List ℕ) → NoneHas 10 lines → cut 10 (ended lines ++ rest) ≡ lines ++ cut 10 rest
cut_front [] rest apart = refl
cut_front (line ∷ lines) rest apart =
    ap (λ (t : List ℕ). cut 10 t) (append_assoc line (10 ∷ ended lines) rest)
    ∙ slice_split_at (λ b. eqb b 10) line 10 (ended lines ++ rest) apart.0 refl
    ∙ ap (λ (parts : List (List ℕ)). line ∷ parts) (cut_front lines rest apart.1)

end_apart : NoneHas 10 (codes "END" ∷ [])
end_apart = (has_no_by 10 (codes "END") refl, tt)

head_apart : (lines : List (List ℕ)) → NoneHas 10 lines → NoneHas 10 (codes "C25 MAP 1" ∷ lines)
head_apart lines apart = (has_no_by 10 (codes "C25 MAP 1") refl, apart)

end_finished : (m : MapData) (rest : List (List ℕ)) → with_lines m (codes "END" ∷ rest) ≡ finished m rest
unfolding with_lines
end_finished m rest = refl

-- a map's text is read, and what follows it decides
read_on : (m : MapData) (rest : List ℕ) → IsPrinted m → map_of (map_text m ++ rest) ≡ finished m (cut 10 rest)
unfolding with_head
read_on m rest fits =
    let reads = body_read m fits in
    let lines : List (List ℕ) = reads.lines ++ codes "END" ∷ [] in
    let apart = head_apart lines (none_has_more 10 reads.lines (codes "END" ∷ []) reads.apart end_apart) in
    let cuts : cut 10 (map_text m ++ rest) ≡ codes "C25 MAP 1" ∷ (lines ++ cut 10 rest) =
    ap (λ (t : List ℕ). cut 10 (t ++ rest)) (sym (ended_text m reads.lines reads.same)) ∙ cut_front (codes "C25 MAP 1" ∷ lines) rest apart in
    ap (λ (ps : List (List ℕ)). with_head ps) cuts ∙ ap (λ (ls : List (List ℕ)). with_lines nothing ls) (append_assoc reads.lines (codes "END" ∷ []) (cut 10 rest))
    ∙ reads.reads (codes "END" ∷ cut 10 rest) ∙ end_finished m (cut 10 rest)

text_read : (text : List ℕ) (m : MapData) → IsMapOf text m → map_of text ≡ Ok m
text_read text m is = ap (λ (t : List ℕ). map_of t) (is.text_is ∙ sym (append-nil (map_text m))) ∙ read_on m [] is.printed

finished_only : (m n : MapData) (parts : List (List ℕ)) → finished m parts ≡ Ok n → parts ≡ [] ∷ []
finished_only m n [] h = absurd cc
finished_only m n ([] ∷ []) h = refl
finished_only m n ((x ∷ xs) ∷ rest) h = absurd cc
finished_only m n ([] ∷ y ∷ rest) h = absurd cc

pub no_longer_text : (front rest : List ℕ) (m n : MapData) → IsMapOf front m → IsMapOf (front ++ rest) n → rest ≡ []
no_longer_text front rest m n one two =
    let whole : map_of (map_text m ++ rest) ≡ Ok n = ap (λ (t : List ℕ). map_of (t ++ rest)) (sym one.text_is) ∙ text_read (front ++ rest) n two in
    let parts = finished_only m n (cut 10 rest) (sym (read_on m rest one.printed) ∙ whole) in
    sym (join_with_byte-slice_split 10 rest) ∙ ap (λ (ps : List (List ℕ)). join_with_byte 10 ps) parts

-- ---- what the reader says

pub one_map : (text : List ℕ) (m n : MapData) → IsMapOf text m → IsMapOf text n → m ≡ n
one_map text m n one two = let a = text_read text m one in let b = text_read text n two in cc

pub is_found : (text : List ℕ) (r : Result Map (Failure MapFault)) → Meets map_data (map_of text) r → IfOk r (λ m. IsMapOf text (map_data m))
is_found text (Ok m) h = read_says text (map_data m) h
is_found text (Err e) h = tt

no_map : (text : List ℕ) (f : MapFault) → map_of text ≡ Err f → IsNoMap text
no_map text f h m is = let read = text_read text m is in absurd cc

pub is_refused : (text : List ℕ) (r : Result Map (Failure MapFault)) → Meets map_data (map_of text) r → IfErr r (λ e. IsRefused text e)
is_refused text (Ok m) h = tt
is_refused text (Err (NoMemory e)) h = tt
is_refused text (Err (Fault f)) h = no_map text f h

part_prints : (p : PartData) → IsPrintedPart p → p.base ≤ 65536
part_prints p h = h.base

section_prints : (s : SectionPlace) → IsPrintedSection s → HasDigits s
section_prints s h = record { base = h.base; run = h.run; parts = All-weaker IsPrintedPart (λ (p : PartData). p.base ≤ 65536) part_prints s.parts h.parts }

-- what is read can be printed
pub is_printable : (text : List ℕ) (r : Result Map (Failure MapFault)) → Meets map_data (map_of text) r → IfOk r (λ m. All HasDigits (map_data m).sections)
is_printable text (Ok m) h = let is = read_says text (map_data m) h in All-weaker IsPrintedSection HasDigits section_prints (map_data m).sections is.printed.sections
is_printable text (Err e) h = tt
