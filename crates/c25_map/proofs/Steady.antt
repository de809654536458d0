-- What a line changes: the text of what has been read grows by the line, and all of it has the form of a map.
use Rattle.std.proofs.Common.{◌≡◌, ℕ, ◌<◌, Bool, true, false, ◌||◌, not, eqb, List, [], ◌∷◌, ◌++◌, length, codes, Option, Some, None, Ok, Err, refl, sym, ap, subst, ◌∙◌, if◌then◌else◌, append_assoc}
use Rattle.std.specs.Prelude.{All, IfSome, is_some}
use Rattle.std.specs.Option.{option_map, ok_or}
use Rattle.std.specs.Str.{bytes_eq}
use Rattle.std.specs.List.{flat_map, join_with_byte}
use Rattle.std.proofs.lemmas.Bool.{and_parts, eqb-true}
use Rattle.std.proofs.lemmas.List.{append-nil, nil_from_length}
use Rattle.std.proofs.lemmas.Grind.{flat_map-append}
use Rattle.std.proofs.lemmas.List.Elements.{All-nil, All-cons, All-head, All-tail, All-push}
use Rattle.c25_meaning_linking.specs.Place.{Place}
use Rattle.c25_meaning_common.specs.Digits.{four_digits}
use Rattle.c25_meaning_linking.specs.MapText.{PartData, SectionPlace, NamedValue, MapData, map_line, part_text, place_text, run_lines, section_text, symbol_text, entry_text, entry_lines, IsPrintedPart, IsPrintedSection, IsPrintedValue, IsPrinted}
use Rattle.c25_meaning_common.specs.Results.{◌>>=◌}
use Rattle.c25_map.specs.Reading.{is_open, with_section, onto_last, with_part, run_of_last, with_run, with_symbol, with_entry, with_fields, word_of, part_of, place_of, value_of}
use Rattle.c25_map.specs.declared.map_fault.MapFault.TheVariants.{BadMap}
use Rattle.c25_map.proofs.Digits.{same_text, word_found}
use Rattle.c25_map.proofs.Last.{with_one, running_at}
use Rattle.c25_map.proofs.Spelled.{part_text_is, place_text_is, run_text_is, symbol_text_is, entry_text_is, IsPrintedPlace, part_found, place_found, value_found}
use Rattle.c25_map.proofs.Steps.{tested, untested, stepped, given, none_tested}

-- the lines of sections, and those of symbols and entry
abbrev pub sections_text : List SectionPlace → List ℕ
sections_text sections = flat_map section_text sections

abbrev pub names_text : MapData → List ℕ
names_text m = flat_map symbol_text m.symbols ++ entry_lines m.entry

-- the lines of a map, but the first and the last one
abbrev pub body : MapData → List ℕ
body m = sections_text m.sections ++ names_text m

-- the text has grown by this one, and all of it has the form
pub record Grows (m : MapData) (text : List ℕ) (n : MapData) : Type 0 where
  pub same : body n ≡ body m ++ text
  pub printed : IsPrinted m → IsPrinted n

grown : (m n : MapData) (text other : List ℕ) → text ≡ other → Grows m text n → Grows m other n
grown m n text other e h = subst (λ t. Grows m t n) e h

-- ---- while no symbol has come

no_entry : (o : Option NamedValue) → is_some o ≡ false → o ≡ None
no_entry None h = refl
no_entry (Some x) h = absurd cc

no_run : (o : Option ℕ) → is_some o ≡ false → o ≡ None
no_run None h = refl
no_run (Some x) h = absurd cc

not_true : (b : Bool) → not b ≡ true → b ≡ false
not_true true h = absurd cc
not_true false h = refl

open_parts : (m : MapData) → is_open m ≡ true → (m.symbols ≡ []) × (m.entry ≡ None)
open_parts m h =
    let parts = and_parts (eqb (length m.symbols) 0) (not (is_some m.entry)) h in
    (nil_from_length m.symbols (eqb-true (length m.symbols) 0 parts.0), no_entry m.entry (not_true (is_some m.entry) parts.1))

open_names : (m : MapData) → is_open m ≡ true → names_text m ≡ []
open_names m h = let parts = open_parts m h in rw (parts.0, parts.1) refl

before_names : (old new text names : List ℕ) → names ≡ [] → new ≡ old ++ text → new ++ names ≡ (old ++ names) ++ text
before_names old new text names none e = rw (none, e) (simp append-nil)

-- ---- sections

abbrev pub new_section : Place → SectionPlace
new_section place = record { place = place; parts = [] }

new_text : (line : List ℕ) (run : Option ℕ) → run ≡ None → ((line ++ run_lines run) ++ []) ++ [] ≡ line
new_text line run e = rw e (simp append-nil)

section_grows : (sections : List SectionPlace) (place : Place) → place.run ≡ None → sections_text (sections ++ new_section place ∷ []) ≡ sections_text sections ++ place_text place
section_grows sections place loaded =
    flat_map-append section_text sections (new_section place ∷ []) ∙ ap (λ (t : List ℕ). sections_text sections ++ t) (new_text (place_text place) place.run loaded)

no_run_fits : (run : Option ℕ) → run ≡ None → IfSome run (λ run. run < 65536)
no_run_fits None e = tt
no_run_fits (Some run) e = absurd cc

printed_section : (place : Place) → place.run ≡ None → IsPrintedPlace place → IsPrintedSection (new_section place)
printed_section place loaded h = record { name = h.name; page = h.page; base = h.base; size = h.size; run = no_run_fits place.run loaded; parts = All-nil IsPrintedPart }

section_added : (m n : MapData) (place : Place) → place.run ≡ None → IsPrintedPlace place → with_section m place ≡ Ok n → Grows m (place_text place) n
unfolding with_section
section_added m n place loaded fits h =
    let longer : MapData = record m { sections = m.sections ++ new_section place ∷ [] } in
    let test = tested (is_open m) (Ok longer) BadMap n h in
    let is : longer ≡ n = let last = test.1 in cc in
    subst (Grows m (place_text place)) is (record {
      same = before_names (sections_text m.sections) (sections_text longer.sections) (place_text place) (names_text m) (open_names m test.0) (section_grows m.sections place loaded);
      printed = λ before. record { sections = All-push IsPrintedSection m.sections (new_section place) before.sections (printed_section place loaded fits); symbols = before.symbols; entry = before.entry };
    })

-- ---- parts

one_grows : (s : SectionPlace) (part : PartData) → section_text (with_one s part) ≡ section_text s ++ part_text part
one_grows s part =
    let head = place_text s.place ++ run_lines s.place.run in
    ap (λ (t : List ℕ). head ++ t) (flat_map-append part_text s.parts (part ∷ []) ∙ ap (λ (t : List ℕ). flat_map part_text s.parts ++ t) (append-nil (part_text part)))
    ∙ sym (append_assoc head (flat_map part_text s.parts) (part_text part))

printed_one : (s : SectionPlace) (part : PartData) → IsPrintedPart part → IsPrintedSection s → IsPrintedSection (with_one s part)
printed_one s part fits h = record { name = h.name; page = h.page; base = h.base; size = h.size; run = h.run; parts = All-push IsPrintedPart s.parts part h.parts fits }

-- the sections have grown by a part
record PartAdded (old new : List SectionPlace) (part : PartData) : Type 0 where
  same : sections_text new ≡ sections_text old ++ part_text part
  printed : IsPrintedPart part → All IsPrintedSection old → All IsPrintedSection new

some_mapped : {A B : Type 0} (o : Option A) (f : A → B) (b : B) → option_map f o ≡ Some b → (a : A) × (o ≡ Some a) × (f a ≡ b)
some_mapped None f b h = absurd cc
some_mapped (Some a) f b h = (a, refl, cc)

part_put : (old new : List SectionPlace) (part : PartData) → onto_last old part ≡ Some new → PartAdded old new part
part_put [] new part h = absurd cc
part_put (s ∷ []) new part h =
    let is : with_one s part ∷ [] ≡ new = cc in
    subst (λ ss. PartAdded (s ∷ []) ss part) is (record {
      same = append-nil (section_text (with_one s part)) ∙ one_grows s part ∙ ap (λ (t : List ℕ). t ++ part_text part) (sym (append-nil (section_text s)));
      printed = λ fits before. All-cons IsPrintedSection (with_one s part) [] (printed_one s part fits (All-head IsPrintedSection s [] before)) (All-nil IsPrintedSection);
    })
part_put (s ∷ t ∷ more) new part h =
    let found = some_mapped (onto_last (t ∷ more) part) (λ (rest : List SectionPlace). s ∷ rest) new h in
    let later = part_put (t ∷ more) found.0 part found.1 in
    subst (λ ss. PartAdded (s ∷ t ∷ more) ss part) found.2 (record {
      same = ap (λ (x : List ℕ). section_text s ++ x) later.same ∙ sym (append_assoc (section_text s) (sections_text (t ∷ more)) (part_text part));
      printed = λ fits before. All-cons IsPrintedSection s found.0 (All-head IsPrintedSection s (t ∷ more) before) (later.printed fits (All-tail IsPrintedSection s (t ∷ more) before));
    })

part_added : (m n : MapData) (part : PartData) → IsPrintedPart part → with_part m part ≡ Ok n → Grows m (part_text part) n
unfolding with_part
part_added m n part fits h =
    let test = tested (is_open m) (ok_or (option_map (λ (sections : List SectionPlace). record m { sections = sections }) (onto_last m.sections part)) BadMap) BadMap n h in
    let there = given (option_map (λ (sections : List SectionPlace). record m { sections = sections }) (onto_last m.sections part)) BadMap n test.1 in
    let found = some_mapped (onto_last m.sections part) (λ (sections : List SectionPlace). record m { sections = sections }) n there in
    let added = part_put m.sections found.0 part found.1 in
    subst (Grows m (part_text part)) found.2 (record {
      same = before_names (sections_text m.sections) (sections_text found.0) (part_text part) (names_text m) (open_names m test.0) added.same;
      printed = λ before. record { sections = added.printed fits before.sections; symbols = before.symbols; entry = before.entry };
    })

-- ---- where a section runs

-- the line of the address where a section runs
abbrev pub run_text : ℕ → List ℕ
run_text run = map_line (codes "RUN " ++ four_digits run)

neither : (a b : Bool) → a || b ≡ false → (a ≡ false) × (b ≡ false)
neither true b h = absurd cc
neither false b h = (refl, h)

not_false : (b : Bool) → not b ≡ false → b ≡ true
not_false true h = refl
not_false false h = absurd cc

running_text : (line more : List ℕ) (run : Option ℕ) (parts : List PartData) → run ≡ None → parts ≡ []
    → (line ++ more) ++ flat_map part_text parts ≡ ((line ++ run_lines run) ++ flat_map part_text parts) ++ more
running_text line more run parts none empty = rw (none, empty) (simp append-nil)

running_grows : (s : SectionPlace) (run : ℕ) → s.place.run ≡ None → s.parts ≡ [] → section_text (running_at s run) ≡ section_text s ++ run_text run
unfolding place_text
running_grows s run none empty = running_text (place_text s.place) (run_text run) s.place.run s.parts none empty

printed_running : (s : SectionPlace) (run : ℕ) → run < 65536 → IsPrintedSection s → IsPrintedSection (running_at s run)
printed_running s run fits h = record { name = h.name; page = h.page; base = h.base; size = h.size; run = fits; parts = h.parts }

-- the sections have grown by the line of where the last one runs
record RunAdded (old new : List SectionPlace) (run : ℕ) : Type 0 where
  same : sections_text new ≡ sections_text old ++ run_text run
  printed : run < 65536 → All IsPrintedSection old → All IsPrintedSection new

run_put : (old new : List SectionPlace) (run : ℕ) → run_of_last old run ≡ Some new → RunAdded old new run
run_put [] new run h = absurd cc
run_put (s ∷ []) new run h =
    let test = none_tested (is_some s.place.run || not (eqb (length s.parts) 0)) (running_at s run ∷ []) new h in
    let both = neither (is_some s.place.run) (not (eqb (length s.parts) 0)) test.0 in
    let none = no_run s.place.run both.0 in
    let empty = nil_from_length s.parts (eqb-true (length s.parts) 0 (not_false (eqb (length s.parts) 0) both.1)) in
    subst (λ ss. RunAdded (s ∷ []) ss run) test.1 (record {
      same = append-nil (section_text (running_at s run)) ∙ running_grows s run none empty ∙ ap (λ (t : List ℕ). t ++ run_text run) (sym (append-nil (section_text s)));
      printed = λ fits before. All-cons IsPrintedSection (running_at s run) [] (printed_running s run fits (All-head IsPrintedSection s [] before)) (All-nil IsPrintedSection);
    })
run_put (s ∷ t ∷ more) new run h =
    let found = some_mapped (run_of_last (t ∷ more) run) (λ (rest : List SectionPlace). s ∷ rest) new h in
    let later = run_put (t ∷ more) found.0 run found.1 in
    subst (λ ss. RunAdded (s ∷ t ∷ more) ss run) found.2 (record {
      same = ap (λ (x : List ℕ). section_text s ++ x) later.same ∙ sym (append_assoc (section_text s) (sections_text (t ∷ more)) (run_text run));
      printed = λ fits before. All-cons IsPrintedSection s found.0 (All-head IsPrintedSection s (t ∷ more) before) (later.printed fits (All-tail IsPrintedSection s (t ∷ more) before));
    })

run_added : (m n : MapData) (run : ℕ) → run < 65536 → with_run m run ≡ Ok n → Grows m (run_text run) n
unfolding with_run
run_added m n run fits h =
    let test = tested (is_open m) (ok_or (option_map (λ (sections : List SectionPlace). record m { sections = sections }) (run_of_last m.sections run)) BadMap) BadMap n h in
    let there = given (option_map (λ (sections : List SectionPlace). record m { sections = sections }) (run_of_last m.sections run)) BadMap n test.1 in
    let found = some_mapped (run_of_last m.sections run) (λ (sections : List SectionPlace). record m { sections = sections }) n there in
    let added = run_put m.sections found.0 run found.1 in
    subst (Grows m (run_text run)) found.2 (record {
      same = before_names (sections_text m.sections) (sections_text found.0) (run_text run) (names_text m) (open_names m test.0) added.same;
      printed = λ before. record { sections = added.printed fits before.sections; symbols = before.symbols; entry = before.entry };
    })

-- ---- symbols and entry

symbols_grow : (symbols : List NamedValue) (symbol : NamedValue) → flat_map symbol_text (symbols ++ symbol ∷ []) ≡ flat_map symbol_text symbols ++ symbol_text symbol
symbols_grow symbols symbol = flat_map-append symbol_text symbols (symbol ∷ []) ∙ ap (λ (t : List ℕ). flat_map symbol_text symbols ++ t) (append-nil (symbol_text symbol))

behind_sections : (sections old new text entry : List ℕ) → entry ≡ [] → new ≡ old ++ text → sections ++ (new ++ entry) ≡ (sections ++ (old ++ entry)) ++ text
behind_sections sections old new text entry none e = rw (none, e) (simp (append-nil, append_assoc))

symbol_added : (m n : MapData) (symbol : NamedValue) → IsPrintedValue symbol → with_symbol m symbol ≡ Ok n → Grows m (symbol_text symbol) n
unfolding with_symbol
symbol_added m n symbol fits h =
    let longer : MapData = record m { symbols = m.symbols ++ symbol ∷ [] } in
    let test = untested (is_some m.entry) (Ok longer) BadMap n h in
    let is : longer ≡ n = let last = test.1 in cc in
    let none : entry_lines m.entry ≡ [] = ap (λ (o : Option NamedValue). entry_lines o) (no_entry m.entry test.0) in
    subst (Grows m (symbol_text symbol)) is (record {
      same = behind_sections (sections_text m.sections) (flat_map symbol_text m.symbols) (flat_map symbol_text longer.symbols) (symbol_text symbol) (entry_lines m.entry) none (symbols_grow m.symbols symbol);
      printed = λ before. record { sections = before.sections; symbols = All-push IsPrintedValue m.symbols symbol before.symbols fits; entry = before.entry };
    })

last_of_all : (sections symbols text entry : List ℕ) → entry ≡ [] → sections ++ (symbols ++ text) ≡ (sections ++ (symbols ++ entry)) ++ text
last_of_all sections symbols text entry none = rw none (simp (append-nil, append_assoc))

entry_added : (m n : MapData) (entry : NamedValue) → IsPrintedValue entry → with_entry m entry ≡ Ok n → Grows m (entry_text entry) n
unfolding with_entry
entry_added m n entry fits h =
    let longer : MapData = record m { entry = Some entry } in
    let test = untested (is_some m.entry) (Ok longer) BadMap n h in
    let is : longer ≡ n = let last = test.1 in cc in
    let none : entry_lines m.entry ≡ [] = ap (λ (o : Option NamedValue). entry_lines o) (no_entry m.entry test.0) in
    subst (Grows m (entry_text entry)) is (record {
      same = last_of_all (sections_text m.sections) (flat_map symbol_text m.symbols) (entry_text entry) (entry_lines m.entry) none;
      printed = λ before. record { sections = before.sections; symbols = before.symbols; entry = fits };
    })

-- ---- any line

-- the fields of a line, joined, and its end
abbrev pub fields_text : List (List ℕ) → List ℕ
fields_text fields = join_with_byte 32 fields ++ 10 ∷ []

kind_is : (kind word : List ℕ) (rest : List (List ℕ)) → bytes_eq kind word ≡ true → fields_text (word ∷ rest) ≡ fields_text (kind ∷ rest)
kind_is kind word rest h = ap (λ (k : List ℕ). fields_text (k ∷ rest)) (sym (same_text kind word h))

part_grows : (m n : MapData) (kind number base size : List ℕ) → with_fields m (kind ∷ number ∷ base ∷ size ∷ []) ≡ Ok n → Grows m (fields_text (kind ∷ number ∷ base ∷ size ∷ [])) n
unfolding with_fields
part_grows m n kind number base size h =
    let test = tested (bytes_eq kind (codes "PART")) (part_of number base size >>= λ part. with_part m part) BadMap n h in
    let found = stepped (part_of number base size) (λ (part : PartData). with_part m part) n test.1 in
    let is = part_found number base size found.0 found.1 in
    grown m n (part_text found.0) (fields_text (kind ∷ number ∷ base ∷ size ∷ []))
    (part_text_is found.0 ∙ ap (λ (t : List ℕ). t ++ 10 ∷ []) (sym is.same) ∙ kind_is kind (codes "PART") (number ∷ base ∷ size ∷ []) test.0)
    (part_added m n found.0 is.printed found.2)

place_grows : (m n : MapData) (kind page base size name : List ℕ) → with_fields m (kind ∷ page ∷ base ∷ size ∷ name ∷ []) ≡ Ok n → Grows m (fields_text (kind ∷ page ∷ base ∷ size ∷ name ∷ [])) n
unfolding with_fields
place_grows m n kind page base size name h =
    let test = tested (bytes_eq kind (codes "SECTION")) (place_of page base size name >>= λ place. with_section m place) BadMap n h in
    let found = stepped (place_of page base size name) (λ (place : Place). with_section m place) n test.1 in
    let is = place_found page base size name found.0 found.1 in
    grown m n (place_text found.0) (fields_text (kind ∷ page ∷ base ∷ size ∷ name ∷ []))
    (place_text_is found.0 ∙ ap (λ (t : List ℕ). t ++ 10 ∷ []) (sym is.same) ∙ kind_is kind (codes "SECTION") (page ∷ base ∷ size ∷ name ∷ []) test.0)
    (section_added m n found.0 is.loaded is.printed found.2)

run_grows : (m n : MapData) (kind run : List ℕ) → with_fields m (kind ∷ run ∷ []) ≡ Ok n → Grows m (fields_text (kind ∷ run ∷ [])) n
unfolding with_fields
run_grows m n kind run h =
    let test = tested (bytes_eq kind (codes "RUN")) (word_of run >>= λ r. with_run m r) BadMap n h in
    let found = stepped (word_of run) (λ (r : ℕ). with_run m r) n test.1 in
    let is = word_found run found.0 found.1 in
    grown m n (run_text found.0) (fields_text (kind ∷ run ∷ []))
    (run_text_is found.0 ∙ ap (λ (t : List ℕ). fields_text (codes "RUN" ∷ t ∷ [])) (sym is.0) ∙ kind_is kind (codes "RUN") (run ∷ []) test.0)
    (run_added m n found.0 is.1 found.2)

named_grows : (m n : MapData) (kind value name : List ℕ) (a b : Bool) → bytes_eq kind (codes "SYMBOL") ≡ a → bytes_eq kind (codes "ENTRY") ≡ b
    → (if a then (value_of value name >>= λ symbol. with_symbol m symbol) else (if b then (value_of value name >>= λ entry. with_entry m entry) else Err BadMap)) ≡ Ok n
    → Grows m (fields_text (kind ∷ value ∷ name ∷ [])) n
named_grows m n kind value name true b e f h =
    let found = stepped (value_of value name) (λ (symbol : NamedValue). with_symbol m symbol) n h in
    let is = value_found value name found.0 found.1 in
    grown m n (symbol_text found.0) (fields_text (kind ∷ value ∷ name ∷ []))
    (symbol_text_is found.0 ∙ ap (λ (t : List ℕ). t ++ 10 ∷ []) (sym (is.same (codes "SYMBOL"))) ∙ kind_is kind (codes "SYMBOL") (value ∷ name ∷ []) e)
    (symbol_added m n found.0 is.printed found.2)
named_grows m n kind value name false true e f h =
    let found = stepped (value_of value name) (λ (entry : NamedValue). with_entry m entry) n h in
    let is = value_found value name found.0 found.1 in
    grown m n (entry_text found.0) (fields_text (kind ∷ value ∷ name ∷ []))
    (entry_text_is found.0 ∙ ap (λ (t : List ℕ). t ++ 10 ∷ []) (sym (is.same (codes "ENTRY"))) ∙ kind_is kind (codes "ENTRY") (value ∷ name ∷ []) f)
    (entry_added m n found.0 is.printed found.2)
named_grows m n kind value name false false e f h = absurd cc

pub fields_grow : (m n : MapData) (fields : List (List ℕ)) → with_fields m fields ≡ Ok n → Grows m (fields_text fields) n
unfolding with_fields
fields_grow m n [] h = absurd cc
fields_grow m n (a ∷ []) h = absurd cc
fields_grow m n (kind ∷ run ∷ []) h = run_grows m n kind run h
fields_grow m n (kind ∷ value ∷ name ∷ []) h = named_grows m n kind value name (bytes_eq kind (codes "SYMBOL")) (bytes_eq kind (codes "ENTRY")) refl refl h
fields_grow m n (kind ∷ number ∷ base ∷ size ∷ []) h = part_grows m n kind number base size h
fields_grow m n (kind ∷ page ∷ base ∷ size ∷ name ∷ []) h = place_grows m n kind page base size name h
fields_grow m n (a ∷ b ∷ c ∷ d ∷ e ∷ f ∷ more) h = absurd cc
