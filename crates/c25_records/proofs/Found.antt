-- What is read is spelled so.
use Rattle.std.proofs.Common.{◌≡◌, ℕ, zero, suc, ◌<◌, ◌≤◌, Bool, true, false, not, ◌&&◌, ◌||◌, cond, ltb, leb, eqb, List, [], ◌∷◌, ◌++◌, length, drop, slice_index, Option, Some, None, Result, Ok, Err, refl, sym, ap, subst, ◌∙◌, append_assoc, arith, inl, inr, ◌⊎◌}
use Rattle.std.specs.List.{flat_map}
use Rattle.std.proofs.lemmas.Bool.{lt-ltb, cases_lt, eqb-true}
use Rattle.std.proofs.lemmas.Bool.Decides.{nat_tests}
use Rattle.std.proofs.lemmas.List.{append-nil, nil_from_length, length-append}
use Rattle.c25_meaning_objects.specs.declared.object.ObjectFault.{ObjectFault}
use Rattle.c25_meaning_objects.specs.declared.object.ObjectFault.TheVariants.{BadMagic, BadVersion, BadTag, BadField, Trailing}
use Rattle.c25_meaning_objects.specs.declared.object.ModuleMark.{ModuleMark}
use Rattle.c25_meaning_objects.specs.declared.object.Relocation.{Relocation}
use Rattle.c25_meaning_objects.specs.declared.object.Version.{Version}
use Rattle.c25_meaning_objects.specs.declared.object.LineMark.{LineMark}
use Rattle.c25_meaning_objects.specs.declared.object.Block.{Block}
use Rattle.c25_meaning_objects.specs.Module.{SectionData, SymbolData, Contents, section_fits, mark_fits, symbol_fits, relocation_fits, file_fits, line_fits, block_fits, are_told, told_by, each_fits, lists_fit, has_sections, is_module}
use Rattle.c25_meaning_objects.specs.Records.{section_payload, mark_payload, symbol_payload, relocation_payload, line_payload, block_payload, section_entry, mark_entry, symbol_entry, relocation_entry, file_entry, line_entry, block_entry, version_code, entry, records, last_entry, head, spelling}
use Rattle.c25_meaning_common.specs.Results.{◌>>=◌}
use Rattle.c25_meaning_objects.specs.RecordReading.{checked, latest, is_in_order, with_section, with_mark, with_symbol, with_relocation, with_file, with_line, with_block, with_record, last_tag, record_at, ended, read_from, read_all, nothing_read, version_of, module_of, has_magic, section_of, mark_of, symbol_of, relocation_of, line_of, block_of}
use Rattle.c25_module.proofs.Texts.{both}
use Rattle.c25_module.proofs.Fitting.{and_true, one_more, ListsFit, lists_fit_all}
use Rattle.c25_records.proofs.Loop.{next_turn, after_record}
use Rattle.c25_records.proofs.Taken.{IsBytes, IsBytes-drop, mark_takes, symbol_takes, relocation_takes, line_takes, block_takes, some_is, not_false, one}
use Rattle.c25_records.proofs.Sections.{section_takes, record_takes, done, ok_is, passed}

pub bind_ok : {A B : Type 0} (r : Result A ObjectFault) (f : A → Result B ObjectFault) (y : B) → (r >>= f) ≡ Ok y → (x : A) × (r ≡ Ok x) × (f x ≡ Ok y)
bind_ok (Ok x) f y e = (x, refl, e)
bind_ok (Err d) f y e = absurd cc

pub allowed : {A : Type 0} (b : Bool) (d : ObjectFault) (x : Result A ObjectFault) (y : A) → cond b x (Err d) ≡ Ok y → (b ≡ true) × (x ≡ Ok y)
allowed true d x y e = (refl, e)
allowed false d x y e = absurd cc

checked_ok : {A : Type 0} (fits : A → Bool) (o : Option A) (x : A) → checked fits o ≡ Ok x → (o ≡ Some x) × (fits x ≡ true)
checked_ok fits None x e = absurd cc
checked_ok fits (Some y) x e =
    let g = allowed (fits y) BadField (Ok y) x e in
    subst (λ z. (Some y ≡ Some z) × (fits z ≡ true)) (ok_is y x g.1) (refl, g.0)

-- one more item that fits
grown_from : {A : Type 0} (fits : List A → A → Bool) (before xs : List A) (x : A) → each_fits fits before xs ≡ true → fits (before ++ xs) x ≡ true → each_fits fits before (xs ++ x ∷ []) ≡ true
grown_from fits before [] x e h = and_true (fits before x) true (ap (λ b. fits b x) (sym (append-nil before)) ∙ h) refl
grown_from fits before (y ∷ ys) x e h =
    let g = both (fits before y) (each_fits fits (before ++ y ∷ []) ys) e in
    and_true (fits before y) (each_fits fits (before ++ y ∷ []) (ys ++ x ∷ [])) g.0 (grown_from fits (before ++ y ∷ []) ys x g.1 (ap (λ b. fits b x) (append_assoc before (y ∷ []) ys) ∙ h))

grown : {A : Type 0} (fits : List A → A → Bool) (xs : List A) (x : A) → each_fits fits [] xs ≡ true → fits xs x ≡ true → each_fits fits [] (xs ++ x ∷ []) ≡ true
grown fits xs x e h = grown_from fits [] xs x e h

-- the lists that have not begun, by the tag of a record that comes in order
pub record NotBegun (c : Contents) (tag : ℕ) : Type 0 where
  pub marks : tag < 2 → c.marks ≡ []
  pub symbols : tag < 3 → c.symbols ≡ []
  pub relocations : tag < 4 → c.relocations ≡ []
  pub files : tag < 5 → c.files ≡ []
  pub lines : tag < 6 → c.lines ≡ []
  pub blocks : tag < 7 → c.blocks ≡ []

-- a list that has begun has its tag at least
record LatestBounds (c : Contents) : Type 0 where
  marks : 0 < length c.marks → 2 ≤ latest c
  symbols : 0 < length c.symbols → 3 ≤ latest c
  relocations : 0 < length c.relocations → 4 ≤ latest c
  files : 0 < length c.files → 5 ≤ latest c
  lines : 0 < length c.lines → 6 ≤ latest c
  blocks : 0 < length c.blocks → 7 ≤ latest c

latest_bounds : (c : Contents) → LatestBounds c
latest_bounds c = record {
  marks = λ p. grind (arith, nat_tests);
  symbols = λ p. grind (arith, nat_tests);
  relocations = λ p. grind (arith, nat_tests);
  files = λ p. grind (arith, nat_tests);
  lines = λ p. grind (arith, nat_tests);
  blocks = λ p. grind (arith, nat_tests);
}

none_yet : {A : Type 0} (xs : List A) (a tag : ℕ) → (0 < length xs → a ≤ tag) → tag < a → xs ≡ []
none_yet xs a tag h lt =
    elim (cases_lt 0 (length xs)) [
      | inl some ↦ absurd (omega (arith, h some))
      | inr none ↦ nil_from_length xs (omega arith)
    ]

not_begun : (c : Contents) (tag : ℕ) → is_in_order c tag ≡ true → NotBegun c tag
not_begun c tag e =
    let g = both (leb (latest c) tag) (leb tag (last_tag c.version) || eqb tag 255) e in
    let le : latest c ≤ tag = grind (arith, nat_tests, g.0) in
    let bounds = latest_bounds c in
    record {
      marks = λ p. none_yet c.marks 2 tag (λ q. omega (arith, bounds.marks q)) p;
      symbols = λ p. none_yet c.symbols 3 tag (λ q. omega (arith, bounds.symbols q)) p;
      relocations = λ p. none_yet c.relocations 4 tag (λ q. omega (arith, bounds.relocations q)) p;
      files = λ p. none_yet c.files 5 tag (λ q. omega (arith, bounds.files q)) p;
      lines = λ p. none_yet c.lines 6 tag (λ q. omega (arith, bounds.lines q)) p;
      blocks = λ p. none_yet c.blocks 7 tag (λ q. omega (arith, bounds.blocks q)) p;
    }

-- what a record adds
pub record Adds (c d : Contents) (tag : ℕ) (payload : List ℕ) : Type 0 where
  pub fits : ListsFit d
  pub parts : records d ≡ records c ++ entry tag payload
  pub begun : has_sections d ≡ true
  pub version : c.version ≡ d.version

has_one : (ss : List SectionData) (s : SectionData) → ltb 0 (length (ss ++ s ∷ [])) ≡ true
has_one ss s = lt-ltb _ _ (omega (arith, length-append ss (s ∷ [])))

regroup_2 : (a b e : List ℕ) → a ++ ((b ++ e) ++ []) ≡ (a ++ (b ++ [])) ++ e
regroup_2 a b e = simp (append_assoc, append-nil)

regroup_3 : (a b d e : List ℕ) → a ++ (b ++ ((d ++ e) ++ [])) ≡ (a ++ (b ++ (d ++ []))) ++ e
regroup_3 a b d e = simp (append_assoc, append-nil)

regroup_4 : (a b d f e : List ℕ) → a ++ (b ++ (d ++ ((f ++ e) ++ []))) ≡ (a ++ (b ++ (d ++ (f ++ [])))) ++ e
regroup_4 a b d f e = simp (append_assoc, append-nil)

regroup_5 : (a b d f g e : List ℕ) → a ++ (b ++ (d ++ (f ++ ((g ++ e) ++ [])))) ≡ (a ++ (b ++ (d ++ (f ++ (g ++ []))))) ++ e
regroup_5 a b d f g e = simp (append_assoc, append-nil)

regroup_6 : (a b d f g h e : List ℕ) → a ++ (b ++ (d ++ (f ++ (g ++ ((h ++ e) ++ []))))) ≡ (a ++ (b ++ (d ++ (f ++ (g ++ (h ++ [])))))) ++ e
regroup_6 a b d f g h e = simp (append_assoc, append-nil)

regroup_7 : (a b d f g h k e : List ℕ) → a ++ (b ++ (d ++ (f ++ (g ++ (h ++ (k ++ e)))))) ≡ (a ++ (b ++ (d ++ (f ++ (g ++ (h ++ k)))))) ++ e
regroup_7 a b d f g h k e = simp append_assoc

adds_same : (c d x : Contents) (tag : ℕ) (text payload : List ℕ) → payload ≡ text → done d ≡ done x → Adds c d tag text → Adds c x tag payload
adds_same c d x tag text payload p q a = subst (λ (t : List ℕ). Adds c x tag t) (sym p) (subst (λ (y : Contents). Adds c y tag text) (ok_is d x q) a)

at_tag : (c d : Contents) (n tag : ℕ) (payload : List ℕ) → n ≡ tag → Adds c d n payload → Adds c d tag payload
at_tag c d n tag payload e a = subst (λ (t : ℕ). Adds c d t payload) e a

begun_at : (c : Contents) (n tag : ℕ) → n ≡ tag → NotBegun c tag → NotBegun c n
begun_at c n tag e b = subst (λ (t : ℕ). NotBegun c t) (sym e) b

whole_last : (tag : ℕ) (payload rest : List ℕ) → tag ≡ 255 → payload ≡ [] → rest ≡ [] → entry tag payload ++ rest ≡ last_entry
whole_last tag payload rest p q r = rw (p, q, r) refl

version_takes : (byte : ℕ) (version : Version) → version_of byte ≡ Ok version → byte ≡ version_code version
version_takes byte version e = grind (arith, nat_tests)

head_is : (bytes : List ℕ) (v : Version) → has_magic bytes ≡ true → leb 5 (length bytes) ≡ true → slice_index bytes 4 ≡ version_code v → bytes ≡ head v ++ drop 5 bytes
head_is bytes v magic long version =
    let g = both _ (eqb (slice_index bytes 3) 79) magic in
    let h = both _ (eqb (slice_index bytes 2) 53) g.0 in
    let k = both _ (eqb (slice_index bytes 1) 50) h.0 in
    let l = both (leb 4 (length bytes)) (eqb (slice_index bytes 0) 67) k.0 in
    let le : 5 ≤ length bytes = grind (arith, nat_tests, long) in
    let c4 : version_code v ∷ drop 5 bytes ≡ drop 4 bytes = rw (← version) (one 4 bytes (omega arith)) in
    let c3 : 79 ∷ drop 4 bytes ≡ drop 3 bytes = rw (← eqb-true _ _ g.1) (one 3 bytes (omega arith)) in
    let c2 : 53 ∷ drop 3 bytes ≡ drop 2 bytes = rw (← eqb-true _ _ h.1) (one 2 bytes (omega arith)) in
    let c1 : 50 ∷ drop 2 bytes ≡ drop 1 bytes = rw (← eqb-true _ _ k.1) (one 1 bytes (omega arith)) in
    let c0 : 67 ∷ drop 1 bytes ≡ bytes = rw (← eqb-true _ _ l.1) (one 0 bytes (omega arith)) in
    sym (ap (λ (t : List ℕ). 67 ∷ (50 ∷ (53 ∷ (79 ∷ t)))) c4 ∙ ap (λ (t : List ℕ). 67 ∷ (50 ∷ (53 ∷ t))) c3 ∙ ap (λ (t : List ℕ). 67 ∷ (50 ∷ t)) c2 ∙ ap (λ (t : List ℕ). 67 ∷ t) c1 ∙ c0)

section_grown : (c : Contents) (s : SectionData) → NotBegun c 1 → ListsFit c → section_fits c.sections s ≡ true
    → Adds c (record c { sections = c.sections ++ s ∷ [] }) 1 (section_payload s)
section_grown c s begun fits h =
    let m = begun.marks (omega arith) in
    let y = begun.symbols (omega arith) in
    let r = begun.relocations (omega arith) in
    let f = begun.files (omega arith) in
    let l = begun.lines (omega arith) in
    let k = begun.blocks (omega arith) in
    record {
      fits = record {
        sections = grown section_fits c.sections s fits.sections h;
        marks = rw m refl;
        symbols = rw y refl;
        relocations = rw r refl;
        files = fits.files;
        lines = fits.lines;
        blocks = rw k refl;
      };
      parts = rw (m, y, r, f, l, k) (append-nil (flat_map section_entry (c.sections ++ s ∷ [])) ∙ one_more section_entry c.sections s ∙ ap (λ (t : List ℕ). t ++ section_entry s) (sym (append-nil (flat_map section_entry c.sections))));
      begun = has_one c.sections s;
      version = refl;
    }

mark_grown : (c : Contents) (m : ModuleMark) → NotBegun c 2 → has_sections c ≡ true → ListsFit c → mark_fits c.sections c.marks m ≡ true
    → Adds c (record c { marks = c.marks ++ m ∷ [] }) 2 (mark_payload m)
mark_grown c m begun some fits h =
    let y = begun.symbols (omega arith) in
    let r = begun.relocations (omega arith) in
    let f = begun.files (omega arith) in
    let l = begun.lines (omega arith) in
    let k = begun.blocks (omega arith) in
    let S = flat_map section_entry c.sections in
    record {
      fits = record {
        sections = fits.sections;
        marks = grown (mark_fits c.sections) c.marks m fits.marks h;
        symbols = fits.symbols;
        relocations = fits.relocations;
        files = fits.files;
        lines = rw l refl;
        blocks = fits.blocks;
      };
      parts = rw (y, r, f, l, k) (ap (λ (t : List ℕ). S ++ (t ++ [])) (one_more mark_entry c.marks m) ∙ regroup_2 S (flat_map mark_entry c.marks) (mark_entry m));
      begun = some;
      version = refl;
    }

symbol_grown : (c : Contents) (y : SymbolData) → NotBegun c 3 → has_sections c ≡ true → ListsFit c → symbol_fits c.version c.sections c.symbols y ≡ true
    → Adds c (record c { symbols = c.symbols ++ y ∷ [] }) 3 (symbol_payload y)
symbol_grown c y begun some fits h =
    let r = begun.relocations (omega arith) in
    let f = begun.files (omega arith) in
    let l = begun.lines (omega arith) in
    let k = begun.blocks (omega arith) in
    let S = flat_map section_entry c.sections in
    let M = flat_map mark_entry c.marks in
    record {
      fits = record {
        sections = fits.sections;
        marks = fits.marks;
        symbols = grown (symbol_fits c.version c.sections) c.symbols y fits.symbols h;
        relocations = rw r refl;
        files = fits.files;
        lines = fits.lines;
        blocks = fits.blocks;
      };
      parts = rw (r, f, l, k) (ap (λ (t : List ℕ). S ++ (M ++ (t ++ []))) (one_more symbol_entry c.symbols y) ∙ regroup_3 S M (flat_map symbol_entry c.symbols) (symbol_entry y));
      begun = some;
      version = refl;
    }

relocation_grown : (c : Contents) (r : Relocation) → NotBegun c 4 → has_sections c ≡ true → ListsFit c → relocation_fits c.version c.sections c.symbols c.relocations r ≡ true
    → Adds c (record c { relocations = c.relocations ++ r ∷ [] }) 4 (relocation_payload r)
relocation_grown c r begun some fits h =
    let f = begun.files (omega arith) in
    let l = begun.lines (omega arith) in
    let k = begun.blocks (omega arith) in
    let S = flat_map section_entry c.sections in
    let M = flat_map mark_entry c.marks in
    let Y = flat_map symbol_entry c.symbols in
    record {
      fits = record {
        sections = fits.sections;
        marks = fits.marks;
        symbols = fits.symbols;
        relocations = grown (relocation_fits c.version c.sections c.symbols) c.relocations r fits.relocations h;
        files = fits.files;
        lines = fits.lines;
        blocks = fits.blocks;
      };
      parts = rw (f, l, k) (ap (λ (t : List ℕ). S ++ (M ++ (Y ++ (t ++ [])))) (one_more relocation_entry c.relocations r) ∙ regroup_4 S M Y (flat_map relocation_entry c.relocations) (relocation_entry r));
      begun = some;
      version = refl;
    }

file_grown : (c : Contents) (name : List ℕ) → NotBegun c 5 → has_sections c ≡ true → ListsFit c → file_fits c.files name ≡ true
    → Adds c (record c { files = c.files ++ name ∷ [] }) 5 name
file_grown c name begun some fits h =
    let l = begun.lines (omega arith) in
    let k = begun.blocks (omega arith) in
    let S = flat_map section_entry c.sections in
    let M = flat_map mark_entry c.marks in
    let Y = flat_map symbol_entry c.symbols in
    let R = flat_map relocation_entry c.relocations in
    record {
      fits = record {
        sections = fits.sections;
        marks = fits.marks;
        symbols = fits.symbols;
        relocations = fits.relocations;
        files = grown file_fits c.files name fits.files h;
        lines = rw l refl;
        blocks = fits.blocks;
      };
      parts = rw (l, k) (ap (λ (t : List ℕ). S ++ (M ++ (Y ++ (R ++ (t ++ []))))) (one_more file_entry c.files name) ∙ regroup_5 S M Y R (flat_map file_entry c.files) (file_entry name));
      begun = some;
      version = refl;
    }

line_grown : (c : Contents) (l : LineMark) → NotBegun c 6 → has_sections c ≡ true → ListsFit c → line_fits c.marks c.files c.lines l ≡ true
    → Adds c (record c { lines = c.lines ++ l ∷ [] }) 6 (line_payload l)
line_grown c l begun some fits h =
    let k = begun.blocks (omega arith) in
    let S = flat_map section_entry c.sections in
    let M = flat_map mark_entry c.marks in
    let Y = flat_map symbol_entry c.symbols in
    let R = flat_map relocation_entry c.relocations in
    let F = flat_map file_entry c.files in
    record {
      fits = record {
        sections = fits.sections;
        marks = fits.marks;
        symbols = fits.symbols;
        relocations = fits.relocations;
        files = fits.files;
        lines = grown (line_fits c.marks c.files) c.lines l fits.lines h;
        blocks = fits.blocks;
      };
      parts = rw k (ap (λ (t : List ℕ). S ++ (M ++ (Y ++ (R ++ (F ++ (t ++ [])))))) (one_more line_entry c.lines l) ∙ regroup_6 S M Y R F (flat_map line_entry c.lines) (line_entry l));
      begun = some;
      version = refl;
    }

block_grown : (c : Contents) (b : Block) → has_sections c ≡ true → ListsFit c → block_fits c.sections c.blocks b ≡ true
    → Adds c (record c { blocks = c.blocks ++ b ∷ [] }) 7 (block_payload b)
block_grown c b some fits h =
    let S = flat_map section_entry c.sections in
    let M = flat_map mark_entry c.marks in
    let Y = flat_map symbol_entry c.symbols in
    let R = flat_map relocation_entry c.relocations in
    let F = flat_map file_entry c.files in
    let L = flat_map line_entry c.lines in
    record {
      fits = record {
        sections = fits.sections;
        marks = fits.marks;
        symbols = fits.symbols;
        relocations = fits.relocations;
        files = fits.files;
        lines = fits.lines;
        blocks = grown (block_fits c.sections) c.blocks b fits.blocks h;
      };
      parts = ap (λ (t : List ℕ). S ++ (M ++ (Y ++ (R ++ (F ++ (L ++ t)))))) (one_more block_entry c.blocks b) ∙ regroup_7 S M Y R F L (flat_map block_entry c.blocks) (block_entry b);
      begun = some;
      version = refl;
    }

section_adds : (c d : Contents) (payload : List ℕ) → IsBytes payload → NotBegun c 1 → ListsFit c → with_section c payload ≡ Ok d → Adds c d 1 payload
unfolding with_section
section_adds c d payload small begun fits e =
    let s = bind_ok (checked (section_fits c.sections) (section_of payload)) (λ s. Ok (record c { sections = c.sections ++ s ∷ [] })) d e in
    let g = checked_ok (section_fits c.sections) (section_of payload) s.0 s.1 in
    adds_same c (record c { sections = c.sections ++ s.0 ∷ [] }) d 1 (section_payload s.0) payload (section_takes payload s.0 small g.0) s.2 (section_grown c s.0 begun fits g.1)

mark_adds : (c d : Contents) (payload : List ℕ) → IsBytes payload → NotBegun c 2 → has_sections c ≡ true → ListsFit c → with_mark c payload ≡ Ok d → Adds c d 2 payload
unfolding with_mark
mark_adds c d payload small begun some fits e =
    let m = bind_ok (checked (mark_fits c.sections c.marks) (mark_of payload)) (λ m. Ok (record c { marks = c.marks ++ m ∷ [] })) d e in
    let g = checked_ok (mark_fits c.sections c.marks) (mark_of payload) m.0 m.1 in
    adds_same c (record c { marks = c.marks ++ m.0 ∷ [] }) d 2 (mark_payload m.0) payload (mark_takes payload m.0 small g.0) m.2 (mark_grown c m.0 begun some fits g.1)

symbol_adds : (c d : Contents) (payload : List ℕ) → IsBytes payload → NotBegun c 3 → has_sections c ≡ true → ListsFit c → with_symbol c payload ≡ Ok d → Adds c d 3 payload
unfolding with_symbol
symbol_adds c d payload small begun some fits e =
    let y = bind_ok (checked (symbol_fits c.version c.sections c.symbols) (symbol_of payload)) (λ y. Ok (record c { symbols = c.symbols ++ y ∷ [] })) d e in
    let g = checked_ok (symbol_fits c.version c.sections c.symbols) (symbol_of payload) y.0 y.1 in
    adds_same c (record c { symbols = c.symbols ++ y.0 ∷ [] }) d 3 (symbol_payload y.0) payload (symbol_takes payload y.0 small g.0) y.2 (symbol_grown c y.0 begun some fits g.1)

relocation_adds : (c d : Contents) (payload : List ℕ) → IsBytes payload → NotBegun c 4 → has_sections c ≡ true → ListsFit c → with_relocation c payload ≡ Ok d → Adds c d 4 payload
unfolding with_relocation
relocation_adds c d payload small begun some fits e =
    let r = bind_ok (checked (relocation_fits c.version c.sections c.symbols c.relocations) (relocation_of payload)) (λ r. Ok (record c { relocations = c.relocations ++ r ∷ [] })) d e in
    let g = checked_ok (relocation_fits c.version c.sections c.symbols c.relocations) (relocation_of payload) r.0 r.1 in
    adds_same c (record c { relocations = c.relocations ++ r.0 ∷ [] }) d 4 (relocation_payload r.0) payload (relocation_takes payload r.0 small g.0) r.2 (relocation_grown c r.0 begun some fits g.1)

file_adds : (c d : Contents) (payload : List ℕ) → NotBegun c 5 → has_sections c ≡ true → ListsFit c → with_file c payload ≡ Ok d → Adds c d 5 payload
unfolding with_file
file_adds c d payload begun some fits e =
    let f = bind_ok (checked (file_fits c.files) (Some payload)) (λ f. Ok (record c { files = c.files ++ f ∷ [] })) d e in
    let g = checked_ok (file_fits c.files) (Some payload) f.0 f.1 in
    adds_same c (record c { files = c.files ++ f.0 ∷ [] }) d 5 f.0 payload (some_is payload f.0 g.0) f.2 (file_grown c f.0 begun some fits g.1)

line_adds : (c d : Contents) (payload : List ℕ) → IsBytes payload → NotBegun c 6 → has_sections c ≡ true → ListsFit c → with_line c payload ≡ Ok d → Adds c d 6 payload
unfolding with_line
line_adds c d payload small begun some fits e =
    let l = bind_ok (checked (line_fits c.marks c.files c.lines) (line_of payload)) (λ l. Ok (record c { lines = c.lines ++ l ∷ [] })) d e in
    let g = checked_ok (line_fits c.marks c.files c.lines) (line_of payload) l.0 l.1 in
    adds_same c (record c { lines = c.lines ++ l.0 ∷ [] }) d 6 (line_payload l.0) payload (line_takes payload l.0 small g.0) l.2 (line_grown c l.0 begun some fits g.1)

block_adds : (c d : Contents) (payload : List ℕ) → IsBytes payload → has_sections c ≡ true → ListsFit c → with_block c payload ≡ Ok d → Adds c d 7 payload
unfolding with_block
block_adds c d payload small some fits e =
    let p = passed (not (are_told c)) BadField _ d e in
    let b = bind_ok (checked (block_fits c.sections c.blocks) (block_of payload)) (λ b. Ok (record c { blocks = c.blocks ++ b ∷ [] })) d p.1 in
    let g = checked_ok (block_fits c.sections c.blocks) (block_of payload) b.0 b.1 in
    adds_same c (record c { blocks = c.blocks ++ b.0 ∷ [] }) d 7 (block_payload b.0) payload (block_takes payload b.0 small g.0) b.2 (block_grown c b.0 some fits g.1)

chosen : {A : Type 0} (b : Bool) (x y z : A) → cond b x y ≡ z → ((b ≡ true) × (x ≡ z)) ⊎ ((b ≡ false) × (y ≡ z))
chosen true x y z e = inl (refl, e)
chosen false x y z e = inr (refl, e)

record_adds : (c d : Contents) (tag : ℕ) (payload : List ℕ) → IsBytes payload → is_in_order c tag ≡ true → ListsFit c → with_record c tag payload ≡ Ok d → Adds c d tag payload
unfolding with_record
record_adds c d tag payload small order fits e =
    elim (chosen (eqb tag 1) _ _ (Ok d) e) [
      | inl h ↦ at_tag c d 1 tag payload (sym (eqb-true _ _ h.0)) (section_adds c d payload small (begun_at c 1 tag (sym (eqb-true _ _ h.0)) (not_begun c tag order)) fits h.1)
      | inr h ↦
          let g = passed (not (has_sections c)) BadField _ d h.1 in
          let some = not_false (has_sections c) g.0 in
          elim (chosen (eqb tag 2) _ _ (Ok d) g.1) [
            | inl k ↦ at_tag c d 2 tag payload (sym (eqb-true _ _ k.0)) (mark_adds c d payload small (begun_at c 2 tag (sym (eqb-true _ _ k.0)) (not_begun c tag order)) some fits k.1)
            | inr k ↦ later_adds c d tag payload small (not_begun c tag order) some fits k.1
          ]
    ]
  where
    -- the records after the marks
    later_adds : (c d : Contents) (tag : ℕ) (payload : List ℕ) → IsBytes payload → NotBegun c tag → has_sections c ≡ true → ListsFit c
        → cond (eqb tag 3) (with_symbol c payload) (cond (eqb tag 4) (with_relocation c payload) (cond (eqb tag 5) (with_file c payload) (cond (eqb tag 6) (with_line c payload) (cond (eqb tag 7) (with_block c payload) (Err BadTag))))) ≡ Ok d
        → Adds c d tag payload
    later_adds c d tag payload small begun some fits e =
        elim (chosen (eqb tag 3) _ _ (Ok d) e) [
          | inl h ↦ at_tag c d 3 tag payload (sym (eqb-true _ _ h.0)) (symbol_adds c d payload small (begun_at c 3 tag (sym (eqb-true _ _ h.0)) begun) some fits h.1)
          | inr h ↦ elim (chosen (eqb tag 4) _ _ (Ok d) h.1) [
            | inl k ↦ at_tag c d 4 tag payload (sym (eqb-true _ _ k.0)) (relocation_adds c d payload small (begun_at c 4 tag (sym (eqb-true _ _ k.0)) begun) some fits k.1)
            | inr k ↦ elim (chosen (eqb tag 5) _ _ (Ok d) k.1) [
              | inl l ↦ at_tag c d 5 tag payload (sym (eqb-true _ _ l.0)) (file_adds c d payload (begun_at c 5 tag (sym (eqb-true _ _ l.0)) begun) some fits l.1)
              | inr l ↦ elim (chosen (eqb tag 6) _ _ (Ok d) l.1) [
                | inl m ↦ at_tag c d 6 tag payload (sym (eqb-true _ _ m.0)) (line_adds c d payload small (begun_at c 6 tag (sym (eqb-true _ _ m.0)) begun) some fits m.1)
                | inr m ↦
                    let n = allowed (eqb tag 7) BadTag _ d m.1 in
                    at_tag c d 7 tag payload (sym (eqb-true _ _ n.0)) (block_adds c d payload small some fits n.1)
              ]
            ]
          ]
        ]

ended_ok : (c d : Contents) (payload rest : List ℕ) → ended c payload rest ≡ Ok d → (has_sections c ≡ true) × (told_by c.version c ≡ true) × (payload ≡ []) × (rest ≡ []) × (c ≡ d)
unfolding ended
ended_ok c d payload rest e =
    let g = allowed (has_sections c && told_by c.version c && eqb (length payload) 0) BadField _ d e in
    let h = allowed (eqb (length rest) 0) Trailing (Ok c) d g.1 in
    let k = both _ (eqb (length payload) 0) g.0 in
    let s = both (has_sections c) (told_by c.version c) k.0 in
    (s.0, s.1, nil_from_length payload (eqb-true _ _ k.1), nil_from_length rest (eqb-true _ _ h.0), ok_is c d h.1)

-- what is read after the records of `c`
pub read_takes : (n : ℕ) (c d : Contents) (bytes : List ℕ) → IsBytes bytes → ListsFit c → read_from n c bytes ≡ Ok d → (records c ++ bytes ≡ records d ++ last_entry) × (is_module d ≡ true) × (c.version ≡ d.version)
unfolding read_from
read_takes zero c d bytes small fits e = absurd cc
read_takes (suc n) c d bytes small fits e =
    let r = bind_ok (record_at bytes) (after_record n c) d (sym (next_turn n c bytes) ∙ e) in
    let found = r.0 in
    let t = record_takes bytes found small r.1 in
    let g = passed (not (is_in_order c found.0.tag)) BadTag _ d r.2 in
    let order = not_false (is_in_order c found.0.tag) g.0 in
    elim (chosen (eqb found.0.tag 255) _ _ (Ok d) g.1) [
      | inl h ↦
          let f = ended_ok c d found.0.payload found.1 h.1 in
          let text : bytes ≡ last_entry = t.0 ∙ whole_last found.0.tag found.0.payload found.1 (eqb-true _ _ h.0) f.2 f.3 in
          subst (λ (x : Contents). (records c ++ bytes ≡ records x ++ last_entry) × (is_module x ≡ true) × (c.version ≡ x.version)) f.4 (ap (λ (t : List ℕ). records c ++ t) text, and_true (has_sections c) (lists_fit c) f.0 (lists_fit_all c fits f.1), refl)
      | inr h ↦
          let w = bind_ok (with_record c found.0.tag found.0.payload) (λ x. read_from n x found.1) d h.1 in
          let adds = record_adds c w.0 found.0.tag found.0.payload t.1 order fits w.1 in
          let later = read_takes n w.0 d found.1 t.2 adds.fits w.2 in
          let step : records c ++ bytes ≡ records w.0 ++ found.1 =
          ap (λ (t : List ℕ). records c ++ t) t.0 ∙ sym (append_assoc (records c) (entry found.0.tag found.0.payload) found.1) ∙ ap (λ (t : List ℕ). t ++ found.1) (sym adds.parts) in
          (step ∙ later.0, later.1, adds.version ∙ later.2)
    ]

pub module_takes : (bytes : List ℕ) (d : Contents) → IsBytes bytes → module_of bytes ≡ Ok d → (bytes ≡ spelling d) × (is_module d ≡ true)
unfolding module_of
module_takes bytes d small e =
    let g = passed (not (has_magic bytes)) BadMagic _ d e in
    let magic = not_false (has_magic bytes) g.0 in
    let h = passed (not (leb 5 (length bytes))) BadVersion _ d g.1 in
    let v = bind_ok (version_of (slice_index bytes 4)) (λ version. read_all version (drop 5 bytes)) d h.1 in
    let empty : ListsFit (nothing_read v.0) = record { sections = refl; marks = refl; symbols = refl; relocations = refl; files = refl; lines = refl; blocks = refl } in
    let t = read_takes (length (drop 5 bytes)) (nothing_read v.0) d (drop 5 bytes) (IsBytes-drop 5 bytes small) empty v.2 in
    (head_is bytes v.0 magic (not_false _ h.0) (version_takes (slice_index bytes 4) v.0 v.1) ∙ ap (λ (t : List ℕ). head v.0 ++ t) t.0 ∙ ap (λ (version : Version). head version ++ (records d ++ last_entry)) t.2, t.1)
