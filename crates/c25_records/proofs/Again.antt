-- What is spelled so is read.
use Rattle.std.proofs.Common.{◌≡◌, ℕ, zero, suc, ◌+◌, ◌-◌, ◌*◌, ◌^◌, ◌<◌, ◌≤◌, Bool, true, false, not, ◌&&◌, ◌||◌, cond, ltb, leb, eqb, List, [], ◌∷◌, ◌++◌, length, Option, Some, None, Result, Ok, Err, refl, sym, ap, subst, ◌∙◌, append_assoc, arith}
use Rattle.std.specs.Prelude.{FitsSigned}
use Rattle.std.specs.Int.{w16, w32, to_be_bytes}
use Rattle.std.specs.List.{flat_map, AllByRecursion, slice_get}
use Rattle.std.proofs.lemmas.Bool.{ltb-true, leb-true, le-leb, eqb-true}
use Rattle.std.proofs.lemmas.Bool.Decides.{nat_tests}
use Rattle.std.proofs.lemmas.List.{append-nil, length-append, nil_from_length}
use Rattle.std.proofs.lemmas.Option.{slice_get_within}
use Rattle.std.proofs.lemmas.List.Concat.{flat_map-cons}
use Rattle.c25_meaning_objects.specs.declared.object.ObjectFault.{ObjectFault}
use Rattle.c25_meaning_objects.specs.declared.object.ObjectFault.TheVariants.{BadMagic, BadVersion, BadTag, BadField, Trailing}
use Rattle.c25_meaning_objects.specs.declared.object.ModuleMark.{ModuleMark}
use Rattle.c25_meaning_objects.specs.declared.object.Relocation.{Relocation}
use Rattle.c25_meaning_objects.specs.declared.object.Version.{Version}
use Rattle.c25_meaning_objects.specs.declared.object.Version.TheVariants.{One, Two}
use Rattle.c25_meaning_objects.specs.declared.object.LineMark.{LineMark}
use Rattle.c25_meaning_objects.specs.declared.object.Block.{Block}
use Rattle.c25_meaning_objects.specs.declared.object.RelocationBase.{RelocationBase}
use Rattle.c25_meaning_objects.specs.declared.object.RelocationBase.TheVariants as base
use Rattle.c25_meaning_objects.specs.declared.object.SymbolKind.{SymbolKind}
use Rattle.c25_meaning_objects.specs.declared.object.SymbolKind.TheVariants.{Absolute, InSection, Loaded, External}
use Rattle.c25_meaning_objects.specs.Module.{IsModule, SectionBody, Uninitialised, Initialised, SectionData, SymbolData, Contents, body_words, body_size, section_fits, mark_fits, symbol_fits, relocation_fits, file_fits, line_fits, block_fits, block_after, reserved_at, reserved, is_two, are_told, told_by, each_fits, lists_fit, has_sections, is_module, IsSized, words_at, mark_after, last_of, place_fits, is_external, base_fits, relocation_after, field_is_clear}
use Rattle.c25_meaning_objects.specs.Records.{section_payload, mark_payload, symbol_payload, relocation_payload, line_payload, block_payload, section_entry, mark_entry, symbol_entry, relocation_entry, file_entry, line_entry, block_entry, version_code, entry, body_bytes, records, last_entry, spelling, kind_section, base_index}
use Rattle.c25_meaning_common.specs.Results.{◌>>=◌}
use Rattle.c25_meaning_objects.specs.RecordReading.{checked, latest, is_in_order, with_section, with_mark, with_symbol, with_relocation, with_file, with_line, with_block, with_record, last_tag, Record, ended, read_from, read_all, nothing_read, version_of, module_of, section_of, mark_of, symbol_of, relocation_of, line_of, block_of}
use Rattle.c25_module.proofs.Texts.{both}
use Rattle.c25_module.proofs.Fitting.{and_true, ListsFit, lists_fit_each, section_small, symbol_small, file_short}
use Rattle.c25_records.proofs.Loop.{next_turn, after_record}
use Rattle.c25_records.proofs.Taken.{mark_again, symbol_again, relocation_again, line_again, block_again, IsSmall}
use Rattle.c25_records.proofs.Sections.{section_again, record_again, ok_is}
use Rattle.c25_records.proofs.Found.{allowed}

-- a record that is taken
pub record Taking (c d : Contents) (tag : ℕ) (payload : List ℕ) : Type 0 where
  pub order : is_in_order c tag ≡ true
  pub inner : eqb tag 255 ≡ false
  pub short : length payload < 2 ^ 32
  pub adds : with_record c tag payload ≡ Ok d

turn_taken : (n : ℕ) (c d : Contents) (tag : ℕ) (payload rest : List ℕ) → Taking c d tag payload → read_from (suc n) c (entry tag payload ++ rest) ≡ read_from n d rest
turn_taken n c d tag payload rest t =
    let r = record_again tag payload rest t.short in
    let after : after_record n c (record { tag = tag; payload = payload }, rest) ≡ read_from n d rest =
    ap (λ (b : Bool). cond (not b) (Err BadTag) (cond (eqb tag 255) (ended c payload rest) (with_record c tag payload >>= λ x. read_from n x rest))) t.order
    ∙ ap (λ (b : Bool). cond b (ended c payload rest) (with_record c tag payload >>= λ x. read_from n x rest)) t.inner
    ∙ ap (λ (x : Result Contents ObjectFault). x >>= λ x. read_from n x rest) t.adds in
    next_turn n c (entry tag payload ++ rest) ∙ ap (λ (x : Result (Record × List ℕ) ObjectFault). x >>= after_record n c) r ∙ after

-- items one after the other
all_taken : {A : Type 0} (state : List A → Contents) (tag : ℕ) (payload : A → List ℕ) (before todo : List A) (n : ℕ) (rest : List ℕ)
    → ((front back : List A) (x : A) → front ++ (x ∷ back) ≡ before ++ todo → Taking (state front) (state (front ++ x ∷ [])) tag (payload x))
    → read_from (length todo + n) (state before) (flat_map (λ x. entry tag (payload x)) todo ++ rest) ≡ read_from n (state (before ++ todo)) rest
all_taken {A} state tag payload before [] n rest h =
    let fuel : 0 + n ≡ n = omega arith in
    ap (λ (k : ℕ). read_from k (state before) rest) fuel ∙ ap (λ (xs : List A). read_from n (state xs) rest) (sym (append-nil before))
all_taken {A} state tag payload before (x ∷ xs) n rest h =
    let first = turn_taken (length xs + n) (state before) (state (before ++ x ∷ [])) tag (payload x) (flat_map (λ x. entry tag (payload x)) xs ++ rest) (h before xs x refl) in
    let others = all_taken state tag payload (before ++ x ∷ []) xs n rest (λ front back y e. h front back y (e ∙ append_assoc before (x ∷ []) xs)) in
    let text : flat_map (λ x. entry tag (payload x)) (x ∷ xs) ++ rest ≡ entry tag (payload x) ++ (flat_map (λ x. entry tag (payload x)) xs ++ rest) =
    ap (λ (t : List ℕ). t ++ rest) (flat_map-cons (λ x. entry tag (payload x)) x xs) ∙ append_assoc (entry tag (payload x)) (flat_map (λ x. entry tag (payload x)) xs) rest in
    let fuel : length (x ∷ xs) + n ≡ suc (length xs + n) = omega arith in
    ap (λ (t : List ℕ). read_from (length (x ∷ xs) + n) (state before) t) text
    ∙ ap (λ (k : ℕ). read_from k (state before) (entry tag (payload x) ++ (flat_map (λ x. entry tag (payload x)) xs ++ rest))) fuel
    ∙ first ∙ others ∙ ap (λ (ys : List A). read_from n (state ys) rest) (append_assoc before (x ∷ []) xs)

-- what holds of an item after others in a list each of which fits
fits_at : {A : Type 0} (fits : List A → A → Bool) (before front back : List A) (x : A) → each_fits fits before (front ++ (x ∷ back)) ≡ true → fits (before ++ front) x ≡ true
fits_at fits before [] back x e = ap (λ b. fits b x) (append-nil before) ∙ (both (fits before x) (each_fits fits (before ++ x ∷ []) back) e).0
fits_at fits before (y ∷ ys) back x e =
    ap (λ b. fits b x) (sym (append_assoc before (y ∷ []) ys)) ∙ fits_at fits (before ++ y ∷ []) ys back x (both (fits before y) (each_fits fits (before ++ y ∷ []) (ys ++ (x ∷ back))) e).1

all_at : {A : Type 0} (P : A → Type 0) (front back : List A) (x : A) → AllByRecursion P (front ++ (x ∷ back)) → P x
all_at P [] back x h = h.0
all_at P (y ∷ ys) back x h = all_at P ys back x h.1

checked_again : {A : Type 0} (fits : A → Bool) (o : Option A) (x : A) → o ≡ Some x → fits x ≡ true → checked fits o ≡ Ok x
checked_again {A} fits o x e h = ap (λ (q : Option A). checked fits q) e ∙ ap (λ (b : Bool). cond b (Ok x) (Err BadField)) h

-- ---- the numbers of items that fit

words_length : (ws : List ℕ) → length (flat_map (to_be_bytes w16) ws) ≡ 2 * length ws
words_length [] = refl
words_length (w ∷ ws) = ap (λ (t : List ℕ). length t) (flat_map-cons (to_be_bytes w16) w ws) ∙ omega (arith, words_length ws)

body_length : (b : SectionBody) → body_size b ≤ 65536 → length (body_bytes b) < 2 ^ 20
body_length (Uninitialised size) le = omega arith
body_length (Initialised ws) le = omega (arith, length-append (to_be_bytes w32 (length ws)) (flat_map (to_be_bytes w16) ws), words_length ws)

pub section_short : (s : SectionData) → body_size s.body ≤ 65536 → length s.name ≤ 32 → length (section_payload s) < 2 ^ 32
section_short s p q = omega (arith, length-append s.name (body_bytes s.body), body_length s.body p)

body_words_length : (b : SectionBody) → length (body_words b) ≤ body_size b
body_words_length (Uninitialised size) = omega arith
body_words_length (Initialised ws) = omega arith

-- how many sections there are
sections_few : (before ss : List SectionData) → length before ≤ 255 → each_fits section_fits before ss ≡ true → length before + length ss ≤ 255
sections_few before [] le e = omega arith
sections_few before (s ∷ ss) le e =
    let g = both (section_fits before s) (each_fits section_fits (before ++ s ∷ []) ss) e in
    let small = section_small before s g.0 in
    omega (arith, sections_few (before ++ s ∷ []) ss (omega (arith, small.2, length-append before (s ∷ []))) g.1, length-append before (s ∷ []))

-- a word of a section by its number has a small place
word_small : (before ss : List SectionData) (number at : ℕ) → each_fits section_fits before ss ≡ true → at < length (words_at ss number) → (number < length ss) × (at < 65536)
word_small before [] number at e lt = absurd (omega arith)
word_small before (s ∷ ss) zero at e lt =
    let small = section_small before s (both (section_fits before s) (each_fits section_fits (before ++ s ∷ []) ss) e).0 in
    (omega arith, omega (arith, small.0, body_words_length s.body))
word_small before (s ∷ ss) (suc number) at e lt =
    let g = both (section_fits before s) (each_fits section_fits (before ++ s ∷ []) ss) e in
    let later = word_small (before ++ s ∷ []) ss number at g.1 lt in
    (omega (arith, later.0), later.1)

mark_small : (ss : List SectionData) (ms : List ModuleMark) (m : ModuleMark) → each_fits section_fits [] ss ≡ true → mark_fits ss ms m ≡ true → (m.section < 2 ^ 16) × (m.offset < 2 ^ 16)
mark_small ss ms m all e =
    let b = both _ (mark_after (last_of ms) m) e in
    let a = both (eqb m.size 1 || eqb m.size 2) (leb (m.offset + m.size) (length (words_at ss m.section))) b.0 in
    let some : 1 ≤ m.size = grind (arith, nat_tests, a.0) in
    let le : m.offset + m.size ≤ length (words_at ss m.section) = leb-true _ _ a.1 in
    let w = word_small [] ss m.section m.offset all (omega arith) in
    let few = sections_few [] ss (omega arith) all in
    (omega (arith, w.0), omega (arith, w.1))

symbols_few : (version : Version) (ss : List SectionData) (before ys : List SymbolData) → length before ≤ 65535 → each_fits (symbol_fits version ss) before ys ≡ true → length before + length ys ≤ 65535
symbols_few version ss before [] le e = omega arith
symbols_few version ss before (y ∷ ys) le e =
    let g = both (symbol_fits version ss before y) (each_fits (symbol_fits version ss) (before ++ y ∷ []) ys) e in
    let small = symbol_small version ss before y g.0 in
    omega (arith, symbols_few version ss (before ++ y ∷ []) ys (omega (arith, small.1, length-append before (y ∷ []))) g.1, length-append before (y ∷ []))

kind_small : (ss : List SectionData) (y : SymbolData) (k : SymbolKind) → length ss ≤ 255 → place_fits ss y k ≡ true → kind_section k < 2 ^ 16
kind_small ss y Absolute few e = omega arith
kind_small ss y (InSection number) few e = omega (arith, ltb-true number (length ss) e)
kind_small ss y (Loaded number) few e = omega (arith, ltb-true number (length ss) e)
kind_small ss y External few e = omega arith

external_at : (ys : List SymbolData) (o : Option SymbolData) (number : ℕ) → slice_get ys number ≡ o → is_external o ≡ true → number < length ys
external_at ys None number e h = absurd cc
external_at ys (Some y) number e h = slice_get_within ys number y e

base_small : (version : Version) (ss : List SectionData) (ys : List SymbolData) (b : RelocationBase) → length ss ≤ 255 → length ys ≤ 65535 → base_fits version ss ys b ≡ true → base_index b < 2 ^ 16
base_small version ss ys (base.Section number) p q e = omega (arith, ltb-true number (length ss) e)
base_small version ss ys (base.Loaded number) p q e = omega (arith, ltb-true number (length ss) (both (is_two version) _ e).1)
base_small version ss ys (base.External number) p q e = omega (arith, external_at ys (slice_get ys number) number refl e)

relocation_small : (version : Version) (ss : List SectionData) (ys : List SymbolData) (rs : List Relocation) (r : Relocation) → each_fits section_fits [] ss ≡ true → length ys ≤ 65535 → FitsSigned w32 r.addend → relocation_fits version ss ys rs r ≡ true → IsSmall r
relocation_small version ss ys rs r all q addend e =
    let b = both _ (field_is_clear (words_at ss r.section) r) e in
    let a = both (base_fits version ss ys r.base) (relocation_after (last_of rs) r) b.0 in
    let f = both (ltb r.offset (length (words_at ss r.section))) _ b.1 in
    let w = word_small [] ss r.section r.offset all (ltb-true _ _ f.0) in
    let few = sections_few [] ss (omega arith) all in
    record { section = omega (arith, w.0); offset = omega (arith, w.1); index = base_small version ss ys r.base (omega (arith, few)) q a.0; addend = addend }

-- a block's section and offset
reserved_small : (before ss : List SectionData) (number size : ℕ) → each_fits section_fits before ss ≡ true → 0 < size → size ≤ reserved_at ss number → (number < length ss) × (size ≤ 65536)
reserved_small before [] number size e some le = absurd (omega arith)
reserved_small before (s ∷ ss) zero size e some le =
    let small = section_small before s (both (section_fits before s) (each_fits section_fits (before ++ s ∷ []) ss) e).0 in
    (omega arith, omega (arith, small.0, reserved_below s.body))
  where
    reserved_below : (b : SectionBody) → reserved b ≤ body_size b
    reserved_below (Uninitialised n) = omega arith
    reserved_below (Initialised ws) = omega arith
reserved_small before (s ∷ ss) (suc number) size e some le =
    let g = both (section_fits before s) (each_fits section_fits (before ++ s ∷ []) ss) e in
    let later = reserved_small (before ++ s ∷ []) ss number size g.1 some le in
    (omega (arith, later.0), later.1)

block_small : (ss : List SectionData) (bs : List Block) (b : Block) → each_fits section_fits [] ss ≡ true → block_fits ss bs b ≡ true → (b.section < 2 ^ 16) × (b.offset < 2 ^ 16)
block_small ss bs b all e =
    let d = both _ (block_after (last_of bs) b) e in
    let c = both _ (leb (b.offset + b.size) (reserved_at ss b.section)) d.0 in
    let a = both (leb 1 b.size) (leb b.size 128) c.0 in
    let one : 1 ≤ b.size = leb-true _ _ a.0 in
    let w = reserved_small [] ss b.section (b.offset + b.size) all (omega arith) (leb-true _ _ c.1) in
    let few = sections_few [] ss (omega arith) all in
    (omega (arith, w.0), omega (arith, w.1))

-- ---- each kind of record is taken

-- a record of a tag up to 7 is taken where it comes in order and fits
taking : (c d : Contents) (tag : ℕ) (payload : List ℕ) → leb (latest c) tag ≡ true → leb tag (last_tag c.version) ≡ true → eqb tag 255 ≡ false → length payload < 2 ^ 32 → with_record c tag payload ≡ Ok d → Taking c d tag payload
taking c d tag payload late known inner short adds = record {
  order = and_true (leb (latest c) tag) (leb tag (last_tag c.version) || eqb tag 255) late (rw known refl);
  inner = inner;
  short = short;
  adds = adds;
}

below_cond : (b : Bool) (x y k : ℕ) → leb x k ≡ true → leb y k ≡ true → leb (cond b x y) k ≡ true
below_cond true x y k p q = p
below_cond false x y k p q = q

or_true : (b : Bool) → (b || true) ≡ true
or_true true = refl
or_true false = refl

latest_below : (c : Contents) (k : ℕ) → 7 ≤ k → leb (latest c) k ≡ true
latest_below c k le =
    let p : (n : ℕ) → n ≤ 7 → leb n k ≡ true = λ n lt. le-leb n k (omega arith) in
    below_cond (ltb 0 (length c.blocks)) 7 _ k (p 7 (omega arith)) (below_cond (ltb 0 (length c.lines)) 6 _ k (p 6 (omega arith))
    (below_cond (ltb 0 (length c.files)) 5 _ k (p 5 (omega arith)) (below_cond (ltb 0 (length c.relocations)) 4 _ k (p 4 (omega arith))
    (below_cond (ltb 0 (length c.symbols)) 3 _ k (p 3 (omega arith)) (below_cond (ltb 0 (length c.marks)) 2 1 k (p 2 (omega arith)) (p 1 (omega arith)))))))

-- the tags that both versions have
early : (v : Version) (tag : ℕ) → tag ≤ 4 → leb tag (last_tag v) ≡ true
early One tag le = le-leb tag 4 le
early Two tag le = le-leb tag 7 (omega arith)

late : (v : Version) (tag : ℕ) → v ≡ Two → tag ≤ 7 → leb tag (last_tag v) ≡ true
late One tag is le = absurd cc
late Two tag is le = le-leb tag 7 le

-- lists with nothing after sections, after marks and so on
abbrev to_sections : Version → List SectionData → Contents
to_sections v ss = record (nothing_read v) { sections = ss }

abbrev to_marks : Version → List SectionData → List ModuleMark → Contents
to_marks v ss ms = record (to_sections v ss) { marks = ms }

abbrev to_symbols : Version → List SectionData → List ModuleMark → List SymbolData → Contents
to_symbols v ss ms ys = record (to_marks v ss ms) { symbols = ys }

abbrev to_relocations : Version → List SectionData → List ModuleMark → List SymbolData → List Relocation → Contents
to_relocations v ss ms ys rs = record (to_symbols v ss ms ys) { relocations = rs }

abbrev to_files : Contents → List (List ℕ) → Contents
to_files c fs = record c { files = fs; lines = []; blocks = [] }

abbrev to_lines : Contents → List LineMark → Contents
to_lines c ls = record c { lines = ls; blocks = [] }

abbrev to_blocks : Contents → List Block → Contents
to_blocks c bs = record c { blocks = bs }

section_taking : (v : Version) (ss : List SectionData) (s : SectionData) → section_fits ss s ≡ true → AllByRecursion (λ w. w < 2 ^ 16) (body_words s.body)
    → Taking (to_sections v ss) (to_sections v (ss ++ s ∷ [])) 1 (section_payload s)
unfolding with_record with_section
section_taking v ss s e words =
    let small = section_small ss s e in
    taking (to_sections v ss) (to_sections v (ss ++ s ∷ [])) 1 (section_payload s) refl (early v 1 (omega arith)) refl (section_short s small.0 small.1)
    (ap (λ (r : Result SectionData ObjectFault). r >>= λ s. Ok (to_sections v (ss ++ s ∷ [])))
    (checked_again (section_fits ss) (section_of (section_payload s)) s (section_again s (omega (arith, small.0)) words) e))

mark_taking : (v : Version) (ss : List SectionData) (ms : List ModuleMark) (m : ModuleMark) → ltb 0 (length ss) ≡ true → each_fits section_fits [] ss ≡ true → mark_fits ss ms m ≡ true
    → Taking (to_marks v ss ms) (to_marks v ss (ms ++ m ∷ [])) 2 (mark_payload m)
unfolding with_record with_mark
mark_taking v ss ms m some all e =
    let small = mark_small ss ms m all e in
    let c = to_marks v ss ms in
    taking c (to_marks v ss (ms ++ m ∷ [])) 2 (mark_payload m) (below_cond (ltb 0 (length ms)) 2 1 2 refl refl) (early v 2 (omega arith)) refl (omega arith)
    (ap (λ (b : Bool). cond (not b) (Err BadField) (with_mark c (mark_payload m))) some
    ∙ ap (λ (r : Result ModuleMark ObjectFault). r >>= λ m. Ok (to_marks v ss (ms ++ m ∷ [])))
    (checked_again (mark_fits ss ms) (mark_of (mark_payload m)) m (mark_again m small.0 small.1) e))

symbol_taking : (v : Version) (ss : List SectionData) (ms : List ModuleMark) (ys : List SymbolData) (y : SymbolData) → ltb 0 (length ss) ≡ true → each_fits section_fits [] ss ≡ true → FitsSigned w32 y.value → symbol_fits v ss ys y ≡ true
    → Taking (to_symbols v ss ms ys) (to_symbols v ss ms (ys ++ y ∷ [])) 3 (symbol_payload y)
unfolding with_record with_symbol
symbol_taking v ss ms ys y some all value e =
    let small = symbol_small v ss ys y e in
    let few = sections_few [] ss (omega arith) all in
    let c = to_symbols v ss ms ys in
    taking c (to_symbols v ss ms (ys ++ y ∷ [])) 3 (symbol_payload y)
    (below_cond (ltb 0 (length ys)) 3 (cond (ltb 0 (length ms)) 2 1) 3 refl (below_cond (ltb 0 (length ms)) 2 1 3 refl refl)) (early v 3 (omega arith)) refl (omega (arith, small.0))
    (ap (λ (b : Bool). cond (not b) (Err BadField) (with_symbol c (symbol_payload y))) some
    ∙ ap (λ (r : Result SymbolData ObjectFault). r >>= λ y. Ok (to_symbols v ss ms (ys ++ y ∷ [])))
    (checked_again (symbol_fits v ss ys) (symbol_of (symbol_payload y)) y (symbol_again y (kind_small ss y y.kind (omega (arith, few)) small.2) value) e))

relocation_taking : (v : Version) (ss : List SectionData) (ms : List ModuleMark) (ys : List SymbolData) (rs : List Relocation) (r : Relocation) → ltb 0 (length ss) ≡ true → each_fits section_fits [] ss ≡ true → length ys ≤ 65535 → FitsSigned w32 r.addend → relocation_fits v ss ys rs r ≡ true
    → Taking (to_relocations v ss ms ys rs) (to_relocations v ss ms ys (rs ++ r ∷ [])) 4 (relocation_payload r)
unfolding with_record with_relocation
relocation_taking v ss ms ys rs r some all count addend e =
    let c = to_relocations v ss ms ys rs in
    taking c (to_relocations v ss ms ys (rs ++ r ∷ [])) 4 (relocation_payload r)
    (below_cond (ltb 0 (length rs)) 4 (cond (ltb 0 (length ys)) 3 (cond (ltb 0 (length ms)) 2 1)) 4 refl (below_cond (ltb 0 (length ys)) 3 (cond (ltb 0 (length ms)) 2 1) 4 refl (below_cond (ltb 0 (length ms)) 2 1 4 refl refl)))
    (early v 4 (omega arith)) refl (omega arith)
    (ap (λ (b : Bool). cond (not b) (Err BadField) (with_relocation c (relocation_payload r))) some
    ∙ ap (λ (x : Result Relocation ObjectFault). x >>= λ r. Ok (to_relocations v ss ms ys (rs ++ r ∷ [])))
    (checked_again (relocation_fits v ss ys rs) (relocation_of (relocation_payload r)) r (relocation_again r (relocation_small v ss ys rs r all count addend e)) e))

-- the tag of files is not below those before it
before_files : (c : Contents) (k : ℕ) → 4 ≤ k → leb (cond (ltb 0 (length c.relocations)) 4 (cond (ltb 0 (length c.symbols)) 3 (cond (ltb 0 (length c.marks)) 2 1))) k ≡ true
before_files c k le =
    below_cond (ltb 0 (length c.relocations)) 4 _ k (le-leb 4 k le) (below_cond (ltb 0 (length c.symbols)) 3 _ k (le-leb 3 k (omega arith))
    (below_cond (ltb 0 (length c.marks)) 2 1 k (le-leb 2 k (omega arith)) (le-leb 1 k (omega arith))))

file_taking : (c : Contents) (fs : List (List ℕ)) (f : List ℕ) → c.version ≡ Two → has_sections c ≡ true → file_fits fs f ≡ true
    → Taking (to_files c fs) (to_files c (fs ++ f ∷ [])) 5 f
unfolding with_record with_file
file_taking c fs f two some e =
    taking (to_files c fs) (to_files c (fs ++ f ∷ [])) 5 f
    (below_cond (ltb 0 (length fs)) 5 _ 5 refl (before_files c 5 (omega arith))) (late c.version 5 two (omega arith)) refl (file_short fs f e)
    (ap (λ (b : Bool). cond (not b) (Err BadField) (with_file (to_files c fs) f)) some
    ∙ ap (λ (r : Result (List ℕ) ObjectFault). r >>= λ f. Ok (to_files c (fs ++ f ∷ []))) (checked_again (file_fits fs) (Some f) f refl e))

line_taking : (c : Contents) (ls : List LineMark) (l : LineMark) → c.version ≡ Two → has_sections c ≡ true → (l.file < 2 ^ 16) × (l.line < 2 ^ 32) → line_fits c.marks c.files ls l ≡ true
    → Taking (to_lines c ls) (to_lines c (ls ++ l ∷ [])) 6 (line_payload l)
unfolding with_record with_line
line_taking c ls l two some small e =
    taking (to_lines c ls) (to_lines c (ls ++ l ∷ [])) 6 (line_payload l)
    (below_cond (ltb 0 (length ls)) 6 _ 6 refl (below_cond (ltb 0 (length c.files)) 5 _ 6 refl (before_files c 6 (omega arith)))) (late c.version 6 two (omega arith)) refl (omega arith)
    (ap (λ (b : Bool). cond (not b) (Err BadField) (with_line (to_lines c ls) (line_payload l))) some
    ∙ ap (λ (r : Result LineMark ObjectFault). r >>= λ l. Ok (to_lines c (ls ++ l ∷ [])))
    (checked_again (line_fits c.marks c.files ls) (line_of (line_payload l)) l (line_again l small.0 small.1) e))

block_taking : (c : Contents) (bs : List Block) (b : Block) → c.version ≡ Two → has_sections c ≡ true → are_told c ≡ true → each_fits section_fits [] c.sections ≡ true → block_fits c.sections bs b ≡ true
    → Taking (to_blocks c bs) (to_blocks c (bs ++ b ∷ [])) 7 (block_payload b)
unfolding with_record with_block
block_taking c bs b two some told all e =
    let small = block_small c.sections bs b all e in
    taking (to_blocks c bs) (to_blocks c (bs ++ b ∷ [])) 7 (block_payload b) (latest_below (to_blocks c bs) 7 (omega arith)) (late c.version 7 two (omega arith)) refl (omega arith)
    (ap (λ (t : Bool). cond (not t) (Err BadField) (with_block (to_blocks c bs) (block_payload b))) some
    ∙ ap (λ (t : Bool). cond (not t) (Err BadField) (checked (block_fits c.sections bs) (block_of (block_payload b)) >>= λ b. Ok (to_blocks c (bs ++ b ∷ [])))) told
    ∙ ap (λ (r : Result Block ObjectFault). r >>= λ b. Ok (to_blocks c (bs ++ b ∷ [])))
    (checked_again (block_fits c.sections bs) (block_of (block_payload b)) b (block_again b small.0 small.1) e))

-- ---- the whole

entries_long : {A : Type 0} (tag : ℕ) (payload : A → List ℕ) (xs : List A) → length xs ≤ length (flat_map (λ x. entry tag (payload x)) xs)
entries_long tag payload [] = omega arith
entries_long tag payload (x ∷ xs) =
    let e = ap (λ (t : List ℕ). length t) (flat_map-cons (λ x. entry tag (payload x)) x xs) in
    omega (arith, e, length-append (entry tag (payload x)) (flat_map (λ x. entry tag (payload x)) xs), entries_long tag payload xs)

last_taken : (k : ℕ) (c : Contents) (tail : List ℕ) → has_sections c ≡ true → told_by c.version c ≡ true → read_from (suc k) c (last_entry ++ tail) ≡ cond (eqb (length tail) 0) (Ok c) (Err Trailing)
unfolding ended
last_taken k c tail some told =
    let r = record_again 255 [] tail (omega arith) in
    let order : is_in_order c 255 ≡ true = and_true (leb (latest c) 255) (leb 255 (last_tag c.version) || true) (latest_below c 255 (omega arith)) (or_true (leb 255 (last_tag c.version))) in
    next_turn k c (last_entry ++ tail) ∙ ap (λ (x : Result (Record × List ℕ) ObjectFault). x >>= after_record k c) r
    ∙ ap (λ (b : Bool). cond (not b) (Err BadTag) (ended c [] tail)) order
    ∙ ap (λ (b : Bool). cond (b && told_by c.version c && true) (cond (eqb (length tail) 0) (Ok c) (Err Trailing)) (Err BadField)) some
    ∙ ap (λ (b : Bool). cond (b && true) (cond (eqb (length tail) 0) (Ok c) (Err Trailing)) (Err BadField)) told

-- a module with an item of version 2 alone is of version 2
is_second : (v : Version) (c : Contents) → told_by v c ≡ true → 0 < length c.files + (length c.lines + length c.blocks) → v ≡ Two
is_second Two c e lt = refl
is_second One c e lt =
    let a = both (eqb (length c.files) 0 && eqb (length c.lines) 0) (eqb (length c.blocks) 0) e in
    let b = both (eqb (length c.files) 0) (eqb (length c.lines) 0) a.0 in
    absurd (omega (arith, eqb-true _ _ b.0, eqb-true _ _ b.1, eqb-true _ _ a.1))

some_in : {A : Type 0} (front back xs : List A) (x : A) → front ++ (x ∷ back) ≡ xs → 0 < length xs
some_in {A} front back xs x h = omega (arith, ap (λ (ys : List A). length ys) h, length-append front (x ∷ back))

-- the records of version 2 alone
behind_again : (c : Contents) (k : ℕ) (rest : List ℕ) → IsSized c → has_sections c ≡ true → ListsFit c → told_by c.version c ≡ true
    → read_from (length c.files + (length c.lines + (length c.blocks + k))) (to_files c [])
    (flat_map file_entry c.files ++ (flat_map line_entry c.lines ++ (flat_map block_entry c.blocks ++ rest))) ≡ read_from k c rest
behind_again c k rest sized some fit told =
    let B = flat_map block_entry c.blocks ++ rest in
    let L = flat_map line_entry c.lines ++ B in
    all_taken (to_files c) 5 (λ f. f) [] c.files (length c.lines + (length c.blocks + k)) L
    (λ front back x h. file_taking c front x (is_second c.version c told (omega (arith, some_in front back c.files x h))) some
    (fits_at file_fits [] front back x (ap (λ (xs : List (List ℕ)). each_fits file_fits [] xs) h ∙ fit.files)))
    ∙ all_taken (to_lines c) 6 line_payload [] c.lines (length c.blocks + k) B
    (λ front back x h. line_taking c front x (is_second c.version c told (omega (arith, some_in front back c.lines x h))) some
    (all_at (λ l. (l.file < 2 ^ 16) × (l.line < 2 ^ 32)) front back x (subst (λ (xs : List LineMark). AllByRecursion (λ l. (l.file < 2 ^ 16) × (l.line < 2 ^ 32)) xs) (sym h) sized.lines))
    (fits_at (line_fits c.marks c.files) [] front back x (ap (λ (xs : List LineMark). each_fits (line_fits c.marks c.files) [] xs) h ∙ fit.lines)))
    ∙ all_taken (to_blocks c) 7 block_payload [] c.blocks k rest
    (λ front back x h.
    let two = is_second c.version c told (omega (arith, some_in front back c.blocks x h)) in
    block_taking c front x two some (subst (λ (v : Version). told_by v c ≡ true) two told) fit.sections
    (fits_at (block_fits c.sections) [] front back x (ap (λ (xs : List Block). each_fits (block_fits c.sections) [] xs) h ∙ fit.blocks)))

-- the records of a module are read, whatever follows
pub records_again : (c : Contents) (k : ℕ) (rest : List ℕ) → IsSized c → is_module c ≡ true
    → read_from (length c.sections + (length c.marks + (length c.symbols + (length c.relocations + (length c.files + (length c.lines + (length c.blocks + k))))))) (nothing_read c.version)
    (flat_map section_entry c.sections ++ (flat_map mark_entry c.marks ++ (flat_map symbol_entry c.symbols ++ (flat_map relocation_entry c.relocations
    ++ (flat_map file_entry c.files ++ (flat_map line_entry c.lines ++ (flat_map block_entry c.blocks ++ rest))))))) ≡ read_from k c rest
records_again c k rest sized e =
    let g = both (has_sections c) (lists_fit c) e in
    let all = lists_fit_each c g.1 in
    let fit = all.0 in
    let v = c.version in
    let ss = c.sections in
    let ms = c.marks in
    let ys = c.symbols in
    let rs = c.relocations in
    let few = symbols_few v ss [] ys (omega arith) fit.symbols in
    let n = length c.files + (length c.lines + (length c.blocks + k)) in
    let F = flat_map file_entry c.files ++ (flat_map line_entry c.lines ++ (flat_map block_entry c.blocks ++ rest)) in
    let R = flat_map relocation_entry rs ++ F in
    let Y = flat_map symbol_entry ys ++ R in
    let M = flat_map mark_entry ms ++ Y in
    all_taken (to_sections v) 1 section_payload [] ss (length ms + (length ys + (length rs + n))) M
    (λ front back x h. section_taking v front x (fits_at section_fits [] front back x (ap (λ (xs : List SectionData). each_fits section_fits [] xs) h ∙ fit.sections)) (all_at (λ s. AllByRecursion (λ w. w < 2 ^ 16) (body_words s.body)) front back x (subst (λ (xs : List SectionData). AllByRecursion (λ s. AllByRecursion (λ w. w < 2 ^ 16) (body_words s.body)) xs) (sym h) sized.words)))
    ∙ all_taken (to_marks v ss) 2 mark_payload [] ms (length ys + (length rs + n)) Y
    (λ front back x h. mark_taking v ss front x g.0 fit.sections (fits_at (mark_fits ss) [] front back x (ap (λ (xs : List ModuleMark). each_fits (mark_fits ss) [] xs) h ∙ fit.marks)))
    ∙ all_taken (to_symbols v ss ms) 3 symbol_payload [] ys (length rs + n) R
    (λ front back x h. symbol_taking v ss ms front x g.0 fit.sections (all_at (λ y. FitsSigned w32 y.value) front back x (subst (λ (xs : List SymbolData). AllByRecursion (λ y. FitsSigned w32 y.value) xs) (sym h) sized.values)) (fits_at (symbol_fits v ss) [] front back x (ap (λ (xs : List SymbolData). each_fits (symbol_fits v ss) [] xs) h ∙ fit.symbols)))
    ∙ all_taken (to_relocations v ss ms ys) 4 relocation_payload [] rs n F
    (λ front back x h. relocation_taking v ss ms ys front x g.0 fit.sections (omega (arith, few)) (all_at (λ r. FitsSigned w32 r.addend) front back x (subst (λ (xs : List Relocation). AllByRecursion (λ r. FitsSigned w32 r.addend) xs) (sym h) sized.addends)) (fits_at (relocation_fits v ss ys) [] front back x (ap (λ (xs : List Relocation). each_fits (relocation_fits v ss ys) [] xs) h ∙ fit.relocations)))
    ∙ behind_again c k rest sized g.0 fit all.1

regrouped : (s m y r f l b e t : List ℕ) → ((s ++ (m ++ (y ++ (r ++ (f ++ (l ++ b)))))) ++ e) ++ t ≡ s ++ (m ++ (y ++ (r ++ (f ++ (l ++ (b ++ (e ++ t)))))))
regrouped s m y r f l b e t = simp append_assoc

all_again : (c : Contents) (tail : List ℕ) → IsSized c → is_module c ≡ true → read_all c.version ((records c ++ last_entry) ++ tail) ≡ cond (eqb (length tail) 0) (Ok c) (Err Trailing)
all_again c tail sized e =
    let g = both (has_sections c) (lists_fit c) e in
    let S = flat_map section_entry c.sections in
    let M = flat_map mark_entry c.marks in
    let Y = flat_map symbol_entry c.symbols in
    let R = flat_map relocation_entry c.relocations in
    let F = flat_map file_entry c.files in
    let L = flat_map line_entry c.lines in
    let B = flat_map block_entry c.blocks in
    let end = last_entry ++ tail in
    let nested : List ℕ = S ++ (M ++ (Y ++ (R ++ (F ++ (L ++ (B ++ end)))))) in
    let text : (records c ++ last_entry) ++ tail ≡ nested = regrouped S M Y R F L B last_entry tail in
    let count = length c.sections + (length c.marks + (length c.symbols + (length c.relocations + (length c.files + (length c.lines + (length c.blocks + 0)))))) in
    let long : count < length nested = omega (
      arith,
      length-append S (M ++ (Y ++ (R ++ (F ++ (L ++ (B ++ end)))))),
      length-append M (Y ++ (R ++ (F ++ (L ++ (B ++ end))))),
      length-append Y (R ++ (F ++ (L ++ (B ++ end)))),
      length-append R (F ++ (L ++ (B ++ end))),
      length-append F (L ++ (B ++ end)),
      length-append L (B ++ end),
      length-append B end,
      length-append last_entry tail,
      entries_long 1 section_payload c.sections,
      entries_long 2 mark_payload c.marks,
      entries_long 3 symbol_payload c.symbols,
      entries_long 4 relocation_payload c.relocations,
      entries_long 5 (λ f. f) c.files,
      entries_long 6 line_payload c.lines,
      entries_long 7 block_payload c.blocks,
    ) in
    let k = length nested - (count + 1) in
    let fuel : length nested ≡ length c.sections + (length c.marks + (length c.symbols + (length c.relocations + (length c.files + (length c.lines + (length c.blocks + suc k)))))) = omega arith in
    ap (λ (t : List ℕ). read_all c.version t) text ∙ ap (λ (n : ℕ). read_from n (nothing_read c.version) nested) fuel ∙ records_again c (suc k) end sized e ∙ last_taken k c tail g.0 (lists_fit_each c g.1).1

version_again : (v : Version) → version_of (version_code v) ≡ Ok v
version_again One = refl
version_again Two = refl

-- the spelling of a module, and bytes after it
pub module_again : (c : Contents) (tail : List ℕ) → IsSized c → is_module c ≡ true → module_of (spelling c ++ tail) ≡ cond (eqb (length tail) 0) (Ok c) (Err Trailing)
unfolding module_of
module_again c tail sized e =
    let bytes = spelling c ++ tail in
    let four : leb 4 (length bytes) ≡ true = le-leb _ _ (omega arith) in
    let five : leb 5 (length bytes) ≡ true = le-leb _ _ (omega arith) in
    let rest = (records c ++ last_entry) ++ tail in
    ap (λ (b : Bool). cond (not (b && true && true && true && true)) (Err BadMagic) (cond (not (leb 5 (length bytes))) (Err BadVersion) (version_of (version_code c.version) >>= λ v. read_all v rest))) four
    ∙ ap (λ (b : Bool). cond (not b) (Err BadVersion) (version_of (version_code c.version) >>= λ v. read_all v rest)) five
    ∙ ap (λ (r : Result Version ObjectFault). r >>= λ v. read_all v rest) (version_again c.version)
    ∙ all_again c tail sized e

pub spelling_read : (c : Contents) → IsSized c → is_module c ≡ true → module_of (spelling c) ≡ Ok c
spelling_read c sized e = ap module_of (sym (append-nil (spelling c))) ∙ module_again c [] sized e

-- no spelling begins another
pub no_proper_prefix : (c d : Contents) (tail : List ℕ) → IsSized c → is_module c ≡ true → IsSized d → is_module d ≡ true → spelling d ≡ spelling c ++ tail → (tail ≡ []) × (c ≡ d)
no_proper_prefix c d tail p q r s e =
    let one : cond (eqb (length tail) 0) (Ok c) (Err Trailing) ≡ Ok d = sym (module_again c tail p q) ∙ ap module_of (sym e) ∙ spelling_read d r s in
    let g = allowed (eqb (length tail) 0) Trailing (Ok c) d one in
    (nil_from_length tail (eqb-true _ _ g.0), ok_is c d g.1)

-- modules of one spelling are one
pub one_spelling : (c d : Contents) → IsModule c → IsModule d → spelling c ≡ spelling d → c ≡ d
one_spelling c d first second same =
    (no_proper_prefix c d [] first.sized first.lists second.sized second.lists (sym same ∙ sym (append-nil (spelling c)))).1
