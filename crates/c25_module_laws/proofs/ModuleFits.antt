-- The sections, marks and relocations that lines have made are those of a module.
use Rattle.std.proofs.Common.{◌≡◌, ℕ, zero, suc, ◌+◌, ◌-◌, ◌≤◌, ◌<◌, ◌%◌, Bool, true, false, cond, not, ◌||◌, ◌&&◌, eqb, leb, ltb, List, [], ◌∷◌, ◌++◌, length, map, slice_index, Option, Some, None, refl, sym, ap, ◌∙◌, subst, arith, ◌⊎◌, inl, inr}
use Rattle.std.specs.List.{flat_map, slice_get}
use Rattle.std.specs.Str.{bytes_eq}
use Rattle.std.proofs.lemmas.Bool.{and_from, and_parts, eq-eqb, le-leb, lt-ltb, or_left, or_right}
use Rattle.std.proofs.lemmas.List.{length-append, length-map, map-append}
use Rattle.c25_meaning_assembly.specs.Emission.{extended, section_of}
use Rattle.c25_meaning_objects.specs.Module as modules
use Rattle.c25_meaning_objects.specs.Module.{SectionData, SymbolData, base_fits, begins_sections, body_size, body_words, each_fits, field_is_clear, has_section, has_words, is_from, is_section_name, last_of, mark_after, mark_fits, relocation_after, relocation_fits, section_fits}
use Rattle.c25_meaning_common.specs.Fields.{field_values}
use Rattle.c25_meaning_assembly.specs.Sections.{Section}
use Rattle.c25_meaning_objects.specs.declared.object.ModuleMark.{ModuleMark}
use Rattle.c25_meaning_objects.specs.declared.object.Relocation.{Relocation}
use Rattle.c25_meaning_objects.specs.declared.object.RelocationBase.{RelocationBase}
use Rattle.c25_meaning_objects.specs.declared.object.RelocationBase.TheVariants as relocated
use Rattle.c25_meaning_objects.specs.declared.object.Version.TheVariants.{Two}
use Rattle.c25_module_laws.proofs.Emitted.{Made, filled_from, relocations_at, words_at}
use Rattle.c25_module_laws.proofs.Kept.{Head, begins, get_last, has_head, head_fits, head_of, heads}
use Rattle.c25_module_laws.proofs.LineWords.{AreFilled, IsFilled}
use Rattle.c25_module_laws.proofs.OperandsValued.{HoldsOf}
use Rattle.c25_module_laws.proofs.SectionsFilled.{AreMarks, is_size}
use Rattle.c25_module_laws.proofs.Symbols.{IsBase}

-- each section, by its number from one on
abbrev pub AllFrom : (ℕ → Section → Type 0) → ℕ → List Section → Type 0
AllFrom P k [] = Unit {0}
AllFrom P k (s ∷ ss) = P k s × AllFrom P (suc k) ss

pub all_from : (P : ℕ → Section → Type 0) (k : ℕ) (ss : List Section) → ((i : ℕ) (s : Section) → slice_get ss i ≡ Some s → P (k + i) s) → AllFrom P k ss
all_from P k [] h = tt
all_from P k (s ∷ ss) h =
    let z : k + 0 ≡ k = omega arith in
    (subst (λ (n : ℕ). P n s) z (h 0 s refl), all_from P (suc k) ss (λ i t e. let n : k + suc i ≡ suc k + i = omega arith in subst (λ (n : ℕ). P n t) n (h (suc i) t e)))

pub all_sections : (P : ℕ → Section → Type 0) (ss : List Section) → ((k : ℕ) (s : Section) → slice_get ss k ≡ Some s → P k s) → AllFrom P 0 ss
all_sections P ss h = all_from P 0 ss (λ i s at. let z : i ≡ 0 + i = omega arith in subst (λ (n : ℕ). P n s) z (h i s at))

-- a section that has as many words as it is long
pub record IsFull (ms : List Made) (k : ℕ) (s : Section) : Type 0 where
  pub small : s.size ≤ 65536
  pub size : s.initialised ≡ true → length (words_at k ms) ≡ s.size
  pub bare : s.initialised ≡ false → words_at k ms ≡ []
  pub empty : s.words ≡ []

abbrev pub data_of : List Made → ℕ → Section → SectionData
data_of ms k s = section_of (extended (words_at k ms) (relocations_at k ms) s)

pub data_words : (ms : List Made) (k : ℕ) (s : Section) → IsFull ms k s → body_words (data_of ms k s).body ≡ words_at k ms
data_words ms k s h = on s.initialised refl
  where
    on : (b : Bool) → s.initialised ≡ b → body_words (cond b (modules.Initialised (s.words ++ words_at k ms)) (modules.Uninitialised s.size)) ≡ words_at k ms
    on true is = ap (λ ws. ws ++ words_at k ms) h.empty
    on false is = sym (h.bare is)

data_size : (ms : List Made) (k : ℕ) (s : Section) → IsFull ms k s → body_size (data_of ms k s).body ≤ 65536
data_size ms k s h = on s.initialised refl
  where
    on : (b : Bool) → s.initialised ≡ b → body_size (cond b (modules.Initialised (s.words ++ words_at k ms)) (modules.Uninitialised s.size)) ≤ 65536
    on true is =
        let e : length (s.words ++ words_at k ms) ≡ s.size = ap (λ ws. length (ws ++ words_at k ms)) h.empty ∙ h.size is in
        let l = h.small in
        omega (arith, e, l)
    on false is = h.small

abbrev data_head : SectionData → Head
data_head d = (d.name, has_words d.body)

head_is : (ms : List Made) (k : ℕ) (s : Section) → data_head (data_of ms k s) ≡ head_of s
head_is ms k s = λ i. (s.name, on s.initialised i)
  where
    on : (b : Bool) → has_words (cond b (modules.Initialised (s.words ++ words_at k ms)) (modules.Uninitialised s.size)) ≡ b
    on true = refl
    on false = refl

begins_is : (before : List SectionData) (d : SectionData) → begins_sections before d ≡ begins (map data_head before) (data_head d)
begins_is [] d = refl
begins_is (x ∷ xs) d = refl

has_is : (before : List SectionData) (name : List ℕ) → has_section before name ≡ has_head (map data_head before) name
has_is [] name = refl
has_is (x ∷ xs) name = ap (λ b. bytes_eq x.name name || b) (has_is xs name)

one_section : (before : List SectionData) (d : SectionData) → body_size d.body ≤ 65536 → head_fits (map data_head before) (data_head d) ≡ true → section_fits before d ≡ true
one_section before d small h =
    let a = and_parts _ (ltb (length (map data_head before)) 255) h in
    let b = and_parts _ (not (has_head (map data_head before) d.name)) a.0 in
    let c = and_parts (is_section_name d.name) (begins (map data_head before) (data_head d)) b.0 in
    and_from _ (ltb (length before) 255)
    (and_from _ (not (has_section before d.name))
    (and_from _ (begins_sections before d) (and_from (is_section_name d.name) (leb (body_size d.body) 65536) c.0 (le-leb (body_size d.body) 65536 small)) (begins_is before d ∙ c.1))
    (ap not (has_is before d.name) ∙ b.1))
    (ap (λ n. ltb n 255) (sym (length-map before data_head)) ∙ a.1)

pub sections_fit : (ms : List Made) (k : ℕ) (before : List SectionData) (ss : List Section) → AllFrom (IsFull ms) k ss → each_fits head_fits (map data_head before) (heads ss) ≡ true
    → each_fits section_fits before (map section_of (filled_from k ss ms)) ≡ true
sections_fit ms k before [] full h = refl
sections_fit ms k before (s ∷ ss) full h =
    let d = data_of ms k s in
    let a = and_parts (head_fits (map data_head before) (head_of s)) (each_fits head_fits (map data_head before ++ head_of s ∷ []) (heads ss)) h in
    let same = head_is ms k s in
    let more : map data_head (before ++ d ∷ []) ≡ map data_head before ++ head_of s ∷ [] = map-append data_head before (d ∷ []) ∙ ap (λ (x : Head). map data_head before ++ x ∷ []) same in
    and_from (section_fits before d) (each_fits section_fits (before ++ d ∷ []) (map section_of (filled_from (suc k) ss ms)))
    (one_section before d (data_size ms k s full.0) (subst (λ (x : Head). head_fits (map data_head before) x ≡ true) (sym same) a.0))
    (sections_fit ms (suc k) (before ++ d ∷ []) ss full.1 (subst (λ (hs : List Head). each_fits head_fits hs (heads ss) ≡ true) (sym more) a.1))

-- the words of a section of the module
pub module_words : (ms : List Made) (k i : ℕ) (ss : List Section) (s : Section) → AllFrom (IsFull ms) k ss → slice_get ss i ≡ Some s → modules.words_at (map section_of (filled_from k ss ms)) i ≡ words_at (k + i) ms
module_words ms k i [] s full h = absurd (cc)
module_words ms k zero (t ∷ ts) s full h = let z : k + 0 ≡ k = omega arith in rw z (data_words ms k t full.0)
module_words ms k (suc i) (t ∷ ts) s full h = let z : k + suc i ≡ suc k + i = omega arith in rw z (module_words ms (suc k) i ts s full.1 h)

-- ---- the last item

pub last_push : {X : Type 0} (xs : List X) (x : X) → last_of (xs ++ x ∷ []) ≡ Some x
last_push xs x =
    let one = length-append xs (x ∷ []) in
    let n : length (xs ++ x ∷ []) - 1 ≡ length xs = omega (arith, one) in
    ap (slice_get (xs ++ x ∷ [])) n ∙ get_last xs x

-- the last item, if there is one, lies before a place of a section
abbrev pub IsBefore : {X : Type 0} → (X → ℕ) → (X → ℕ) → ℕ → ℕ → Option X → Type 0
IsBefore section end k low None = Unit {0}
IsBefore section end k low (Some y) = (section y < k) ⊎ ((section y ≡ k) × (end y ≤ low))

pub before_next : {X : Type 0} (section end : X → ℕ) (k low : ℕ) (o : Option X) → IsBefore section end k low o → IsBefore section end (suc k) 0 o
before_next section end k low None h = tt
before_next section end k low (Some y) (inl h) = inl (omega (arith, h))
before_next section end k low (Some y) (inr h) = let e = h.0 in inl (omega (arith, e))

pub is_behind : (s e k o : ℕ) → (s < k) ⊎ ((s ≡ k) × (e ≤ o)) → is_from s e k o ≡ true
is_behind s e k o (inl h) = or_left (ltb s k) (eqb s k && leb e o) (lt-ltb s k h)
is_behind s e k o (inr h) = or_right (ltb s k) (eqb s k && leb e o) (and_from (eqb s k) (leb e o) (eq-eqb s k h.0) (le-leb e o h.1))

-- ---- marks

abbrev pub mark_section : ModuleMark → ℕ
mark_section m = m.section

abbrev pub mark_end : ModuleMark → ℕ
mark_end m = m.offset + m.size

abbrev pub relocation_section : Relocation → ℕ
relocation_section r = r.section

abbrev pub relocation_end : Relocation → ℕ
relocation_end r = r.offset + 1

module _ (D : List SectionData) where
  mark_comes : (o : Option ModuleMark) (m : ModuleMark) → IsBefore mark_section mark_end m.section m.offset o → mark_after o m ≡ true
  mark_comes None m h = refl
  mark_comes (Some y) m h = is_behind y.section (y.offset + y.size) m.section m.offset h

  one_mark : (before : List ModuleMark) (m : ModuleMark) → is_size m.size ≡ true → m.offset + m.size ≤ length (modules.words_at D m.section) → IsBefore mark_section mark_end m.section m.offset (last_of before) → mark_fits D before m ≡ true
  one_mark before m size room h =
      and_from _ (mark_after (last_of before) m) (and_from (is_size m.size) (leb (m.offset + m.size) (length (modules.words_at D m.section))) size (le-leb (m.offset + m.size) (length (modules.words_at D m.section)) room)) (mark_comes (last_of before) m h)

  marks_bound : (k low high : ℕ) (ms : List ModuleMark) → AreMarks k low high ms → low ≤ high
  marks_bound k low high [] h = h
  marks_bound k low high (m ∷ ms) h = let l = marks_bound k (m.offset + m.size) high ms h.3 in let a = h.2 in omega (arith, a, l)

  some_marks : (k low : ℕ) (ms rest before : List ModuleMark) → AreMarks k low (length (modules.words_at D k)) ms → IsBefore mark_section mark_end k low (last_of before)
      → ((b : List ModuleMark) → IsBefore mark_section mark_end (suc k) 0 (last_of b) → each_fits (mark_fits D) b rest ≡ true) → each_fits (mark_fits D) before (ms ++ rest) ≡ true
  some_marks k low [] rest before h last go = go before (before_next mark_section mark_end k low (last_of before) last)
  some_marks k low (m ∷ ms) rest before h last go =
      let is = h.0 in
      let room : m.offset + m.size ≤ length (modules.words_at D m.section) = subst (λ (n : ℕ). m.offset + m.size ≤ length (modules.words_at D n)) (sym is) (marks_bound k (m.offset + m.size) (length (modules.words_at D k)) ms h.3) in
      let at : IsBefore mark_section mark_end m.section m.offset (last_of before) = subst (λ (n : ℕ). IsBefore mark_section mark_end n m.offset (last_of before)) (sym is) (later (last_of before) last h.2) in
      and_from (mark_fits D before m) (each_fits (mark_fits D) (before ++ m ∷ []) (ms ++ rest)) (one_mark before m h.1 room at)
      (some_marks k (m.offset + m.size) ms rest (before ++ m ∷ []) h.3 (subst (IsBefore mark_section mark_end k (m.offset + m.size)) (sym (last_push before m)) (inr (is, omega arith))) go)
    where
      later : (o : Option ModuleMark) → IsBefore mark_section mark_end k low o → low ≤ m.offset → IsBefore mark_section mark_end k m.offset o
      later None h l = tt
      later (Some y) (inl h) l = inl h
      later (Some y) (inr h) l = let e = h.1 in inr (h.0, omega (arith, e, l))

  pub marks_fit : (ms : List Made) (k : ℕ) (ss : List Section) (before : List ModuleMark) → AllFrom (λ n s. AreMarks n 0 (length (modules.words_at D n)) s.marks) k ss
      → IsBefore mark_section mark_end k 0 (last_of before) → each_fits (mark_fits D) before (flat_map (λ s. s.marks) (filled_from k ss ms)) ≡ true
  marks_fit ms k [] before h last = refl
  marks_fit ms k (s ∷ ss) before h last = some_marks k 0 s.marks (flat_map (λ s. s.marks) (filled_from (suc k) ss ms)) before h.0 last (λ b next. marks_fit ms (suc k) ss b h.1 next)

  -- ---- relocations

  module _ (symbols : List SymbolData) where
    relocation_comes : (o : Option Relocation) (r : Relocation) → IsBefore relocation_section relocation_end r.section r.offset o → relocation_after o r ≡ true
    relocation_comes None r h = refl
    relocation_comes (Some y) r h = is_behind y.section (y.offset + 1) r.section r.offset h

    base_is : (b : RelocationBase) → HoldsOf (IsBase (length D) symbols) b → base_fits Two D symbols b ≡ true
    base_is (relocated.Section n) h = lt-ltb n (length D) h
    base_is (relocated.Loaded n) h = lt-ltb n (length D) h
    base_is (relocated.External n) h = h

    clear_is : (k : ℕ) (r : Relocation) → IsFilled (IsBase (length D) symbols) k 0 (modules.words_at D k) r → field_is_clear (modules.words_at D r.section) r ≡ true
    clear_is k r h =
        let o = h.offset_is in
        let w = h.within in
        let at : r.offset ≡ h.word = omega (arith, o) in
        let ws = modules.words_at D k in
        subst (λ (n : ℕ). field_is_clear (modules.words_at D n) r ≡ true) (sym h.section_is)
        (and_from (ltb r.offset (length ws)) (eqb (slice_index ws r.offset % field_values r.kind) 0) (lt-ltb r.offset (length ws) (omega (arith, at, w)))
        (eq-eqb (slice_index ws r.offset % field_values r.kind) 0 (ap (λ n. slice_index ws n % field_values r.kind) at ∙ h.clear)))

    one_relocation : (k : ℕ) (before : List Relocation) (r : Relocation) → IsFilled (IsBase (length D) symbols) k 0 (modules.words_at D k) r → IsBefore relocation_section relocation_end r.section r.offset (last_of before)
        → relocation_fits Two D symbols before r ≡ true
    one_relocation k before r h last =
        and_from _ (field_is_clear (modules.words_at D r.section) r) (and_from (base_fits Two D symbols r.base) (relocation_after (last_of before) r) (base_is r.base h.base) (relocation_comes (last_of before) r last)) (clear_is k r h)

    some_relocations : (k low high : ℕ) (rs rest before : List Relocation) → AreFilled (IsBase (length D) symbols) k 0 (modules.words_at D k) low high rs → IsBefore relocation_section relocation_end k low (last_of before)
        → ((b : List Relocation) → IsBefore relocation_section relocation_end (suc k) 0 (last_of b) → each_fits (relocation_fits Two D symbols) b rest ≡ true) → each_fits (relocation_fits Two D symbols) before (rs ++ rest) ≡ true
    some_relocations k low high [] rest before h last go = go before (before_next relocation_section relocation_end k low (last_of before) last)
    some_relocations k low high (r ∷ rs) rest before h last go =
        let is = (h.1).section_is in
        let at : IsBefore relocation_section relocation_end r.section r.offset (last_of before) = subst (λ (n : ℕ). IsBefore relocation_section relocation_end n r.offset (last_of before)) (sym is) (later (last_of before) last h.0) in
        and_from (relocation_fits Two D symbols before r) (each_fits (relocation_fits Two D symbols) (before ++ r ∷ []) (rs ++ rest)) (one_relocation k before r h.1 at)
        (some_relocations k (r.offset + 1) high rs rest (before ++ r ∷ []) h.2 (subst (IsBefore relocation_section relocation_end k (r.offset + 1)) (sym (last_push before r)) (inr (is, omega arith))) go)
      where
        later : (o : Option Relocation) → IsBefore relocation_section relocation_end k low o → low ≤ r.offset → IsBefore relocation_section relocation_end k r.offset o
        later None h l = tt
        later (Some y) (inl h) l = inl h
        later (Some y) (inr h) l = let e = h.1 in inr (h.0, omega (arith, e, l))

    pub relocations_fit : (ms : List Made) (k : ℕ) (ss : List Section) (before : List Relocation)
        → AllFrom (λ n s. (s.relocations ≡ []) × ((high : ℕ) × AreFilled (IsBase (length D) symbols) n 0 (modules.words_at D n) 0 high (relocations_at n ms))) k ss
        → IsBefore relocation_section relocation_end k 0 (last_of before) → each_fits (relocation_fits Two D symbols) before (flat_map (λ s. s.relocations) (filled_from k ss ms)) ≡ true
    relocations_fit ms k [] before h last = refl
    relocations_fit ms k (s ∷ ss) before h last =
        let own = (h.0).0 in
        let filled = (h.0).1 in
        subst (λ (xs : List Relocation). each_fits (relocation_fits Two D symbols) before ((xs ++ relocations_at k ms) ++ flat_map (λ s. s.relocations) (filled_from (suc k) ss ms)) ≡ true) (sym own)
        (some_relocations k 0 filled.0 (relocations_at k ms) (flat_map (λ s. s.relocations) (filled_from (suc k) ss ms)) before filled.1 last (λ b next. relocations_fit ms (suc k) ss b h.1 next))
