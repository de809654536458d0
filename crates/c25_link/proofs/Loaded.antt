-- The words of a program, section by section.
use Rattle.std.proofs.Common.{◌≡◌, ℕ, ◌+◌, ◌-◌, ◌<◌, ◌≤◌, Bool, true, false, ◌&&◌, cond, eqb, eqb-true, ltb, leb, List, [], ◌∷◌, ◌++◌, length, get_or, take, find, Option, Some, None, is_some, Result, Ok, Err, OnOk, refl, sym, ap, subst, ◌∙◌, arith, inl, inr, ⊎_elim}
use Rattle.std.specs.List.{slice_get}
use Rattle.std.specs.Cmp.{nat_cmp_total, unsigned_tied}
use Rattle.std.specs.FinMap as finite
use Rattle.std.specs.FinMap.{get-insert, get-empty}
use Rattle.std.specs.Borrow.{Bor}
use Rattle.std.specs.Option.{option_map, option_copied, option_map_or, option_or}
use Rattle.std.specs.Ordering.{nat_cmp, eq_by_cmp}
use Rattle.std.proofs.lemmas.Bool.{cases_lt, eqb-false}
use Rattle.std.proofs.lemmas.Bool.Decides.{nat_tests}
use Rattle.std.proofs.lemmas.List.{take_more}
use Rattle.std.proofs.lemmas.List.Folds.{find-append}
use Rattle.std.proofs.lemmas.Option.{slice_get_within, slice_get-get_or, get_or_from_slice_get}
use Rattle.c25_meaning_objects.specs.Module.{SectionBody, Uninitialised, Initialised, SectionData, Contents, body_words, body_size}
use Rattle.c25_meaning_linking.specs.Place.{Place, IsPart, LiesIn, page_of, part_base}
use Rattle.c25_meaning_linking.specs.Words.{HasWord, linked_word, section_base, section_page, is_relocation_at}
use Rattle.c25_meaning_objects.specs.declared.object.Relocation.{Relocation}
use Rattle.c25_meaning_linking.specs.Linking.{HasWords}
use Rattle.c25_link.specs.Bases.{HasRoom}
use Rattle.c25_link.specs.Layout.{HasOnePart}
use Rattle.c25_link.specs.Loading.{linked_at, loaded, HasWordBefore, HasWordsBefore, HavePagesBefore}
use Rattle.c25_link.specs.declared.loading.PageLists.{PageLists}
use Rattle.c25_meaning_image.specs.WordMap.{put_all}
use Rattle.c25_meaning_image.proofs.WordMaps.{put_more}
use Rattle.c25_link.proofs.First.{none_of}

-- ---- a word lies in its part

words_within : (b : SectionBody) → length (body_words b) ≤ body_size b
words_within (Uninitialised size) = omega arith
words_within (Initialised words) = omega arith

lies : (modules : List Contents) (places : List Place) (page address word : ℕ) (h : HasWord modules places page address word) → LiesIn modules places h.number h.section page address
lies modules places page address word h =
    let below = slice_get_within (body_words h.section.body) h.offset h.before h.word_is in
    record { page_is = h.page_is; covers = record { from = omega (arith, h.address_is); upto = omega (arith, h.address_is, below, words_within h.section.body) } }

-- ---- loading a section

is_loaded : (base size address : ℕ) → base ≤ address → address < base + size → (leb base address && ltb address (base + size)) ≡ true
is_loaded base size address from upto = grind (arith, nat_tests)

not_loaded : (base size address : ℕ) → (base ≤ address → address < base + size → ⊥) → (leb base address && ltb address (base + size)) ≡ false
not_loaded base size address out = by_test (leb base address && ltb address (base + size)) refl where
  by_test : (t : Bool) → (leb base address && ltb address (base + size)) ≡ t → (leb base address && ltb address (base + size)) ≡ false
  by_test true e = absurd (out (grind (arith, nat_tests, e)) (grind (arith, nat_tests, e)))
  by_test false e = e

record Inside (base size address : ℕ) : Type 0 where
  from : base ≤ address
  upto : address < base + size

inside : (base size address : ℕ) → (leb base address && ltb address (base + size)) ≡ true → Inside base size address
inside base size address e = record { from = grind (arith, nat_tests); upto = grind (arith, nat_tests) }

-- the part that is loaded
pub record IsLoading (modules : List Contents) (places : List Place) (number index page : ℕ) (m : Contents) (section : SectionData) : Type 0 where
  pub part : IsPart modules number index m section
  pub page_is : page ≡ page_of section.name places
  pub one : HasOnePart modules places

later : (modules : List Contents) (places : List Place) (number index page address word : ℕ) → HasWordBefore modules places number index page address word → HasWordBefore modules places number (index + 1) page address word
later modules places number index page address word h = record {
  has = h.has;
  before = ⊎_elim (λ lt. inl lt) (λ p. inr (p.0, let z : h.has.index < index + 1 = omega (arith, p.1) in z)) h.before;
}

-- an earlier word is not in the part
elsewhere : (modules : List Contents) (places : List Place) (number index page address word : ℕ) (m : Contents) (section : SectionData) → IsLoading modules places number index page m section → HasWordBefore modules places number index page address word
    → part_base modules places number section.name ≤ address → address < part_base modules places number section.name + length (body_words section.body) → ⊥
elsewhere modules places number index page address word m section l h from upto =
    let here : LiesIn modules places number section page address = record { page_is = l.page_is; covers = record { from = from; upto = omega (arith, upto, words_within section.body) } } in
    let same = l.one h.has.number number h.has.index index page address h.has.owner m h.has.section section h.has.part l.part (lies modules places page address word h.has) here in
    ⊎_elim (λ lt. omega (arith, same.0, lt)) (λ p. omega (arith, same.1, p.1)) h.before

new_word : (modules : List Contents) (places : List Place) (number index page address word : ℕ) (m : Contents) (section : SectionData) → IsLoading modules places number index page m section
    → Inside (part_base modules places number section.name) (length (body_words section.body)) address
    → linked_at modules places number m index (body_words section.body) (address - part_base modules places number section.name) ≡ word
    → HasWordBefore modules places number (index + 1) page address word
new_word modules places number index page address word m section l i e =
    let base = part_base modules places number section.name in
    let offset = address - base in
    let below : offset < length (body_words section.body) = omega (arith, i.from, i.upto) in
    record {
      has = record {
        number = number;
        index = index;
        owner = m;
        section = section;
        offset = offset;
        before = get_or (body_words section.body) offset 0;
        part = l.part;
        word_is = slice_get-get_or (body_words section.body) offset 0 below;
        page_is = l.page_is;
        address_is = omega (arith, i.from);
        linked = sym e;
      };
      before = inr (refl, let z : index < index + 1 = omega arith in z);
    }

old_word : (modules : List Contents) (places : List Place) (number index page address word : ℕ) (m : Contents) (section : SectionData) (old : Option ℕ) → IsLoading modules places number index page m section
    → (old ≡ Some word → HasWordBefore modules places number index page address word)
    → loaded (part_base modules places number section.name) (length (body_words section.body)) (linked_at modules places number m index (body_words section.body)) old address ≡ Some word
    → HasWordBefore modules places number (index + 1) page address word
old_word modules places number index page address word m section old l before h = by_test (leb base address && ltb address (base + size)) refl h where
  base : ℕ
  base = part_base modules places number section.name

  size : ℕ
  size = length (body_words section.body)

  by_test : (t : Bool) → (leb (part_base modules places number section.name) address && ltb address (part_base modules places number section.name + length (body_words section.body))) ≡ t
      → cond t (Some (linked_at modules places number m index (body_words section.body) (address - part_base modules places number section.name))) old ≡ Some word
      → HasWordBefore modules places number (index + 1) page address word
  by_test true e g = new_word modules places number index page address word m section l (inside (part_base modules places number section.name) (length (body_words section.body)) address e) (cc)
  by_test false e g = later modules places number index page address word (before g)

-- a word of the part itself
own_word : (modules : List Contents) (places : List Place) (number index page address word : ℕ) (m : Contents) (section : SectionData) (old : Option ℕ) → IsLoading modules places number index page m section
    → (h : HasWord modules places page address word) → h.number ≡ number → h.index ≡ index
    → loaded (part_base modules places number section.name) (length (body_words section.body)) (linked_at modules places number m index (body_words section.body)) old address ≡ Some word
own_word modules places number index page address word m section old l h same at =
    let owners : h.owner ≡ m = let e : slice_get modules h.number ≡ slice_get modules number = ap (slice_get modules) same in let p = h.part.owner_is in let q = l.part.owner_is in cc in
    let sections : h.section ≡ section =
    let e : slice_get h.owner.sections h.index ≡ slice_get m.sections index = λ i. slice_get (owners i).sections (at i) in let p = h.part.section_is in let q = l.part.section_is in cc in
    let base = part_base modules places number section.name in
    let base_is : part_base modules places h.number h.section.name ≡ base = λ i. part_base modules places (same i) (sections i).name in
    let there : slice_get (body_words section.body) h.offset ≡ Some h.before = subst (λ (s : SectionData). slice_get (body_words s.body) h.offset ≡ Some h.before) sections h.word_is in
    let below = slice_get_within (body_words section.body) h.offset h.before there in
    let offset_is : address - base ≡ h.offset = omega (arith, h.address_is, base_is) in
    let before_is : get_or (body_words section.body) h.offset 0 ≡ h.before = get_or_from_slice_get (body_words section.body) h.offset h.before 0 there in
    let value : linked_at modules places number m index (body_words section.body) (address - base) ≡ word =
    ap (linked_at modules places number m index (body_words section.body)) offset_is
    ∙ ap (linked_word modules places number m index h.offset) before_is
    ∙ sym (h.linked ∙ (λ i. linked_word modules places (same i) (owners i) (at i) h.offset h.before)) in
    let test = is_loaded base (length (body_words section.body)) address (omega (arith, h.address_is, base_is)) (omega (arith, h.address_is, base_is, below)) in
    ap (λ b. cond b (Some (linked_at modules places number m index (body_words section.body) (address - base))) old) test ∙ ap Some value

kept_word : (modules : List Contents) (places : List Place) (number index page address word : ℕ) (m : Contents) (section : SectionData) (old : Option ℕ) → IsLoading modules places number index page m section
    → (HasWordBefore modules places number index page address word → old ≡ Some word) → HasWordBefore modules places number (index + 1) page address word
    → loaded (part_base modules places number section.name) (length (body_words section.body)) (linked_at modules places number m index (body_words section.body)) old address ≡ Some word
kept_word modules places number index page address word m section old l held h =
    ⊎_elim (λ lt. earlier (record { has = h.has; before = inl lt })) (λ p.
    ⊎_elim (λ lt. earlier (record { has = h.has; before = inr (p.0, lt) })) (λ ge.
    own_word modules places number index page address word m section old l h.has p.0 (let z : h.has.index ≡ index = omega (arith, p.1, ge) in z))
    (cases_lt h.has.index index)) h.before
  where
    earlier : HasWordBefore modules places number index page address word → loaded (part_base modules places number section.name) (length (body_words section.body)) (linked_at modules places number m index (body_words section.body)) old address ≡ Some word
    earlier b =
        ap (λ t. cond t (Some (linked_at modules places number m index (body_words section.body) (address - part_base modules places number section.name))) old)
        (not_loaded (part_base modules places number section.name) (length (body_words section.body)) address (elsewhere modules places number index page address word m section l b))
        ∙ held b

pub section_loaded : (modules : List Contents) (places : List Place) (number index page : ℕ) (m : Contents) (section : SectionData) (old new : finite.FinMap nat_cmp ℕ) → IsLoading modules places number index page m section
    → HasWordsBefore modules places number index page old
    → ((address : ℕ) → finite.get new address ≡ loaded (part_base modules places number section.name) (length (body_words section.body)) (linked_at modules places number m index (body_words section.body)) (finite.get old address) address)
    → HasWordsBefore modules places number (index + 1) page new
section_loaded modules places number index page m section old new l before is = λ address word. (
  λ e. old_word modules places number index page address word m section (finite.get old address) l (before address word).0 (sym (is address) ∙ e),
  λ h. is address ∙ kept_word modules places number index page address word m section (finite.get old address) l (before address word).1 h,
)

-- ---- a section without words on the page

abbrev pub HasNone : List Contents → List Place → ℕ → ℕ → ℕ → Type 0
HasNone modules places number index page = (address word : ℕ) (h : HasWord modules places page address word) → h.number ≡ number → h.index ≡ index → ⊥

pub section_passed : (modules : List Contents) (places : List Place) (number index page : ℕ) (words : finite.FinMap nat_cmp ℕ) → HasNone modules places number index page → HasWordsBefore modules places number index page words → HasWordsBefore modules places number (index + 1) page words
section_passed modules places number index page words none before = λ address word. (
  λ e. later modules places number index page address word ((before address word).0 e),
  λ h. (before address word).1 (record {
    has = h.has;
    before = ⊎_elim (λ lt. inl lt) (λ p. ⊎_elim (λ lt. inr (p.0, lt)) (λ ge. absurd (none address word h.has p.0 (let z : h.has.index ≡ index = omega (arith, p.1, ge) in z))) (cases_lt h.has.index index)) h.before;
  }),
)

section_there : (modules : List Contents) (number index : ℕ) (m : Contents) (section : SectionData) (o : Contents) (s : SectionData) (n i : ℕ) → IsPart modules number index m section → IsPart modules n i o s → n ≡ number → i ≡ index → s ≡ section
section_there modules number index m section o s n i p q same at =
    let owners : o ≡ m = let e : slice_get modules n ≡ slice_get modules number = ap (slice_get modules) same in let u = p.owner_is in let v = q.owner_is in cc in
    let e : slice_get o.sections i ≡ slice_get m.sections index = λ j. slice_get (owners j).sections (at j) in
    let u = p.section_is in let v = q.section_is in cc

pub none_elsewhere : (modules : List Contents) (places : List Place) (number index page : ℕ) (m : Contents) (section : SectionData) → IsPart modules number index m section → (page ≡ page_of section.name places → ⊥) → HasNone modules places number index page
none_elsewhere modules places number index page m section p differ = λ address word h same at.
    let there = section_there modules number index m section h.owner h.section h.number h.index p h.part same at in
    differ (h.page_is ∙ ap (λ (s : SectionData). page_of s.name places) there)

pub none_uninitialised : (modules : List Contents) (places : List Place) (number index page : ℕ) (m : Contents) (section : SectionData) → IsPart modules number index m section → body_words section.body ≡ [] → HasNone modules places number index page
none_uninitialised modules places number index page m section p empty = λ address word h same at.
    let there = section_there modules number index m section h.owner h.section h.number h.index p h.part same at in
    let none : body_words h.section.body ≡ [] = ap (λ (s : SectionData). body_words s.body) there ∙ empty in
    let at_none : slice_get [] h.offset ≡ Some h.before = subst (λ (ws : List ℕ). slice_get ws h.offset ≡ Some h.before) none h.word_is in
    absurd cc

-- ---- modules

pub nothing_loaded : (modules : List Contents) (places : List Place) (page : ℕ) (words : finite.FinMap nat_cmp ℕ) → ((address : ℕ) → finite.get words address ≡ None) → HasWordsBefore modules places 0 0 page words
nothing_loaded modules places page words empty = λ address word.
    (λ e. let none = empty address in absurd cc, λ h. absurd (⊎_elim (λ lt. omega (arith, lt)) (λ p. omega (arith, p.1)) h.before))

pub module_loaded : (modules : List Contents) (places : List Place) (number index page : ℕ) (m : Contents) (words : finite.FinMap nat_cmp ℕ) → slice_get modules number ≡ Some m → length m.sections ≤ index → HasWordsBefore modules places number index page words → HasWordsBefore modules places (number + 1) 0 page words
module_loaded modules places number index page m words is le before = λ address word. (
  λ e. let h = (before address word).0 e in record { has = h.has; before = inl (⊎_elim (λ lt. let z : h.has.number < number + 1 = omega (arith, lt) in z) (λ p. let z : h.has.number < number + 1 = omega (arith, p.0) in z) h.before) },
  λ h. (before address word).1 (record {
    has = h.has;
    before = ⊎_elim (λ lt. ⊎_elim (λ below. inl below) (λ ge.
        let same : h.has.number ≡ number = omega (arith, lt, ge) in
        let owners : h.has.owner ≡ m = let e : slice_get modules h.has.number ≡ slice_get modules number = ap (slice_get modules) same in let u = h.has.part.owner_is in cc in
        let there = slice_get_within h.has.owner.sections h.has.index h.has.section h.has.part.section_is in
        inr (same, let z : h.has.index < index = omega (arith, there, ap (λ (c : Contents). length c.sections) owners, le) in z)) (cases_lt h.has.number number)) (λ p. absurd (omega (arith, p.1))) h.before;
  }),
)

pub all_loaded : (modules : List Contents) (places : List Place) (number page : ℕ) (words : finite.FinMap nat_cmp ℕ) → length modules ≤ number → HasWordsBefore modules places number 0 page words → HasWords modules places page words
all_loaded modules places number page words le before = λ address word. (
  λ e. ((before address word).0 e).has,
  λ h. (before address word).1 (record { has = h; before = inl (let z : h.number < number = omega (arith, slice_get_within modules h.number h.owner h.part.owner_is, le) in z) }),
)

-- ---- the relocation of a word

first_more : {A : Type 0} (test : A → Bool) (xs : List A) (i : ℕ) (x d : A) → i < length xs → x ≡ get_or xs i d → find test (take (i + 1) xs) ≡ option_or (find test (take i xs)) (cond (test x) (Some x) None)
first_more test xs i x d lt is =
    ap (find test) (take_more xs i d lt ∙ ap (λ y. take i xs ++ y ∷ []) (sym is)) ∙ find-append test (take i xs) (x ∷ [])

or_none : {A : Type 0} (o : Option A) → option_or o None ≡ o
or_none None = refl
or_none (Some x) = refl

or_some : {A : Type 0} (o p : Option A) → is_some o ≡ true → o ≡ option_or o p
or_some None p e = absurd cc
or_some (Some x) p e = refl

-- the first relocation of its word
pub relocation_new : (rs : List Relocation) (i : ℕ) (r d : Relocation) (section offset : ℕ) (old : ℕ → ℕ → Option Relocation) → i < length rs → r ≡ get_or rs i d
    → ((s o : ℕ) → old s o ≡ find (is_relocation_at s o) (take i rs)) → is_some (old r.section r.offset) ≡ false
    → cond (eqb r.section section && eqb r.offset offset) (Some r) (old section offset) ≡ find (is_relocation_at section offset) (take (i + 1) rs)
relocation_new rs i r d section offset old lt is so fresh =
    by_test (eqb r.section section && eqb r.offset offset) refl ∙ ap (λ o. option_or o (cond (is_relocation_at section offset r) (Some r) None)) (so section offset)
    ∙ sym (first_more (is_relocation_at section offset) rs i r d lt is)
  where
    by_test : (t : Bool) → (eqb r.section section && eqb r.offset offset) ≡ t → cond t (Some r) (old section offset) ≡ option_or (old section offset) (cond (eqb r.section section && eqb r.offset offset) (Some r) None)
    by_test true e =
        let s : r.section ≡ section = grind (arith, nat_tests, e) in
        let o : r.offset ≡ offset = grind (arith, nat_tests, e) in
        let none : old section offset ≡ None = none_of (old section offset) (sym (λ j. is_some (old (s j) (o j))) ∙ fresh) in
        ap (λ b. cond b (Some r) None) (sym e) ∙ ap (λ p. option_or p (cond (eqb r.section section && eqb r.offset offset) (Some r) None)) (sym none)
    by_test false e =
        sym (or_none (old section offset)) ∙ ap (λ b. option_or (old section offset) (cond b (Some r) None)) (sym e)

-- one after another of its word
pub relocation_seen : (rs : List Relocation) (i : ℕ) (r d : Relocation) (section offset : ℕ) (old : ℕ → ℕ → Option Relocation) → i < length rs → r ≡ get_or rs i d
    → ((s o : ℕ) → old s o ≡ find (is_relocation_at s o) (take i rs)) → is_some (old r.section r.offset) ≡ true
    → old section offset ≡ find (is_relocation_at section offset) (take (i + 1) rs)
relocation_seen rs i r d section offset old lt is so seen =
    by_test (eqb r.section section && eqb r.offset offset) refl ∙ ap (λ o. option_or o (cond (is_relocation_at section offset r) (Some r) None)) (so section offset)
    ∙ sym (first_more (is_relocation_at section offset) rs i r d lt is)
  where
    by_test : (t : Bool) → (eqb r.section section && eqb r.offset offset) ≡ t → old section offset ≡ option_or (old section offset) (cond (eqb r.section section && eqb r.offset offset) (Some r) None)
    by_test true e =
        let s : r.section ≡ section = grind (arith, nat_tests, e) in
        let o : r.offset ≡ offset = grind (arith, nat_tests, e) in
        or_some (old section offset) _ (sym (λ j. is_some (old (s j) (o j))) ∙ seen)
    by_test false e =
        sym (or_none (old section offset)) ∙ ap (λ b. option_or (old section offset) (cond b (Some r) None)) (sym e)

-- ---- one word more of a section

same_test : (base size address : ℕ) → (address ≡ base + size → ⊥) → (leb base address && ltb address (base + size)) ≡ (leb base address && ltb address (base + (size + 1)))
same_test base size address away = grind (arith, nat_tests)

word_loaded : (base size w address a : ℕ) (word_at : ℕ → ℕ) (old now : Option ℕ) → a ≡ base + size → w ≡ word_at size → now ≡ loaded base size word_at old address
    → cond (eq_by_cmp nat_cmp address a) (Some w) now ≡ loaded base (size + 1) word_at old address
word_loaded base size w address a word_at old now at is before = by_test (eqb address a) refl where
  by_test : (t : Bool) → eqb address a ≡ t → cond (eq_by_cmp nat_cmp address a) (Some w) now ≡ loaded base (size + 1) word_at old address
  by_test true e =
      let here : address ≡ base + size = eqb-true address a e ∙ at in
      let offset : address - base ≡ size = omega arith in
      ap (λ b. cond b (Some w) now) (unsigned_tied address a ∙ e) ∙ ap Some (is ∙ ap word_at (sym offset))
      ∙ ap (λ b. cond b (Some (word_at (address - base))) old) (sym (is_loaded base (size + 1) address (omega arith) (omega arith)))
  by_test false e =
      ap (λ b. cond b (Some w) now) (unsigned_tied address a ∙ e) ∙ before
      ∙ ap (λ b. cond b (Some (word_at (address - base))) old) (same_test base size address (λ h. eqb-false address a e (h ∙ sym at)))

pub words_more : (base size w a : ℕ) (word_at : ℕ → ℕ) (first old new : List (ℕ × ℕ)) → a ≡ base + size → w ≡ word_at size → new ≡ old ++ (a, w) ∷ []
    → ((address : ℕ) → finite.get (put_all old) address ≡ loaded base size word_at (finite.get (put_all first) address) address)
    → (address : ℕ) → finite.get (put_all new) address ≡ loaded base (size + 1) word_at (finite.get (put_all first) address) address
words_more base size w a word_at first old new at is put so address =
    ap (λ (m : finite.FinMap nat_cmp ℕ). finite.get m address) (ap put_all put ∙ put_more old (a, w)) ∙ get-insert nat_cmp_total (put_all old) a w address
    ∙ word_loaded base size w address a word_at (finite.get (put_all first) address) (finite.get (put_all old) address) at is (so address)

-- ---- both pages

pub part_begins : (modules : List Contents) (places : List Place) (number index : ℕ) (m : Contents) (section : SectionData) → slice_get m.sections index ≡ Some section → section_base modules places number m index ≡ part_base modules places number section.name
part_begins modules places number index m section is = ap (λ (o : Option SectionData). option_map_or (λ t. part_base modules places number t.name) o 0) is

pub part_page : (places : List Place) (index : ℕ) (m : Contents) (section : SectionData) → slice_get m.sections index ≡ Some section → section_page places m index ≡ page_of section.name places
part_page places index m section is = ap (λ (o : Option SectionData). option_map_or (λ t. page_of t.name places) o 0) is

-- the words of a part end within the page
pub part_ends : (modules : List Contents) (places : List Place) (number index base : ℕ) (words : List ℕ) (m : Contents) (section : SectionData) → HasRoom modules places → IsPart modules number index m section
    → base ≡ section_base modules places number m index → section.body ≡ Initialised words → base + length words ≤ 65536
part_ends modules places number index base words m section room part at is =
    let r = room number index m section part in
    let begins = part_begins modules places number index m section part.section_is in
    let size : body_size section.body ≡ length words = ap body_size is in
    omega (arith, r.within, begins, size)

-- a page is 0 or 1
pub other_page : (modules : List Contents) (places : List Place) (number index page : ℕ) (m : Contents) (section : SectionData) → HasRoom modules places → IsPart modules number index m section → page ≡ section_page places m index → (page ≡ 0 → ⊥) → page ≡ 1
other_page modules places number index page m section room part at differ =
    let r = room number index m section part in
    let is : page_of section.name places ≡ r.place.page = ap (λ (o : Option Place). option_map_or (λ p. p.page) o 0) r.found in
    let same : page ≡ r.place.page = at ∙ part_page places index m section part.section_is ∙ is in
    below_two page (omega (arith, r.page)) differ
  where
    below_two : (n : ℕ) → n ≤ 1 → (n ≡ 0 → ⊥) → n ≡ 1
    below_two n le away = omega (arith, le, away)

pub pages_uninitialised : (modules : List Contents) (places : List Place) (number index : ℕ) (m : Contents) (section : SectionData) (pages : PageLists) → IsPart modules number index m section → body_words section.body ≡ []
    → HavePagesBefore modules places number index pages → HavePagesBefore modules places number (index + 1) pages
pages_uninitialised modules places number index m section pages part empty h = record {
  program = section_passed modules places number index 0 (put_all pages.program) (none_uninitialised modules places number index 0 m section part empty) h.program;
  store = section_passed modules places number index 1 (put_all pages.store) (none_uninitialised modules places number index 1 m section part empty) h.store;
}

-- words were loaded from the base of a section on
pub record AreLoaded (modules : List Contents) (places : List Place) (number index base : ℕ) (words : List ℕ) (m : Contents) (old new : finite.FinMap nat_cmp ℕ) : Type 0 where
  pub base_is : base ≡ section_base modules places number m index
  pub words_are : (address : ℕ) → finite.get new address ≡ loaded base (length words) (linked_at modules places number m index words) (finite.get old address) address

page_loaded : (modules : List Contents) (places : List Place) (number index page base : ℕ) (words : List ℕ) (m : Contents) (section : SectionData) (old new : finite.FinMap nat_cmp ℕ) → IsPart modules number index m section → HasOnePart modules places → page ≡ section_page places m index
    → section.body ≡ Initialised words → AreLoaded modules places number index base words m old new → HasWordsBefore modules places number index page old → HasWordsBefore modules places number (index + 1) page new
page_loaded modules places number index page base words m section old new part one on is loads before =
    let begins : base ≡ part_base modules places number section.name = loads.base_is ∙ part_begins modules places number index m section part.section_is in
    let body : words ≡ body_words section.body = sym (ap body_words is) in
    section_loaded modules places number index page m section old new (record { part = part; page_is = on ∙ part_page places index m section part.section_is; one = one }) before
    (λ address. loads.words_are address ∙ (λ i. loaded (begins i) (length (body i)) (linked_at modules places number m index (body i)) (finite.get old address) address))

page_kept : (modules : List Contents) (places : List Place) (number index page other : ℕ) (m : Contents) (section : SectionData) (words : finite.FinMap nat_cmp ℕ) → IsPart modules number index m section → other ≡ section_page places m index → (page ≡ other → ⊥)
    → HasWordsBefore modules places number index page words → HasWordsBefore modules places number (index + 1) page words
page_kept modules places number index page other m section words part on differ before =
    section_passed modules places number index page words
    (none_elsewhere modules places number index page m section part (λ e. differ (e ∙ sym (on ∙ part_page places index m section part.section_is)))) before

pub program_loaded : (modules : List Contents) (places : List Place) (number index base : ℕ) (words : List ℕ) (m : Contents) (section : SectionData) (old new : PageLists) → IsPart modules number index m section → HasOnePart modules places → 0 ≡ section_page places m index
    → section.body ≡ Initialised words → AreLoaded modules places number index base words m (put_all old.program) (put_all new.program) → new.store ≡ old.store → HavePagesBefore modules places number index old → HavePagesBefore modules places number (index + 1) new
program_loaded modules places number index base words m section old new part one on is loads kept h = record {
  program = page_loaded modules places number index 0 base words m section (put_all old.program) (put_all new.program) part one on is loads h.program;
  store = subst (HasWordsBefore modules places number (index + 1) 1) (ap put_all (sym kept)) (page_kept modules places number index 1 0 m section (put_all old.store) part on (λ e. omega arith) h.store);
}

pub store_loaded : (modules : List Contents) (places : List Place) (number index base : ℕ) (words : List ℕ) (m : Contents) (section : SectionData) (old new : PageLists) → IsPart modules number index m section → HasOnePart modules places → 1 ≡ section_page places m index
    → section.body ≡ Initialised words → AreLoaded modules places number index base words m (put_all old.store) (put_all new.store) → new.program ≡ old.program → HavePagesBefore modules places number index old → HavePagesBefore modules places number (index + 1) new
store_loaded modules places number index base words m section old new part one on is loads kept h = record {
  program = subst (HasWordsBefore modules places number (index + 1) 0) (ap put_all (sym kept)) (page_kept modules places number index 0 1 m section (put_all old.program) part on (λ e. omega arith) h.program);
  store = page_loaded modules places number index 1 base words m section (put_all old.store) (put_all new.store) part one on is loads h.store;
}

pub pages_of_module : (modules : List Contents) (places : List Place) (number index : ℕ) (m : Contents) (pages : PageLists) → slice_get modules number ≡ Some m → length m.sections ≤ index
    → HavePagesBefore modules places number index pages → HavePagesBefore modules places (number + 1) 0 pages
pages_of_module modules places number index m pages is le h = record {
  program = module_loaded modules places number index 0 m (put_all pages.program) is le h.program;
  store = module_loaded modules places number index 1 m (put_all pages.store) is le h.store;
}

pub no_pages : (modules : List Contents) (places : List Place) (pages : PageLists) → pages.program ≡ [] → pages.store ≡ [] → HavePagesBefore modules places 0 0 pages
no_pages modules places pages none none_2 = record {
  program = nothing_loaded modules places 0 (put_all pages.program) (λ address. ap (λ (m : finite.FinMap nat_cmp ℕ). finite.get m address) (ap put_all none) ∙ get-empty nat_cmp address);
  store = nothing_loaded modules places 1 (put_all pages.store) (λ address. ap (λ (m : finite.FinMap nat_cmp ℕ). finite.get m address) (ap put_all none_2) ∙ get-empty nat_cmp address);
}

-- ---- answers of calls

pub on_ok : {A E : Type 0} (P : ℕ → Type 0) (Q : Type 0) (r : Result A E) → ((a : ℕ) → OnOk r (P a)) → (((a : ℕ) → P a) → Q) → OnOk r Q
on_ok P Q (Ok x) h f = f h
on_ok P Q (Err e) h f = tt

pub copied_mapped : {A : Type 0} (o : Option (Bor A)) → option_map (λ r. r.now) o ≡ option_copied o
copied_mapped None = refl
copied_mapped (Some x) = refl
