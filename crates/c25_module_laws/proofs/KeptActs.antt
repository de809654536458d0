-- Each line keeps what always holds.
use Rattle.std.proofs.Common.{◌≡◌, ℕ, zero, suc, ◌+◌, ◌≤◌, ◌<◌, Bool, true, false, cond, not, ◌&&◌, ◌||◌, eqb, ltb, leb, List, [], ◌∷◌, ◌++◌, length, Option, Some, None, inl, inr, IfSome, is_some, ◌-◌, ◌^◌, Ok, pos, refl, sym, ap, ◌∙◌, subst, arith}
use Rattle.std.specs.List.{AllByRecursion, list_any, slice_get, position, find, prefix_len}
use Rattle.std.specs.Str.{bytes_eq}
use Rattle.std.proofs.lemmas.Option.{slice_get_within}
use Rattle.std.proofs.lemmas.List.{map-append, length-append, length-map}
use Rattle.std.proofs.lemmas.Bool.{and_from, and_parts, ltb-true, ltb-false, leb-true, leb-false, cond_both, le-ltb, lt-ltb, not_from_false, not-true}
use Rattle.c25_meaning_objects.specs.Module.{each_fits}
use Rattle.c25_meaning_assembly.specs.Sections as meaning
use Rattle.c25_meaning_assembly.specs.Sections.{Definitions, Section, Content, Operands, Words, Zeros, Exported, PendingItem, Progress, changed, longer, with_mark, is_in, are_distinct, once, all_once, stands, define, label, here, table, place_in, same_kind, of_kind, section_opened, grow, lay, loaded_here, with_item, size_at, size_by, empty_section, is_called, count_in, reserve, register_names, value_of_number, define_pair}
use Rattle.c25_meaning_language.specs.Statement.{valued}
use Rattle.c25_meaning_language.specs.Tree.{Tree}
use Rattle.c25_meaning_language.specs.Value.{named_by, predefined, defined, upper}
use Rattle.c25_meaning_language.specs.declared.statement.FaultKind.TheVariants as fault
use Rattle.c25_meaning_language.specs.declared.value.Base.{Base}
use Rattle.c25_meaning_language.specs.declared.value.Base.TheVariants.{Absolute, Section as InSection, Loaded, External}
use Rattle.c25_meaning_language.specs.declared.value.Value.{Value}
use Rattle.c25_module_laws.proofs.Valued.{IsGoodValue, good_valued, natural_fits}
use Rattle.c25_meaning_assembly.proofs.Distinct.{distinct_push, turned}
use Rattle.c25_module_laws.proofs.Kept.{AllKept, AreNames, Head, IsInside, IsKept, first_names, get_last, get_push, grown, head_fits, head_of, heads, is_code, begins, has_head, marks_in, marks_part, mark_there, part_there, pushed, total, weaker}
use Rattle.c25_module_laws.proofs.KeptFiles.{told_push}
use Rattle.c25_module_laws.proofs.ResultSteps.{refused}
use Rattle.c25_module_laws.proofs.Spoken.{IsSection, IsSymbol}

-- ---- sections that are there

pub code_within : (sections : List Section) (k : ℕ) → is_code (heads sections) k ≡ true → k < length sections
code_within [] k h = absurd (cc)
code_within (s ∷ ss) zero h = omega arith
code_within (s ∷ ss) (suc k) h = let l = code_within ss k h in omega (arith, l)

pub code_section : (sections : List Section) (k : ℕ) → is_code (heads sections) k ≡ true → (s : Section) × (slice_get sections k ≡ Some s) × (s.initialised ≡ true)
code_section [] k h = absurd (cc)
code_section (s ∷ ss) zero h = (s, refl, h)
code_section (s ∷ ss) (suc k) h = code_section ss k h

pub code_is : (sections : List Section) (k : ℕ) (s : Section) → slice_get sections k ≡ Some s → is_code (heads sections) k ≡ s.initialised
code_is [] k s h = absurd (cc)
code_is (t ∷ ts) zero s h = let q : t ≡ s = cc in ap (λ (x : Section). x.initialised) q
code_is (t ∷ ts) (suc k) s h = code_is ts k s h

code_before : (hs more : List Head) (k : ℕ) → is_code hs k ≡ true → is_code (hs ++ more) k ≡ true
code_before [] more k h = absurd (cc)
code_before (x ∷ xs) more zero h = h
code_before (x ∷ xs) more (suc k) h = code_before xs more k h

begins_there : (hs : List Head) (h : Head) (k : ℕ) → is_code hs k ≡ true → begins hs h ≡ true
begins_there [] h k c = absurd (cc)
begins_there (x ∷ xs) h k c = refl

-- ---- names

named : (names : Definitions) (d : List ℕ) → is_some (defined names d) ≡ is_in (first_names names) d
named [] d = refl
named (n ∷ ns) d = on (bytes_eq d n.0) (named ns d)
  where
    on : (b : Bool) → is_some (defined ns d) ≡ is_in (first_names ns) d → is_some (cond b (Some n.1) (defined ns d)) ≡ (b || is_in (first_names ns) d)
    on true h = refl
    on false h = h

pub not_named : (names : Definitions) (name : List ℕ) → stands names name ≡ false → is_in (first_names names) name ≡ false
not_named names name h = on (predefined name) h
  where
    on : (p : Option ℕ) → is_some (named_by p (defined names name)) ≡ false → is_in (first_names names) name ≡ false
    on (Some n) h = absurd (cc)
    on None h = sym (named names name) ∙ h

names_push : (n : ℕ) (names : Definitions) (name : List ℕ) (v : Value) → AreNames n names → stands names name ≡ false → IsSymbol name → IsGoodValue (IsInside n) v → AreNames n (names ++ (name, v) ∷ [])
names_push n names name v h new symbol inside = record {
  symbols = pushed (λ (e : List ℕ × Value). IsSymbol e.0 × IsGoodValue (IsInside n) e.1) names (name, v) h.symbols (symbol, inside);
  distinct = subst (λ (ns : List (List ℕ)). are_distinct ns ≡ true) (sym (map-append (λ (e : List ℕ × Value). e.0) names ((name, v) ∷ []))) (distinct_push (first_names names) name h.distinct (not_named names name new));
}

pub define_kept : (name : List ℕ) (v : Value) (p q : Progress) → IsSymbol name → IsGoodValue (IsInside (length p.sections)) v → AllKept p → define name v p ≡ Ok q → AllKept q × (q.sections ≡ p.sections)
unfolding define
define_kept name v p q symbol inside kept e =
    let made : Progress = record p { names = p.names ++ (name, v) ∷ [] } in
    let a = refused (stands p.names name) fault.Defined made q e in
    subst (λ (x : Progress). AllKept x × (x.sections ≡ p.sections)) a.1 (
      record {
        sections = kept.sections;
        names = names_push (length p.sections) p.names name v kept.names a.0 symbol inside;
        declared = kept.declared;
        items = kept.items;
        told = kept.told;
      },
      refl,
    )

size_small : (p : Progress) (i : ℕ) → AllKept p → size_at p.sections i ≤ 65536
size_small p i kept = on (slice_get p.sections i) refl
  where
    on : (o : Option Section) → slice_get p.sections i ≡ o → size_by o ≤ 65536
    on None is = omega arith
    on (Some s) is = (kept.items.each i s is).small

-- a place in a section that is there
pub place_good : (p : Progress) (i n : ℕ) → i < n → AllKept p → IsGoodValue (IsInside n) (place_in p.sections i)
place_good p i n there kept = let small = size_small p i kept in (there, natural_fits (size_at p.sections i) (omega (arith, small)))

pub here_good : (p : Progress) → AllKept p → IsGoodValue (IsInside (length p.sections)) (here p)
here_good p kept = place_good p p.current (length p.sections) (code_within p.sections p.current kept.sections.code) kept

pub loaded_good : (p : Progress) → AllKept p → IsGoodValue (IsInside (length p.sections)) (loaded_here p)
loaded_good p kept = here_good p kept

pub label_kept : (l : Option (List ℕ)) (p q : Progress) → IfSome l IsSymbol → AllKept p → label l p ≡ Ok q → AllKept q × (q.sections ≡ p.sections)
label_kept None p q symbol kept e = let same : p ≡ q = cc in subst (λ (x : Progress). AllKept x × (x.sections ≡ p.sections)) same (kept, refl)
label_kept (Some name) p q symbol kept e = define_kept name (here p) p q symbol (here_good p kept) kept e

-- ---- values

known : (n : ℕ) (names : Definitions) (d : List ℕ) (w : Value) → AllByRecursion (λ e. IsSymbol e.0 × IsGoodValue (IsInside n) e.1) names → defined names d ≡ Some w → IsGoodValue (IsInside n) w
known n [] d w h e = absurd (cc)
known n (x ∷ xs) d w h e = on (bytes_eq d x.0) (known n xs d w h.1) e
  where
    on : (b : Bool) → (defined xs d ≡ Some w → IsGoodValue (IsInside n) w) → cond b (Some x.1) (defined xs d) ≡ Some w → IsGoodValue (IsInside n) w
    on true rest e = let q : x.1 ≡ w = cc in subst (λ (v : Value). IsGoodValue (IsInside n) v) q h.0.1
    on false rest e = rest e

-- the number of a predefined name is small
abbrev pub IsSmall : Option ℕ → Type 0
IsSmall o = IfSome o (λ k. k < 2 ^ 31)

digit_small : (x : Bool) (high k d : ℕ) (o : Option ℕ) → high < 2 ^ 31 → IsSmall o → IsSmall (cond (x && leb d high) (Some (d - k)) o)
digit_small x high k d o few h = cond_both (x && leb d high) (Some (d - k)) o IsSmall (λ e. let l = leb-true d high (and_parts x (leb d high) e).1 in omega (arith, l, few)) (λ _. h)

pub predefined_small : (name : List ℕ) → IsSmall (predefined name)
predefined_small [] = tt
predefined_small (a ∷ []) = tt
predefined_small (a ∷ b ∷ []) = tt
predefined_small (a ∷ b ∷ d ∷ []) =
    digit_small (eqb (upper a) 65 && eqb (upper b) 82 && leb 48 d) 55 48 d (cond (eqb (upper a) 80 && eqb (upper b) 65 && leb 48 d && leb d 57) (Some (d - 48)) None) (omega arith)
    (digit_small (eqb (upper a) 80 && eqb (upper b) 65 && leb 48 d) 57 48 d None (omega arith) tt)
predefined_small (a ∷ b ∷ c ∷ d ∷ []) = digit_small (eqb (upper a) 80 && eqb (upper b) 65 && eqb c 49 && leb 48 d) 53 38 d None (omega arith) tt
predefined_small (a ∷ b ∷ c ∷ d ∷ e ∷ rest) = tt

value_known : (n : ℕ) (names : Definitions) (d : List ℕ) (w : Value) (p : Option ℕ) → IfSome p (λ k. k < 2 ^ 31) → AllByRecursion (λ e. IsSymbol e.0 × IsGoodValue (IsInside n) e.1) names
    → named_by p (defined names d) ≡ Some w → IsGoodValue (IsInside n) w
value_known n names d w (Some k) small h e =
    let plain : Value = record { base = Absolute; offset = pos k } in
    let q : plain ≡ w = cc in
    subst (λ (v : Value). IsGoodValue (IsInside n) v) q (tt, natural_fits k small)
value_known n names d w None small h e = known n names d w h e

pub valued_good : (p : Progress) (t : Tree) (v : Value) → AllKept p → valued (table p) t ≡ Ok v → IsGoodValue (IsInside (length p.sections)) v
valued_good p t v kept e =
    good_valued (IsInside (length p.sections)) tt (table p) t v (λ d w h. value_known (length p.sections) p.names d w (predefined d) (predefined_small d) kept.names.symbols h)
    (here_good p kept) e

inside_more : (n m : ℕ) (b : Base) → n ≤ m → IsInside n b → IsInside m b
inside_more n m Absolute l h = tt
inside_more n m (InSection k) l h = omega (arith, l, h)
inside_more n m (Loaded k) l h = omega (arith, l, h)
inside_more n m (External k) l h = absurd h

-- ---- sections that are opened

none_found : {X : Type 0} (p : X → Bool) (xs : List X) → ltb (prefix_len (λ x. not (p x)) xs) (length xs) ≡ false → list_any p xs ≡ false
none_found p [] h = refl
none_found p (x ∷ xs) h = on (p x) (none_found p xs) h
  where
    on : (b : Bool) → (ltb (prefix_len (λ x. not (p x)) xs) (length xs) ≡ false → list_any p xs ≡ false)
        → ltb (cond (not b) (1 + prefix_len (λ x. not (p x)) xs) 0) (length (x ∷ xs)) ≡ false → (b || list_any p xs) ≡ false
    on true go h = absurd (let l = ltb-false 0 (length (x ∷ xs)) h in omega (arith, l))
    on false go h = let l = ltb-false (1 + prefix_len (λ x. not (p x)) xs) (length (x ∷ xs)) h in go (le-ltb (prefix_len (λ x. not (p x)) xs) (length xs) (omega (arith, l)))

no_position : {X : Type 0} (p : X → Bool) (xs : List X) → position p xs ≡ None → list_any p xs ≡ false
no_position p xs h = on (ltb (prefix_len (λ x. not (p x)) xs) (length xs)) refl h
  where
    on : (b : Bool) → ltb (prefix_len (λ x. not (p x)) xs) (length xs) ≡ b → cond b (Some (prefix_len (λ x. not (p x)) xs)) None ≡ None → list_any p xs ≡ false
    on true is h = absurd (cc)
    on false is h = none_found p xs is

found_at : {X : Type 0} (p : X → Bool) (xs : List X) → prefix_len (λ x. not (p x)) xs < length xs → (s : X) × (slice_get xs (prefix_len (λ x. not (p x)) xs) ≡ Some s) × (find p xs ≡ Some s)
found_at {X = X} p [] h = absurd (omega (arith, h))
found_at {X = X} p (x ∷ xs) h = on (p x) (found_at p xs) h
  where
    on : (b : Bool) → (prefix_len (λ x. not (p x)) xs < length xs → (s : X) × (slice_get xs (prefix_len (λ x. not (p x)) xs) ≡ Some s) × (find p xs ≡ Some s))
        → cond (not b) (1 + prefix_len (λ x. not (p x)) xs) 0 < length (x ∷ xs)
        → (s : X) × (slice_get (x ∷ xs) (cond (not b) (1 + prefix_len (λ x. not (p x)) xs) 0) ≡ Some s) × (cond b (Some x) (find p xs) ≡ Some s)
    on true go h = (x, refl, refl)
    on false go h =
        let a = go (omega (arith, h)) in
        let n : 1 + prefix_len (λ x. not (p x)) xs ≡ suc (prefix_len (λ x. not (p x)) xs) = omega arith in
        (a.0, rw n a.1, a.2)

position_found : {X : Type 0} (p : X → Bool) (xs : List X) (i : ℕ) → position p xs ≡ Some i → (s : X) × (slice_get xs i ≡ Some s) × (find p xs ≡ Some s)
position_found {X = X} p xs i h = on (ltb (prefix_len (λ x. not (p x)) xs) (length xs)) refl h
  where
    on : (b : Bool) → ltb (prefix_len (λ x. not (p x)) xs) (length xs) ≡ b → cond b (Some (prefix_len (λ x. not (p x)) xs)) None ≡ Some i
        → (s : X) × (slice_get xs i ≡ Some s) × (find p xs ≡ Some s)
    on true is h =
        let q : prefix_len (λ x. not (p x)) xs ≡ i = cc in
        subst (λ (n : ℕ). (s : X) × (slice_get xs n ≡ Some s) × (find p xs ≡ Some s)) q (found_at p xs (ltb-true (prefix_len (λ x. not (p x)) xs) (length xs) is))
    on false is h = absurd (cc)

no_head : (name : List ℕ) (sections : List Section) → list_any (is_called name) sections ≡ false → has_head (heads sections) name ≡ false
no_head name [] h = refl
no_head name (s ∷ ss) h = on (bytes_eq name s.name) (turned s.name name) (no_head name ss) h
  where
    on : (b : Bool) → bytes_eq s.name name ≡ b → (list_any (is_called name) ss ≡ false → has_head (heads ss) name ≡ false) → (b || list_any (is_called name) ss) ≡ false
        → (bytes_eq s.name name || has_head (heads ss) name) ≡ false
    on true is go h = absurd (cc)
    on false is go h = ap (λ b. b || has_head (heads ss) name) is ∙ go h

total_none : (sections : List Section) (items : List PendingItem) → AllByRecursion (λ i. is_code (heads sections) i.section ≡ true) items → total (length sections) items ≡ 0
total_none sections [] h = refl
total_none sections (i ∷ is) h =
    let l = code_within sections i.section h.0 in
    let a = part_there (length sections) i (λ e. absurd (omega (arith, l, e))) in
    let b = total_none sections is h.1 in
    omega (arith, a, b)

marks_none : (sections : List Section) (items : List PendingItem) → AllByRecursion (λ i. is_code (heads sections) i.section ≡ true) items → marks_in (length sections) items ≡ []
marks_none sections [] h = refl
marks_none sections (i ∷ is) h =
    let l = code_within sections i.section h.0 in
    let a : marks_part (length sections) i ≡ [] = mark_there (length sections) i (λ e. absurd (omega (arith, l, e))) in
    ap (λ ms. ms ++ marks_in (length sections) is) a ∙ marks_none sections is h.1

-- one section more, which is new
push_kept : (name : List ℕ) (initialised : Bool) (p : Progress) → IsSection name → list_any (is_called name) p.sections ≡ false → length p.sections < 255 → AllKept p
    → AllKept (record p { sections = p.sections ++ empty_section name initialised ∷ [] })
push_kept name initialised p section new few kept =
    let s = empty_section name initialised in
    let more : heads (p.sections ++ s ∷ []) ≡ heads p.sections ++ head_of s ∷ [] = map-append head_of p.sections (s ∷ []) in
    let size : length (p.sections ++ s ∷ []) ≡ length p.sections + 1 = length-append p.sections (s ∷ []) in
    let count : length (heads p.sections) ≡ length p.sections = length-map p.sections head_of in
    let fits : head_fits (heads p.sections) (name, initialised) ≡ true =
    and_from _ _ (and_from _ _ (and_from _ _ section (begins_there (heads p.sections) (name, initialised) p.current kept.sections.code)) (not_from_false (has_head (heads p.sections) name) (no_head name p.sections new)))
    (lt-ltb (length (heads p.sections)) 255 (omega (arith, few, count))) in
    record {
      sections = record {
        fit = subst (λ (hs : List Head). each_fits head_fits [] hs ≡ true) (sym more) (grown head_fits [] (heads p.sections) (head_of s) kept.sections.fit fits);
        code = subst (λ (hs : List Head). is_code hs p.current ≡ true) (sym more) (code_before (heads p.sections) (head_of s ∷ []) p.current kept.sections.code);
      };
      names = record {
        symbols = weaker _ _ (λ (e : List ℕ × Value) h. (h.0, (inside_more (length p.sections) (length (p.sections ++ s ∷ [])) e.1.base (omega (arith, size)) h.1.0, h.1.1))) p.names kept.names.symbols;
        distinct = kept.names.distinct;
      };
      declared = kept.declared;
      items = record {
        each = λ k t at. elim (get_push p.sections k s t at) [
          | inl e ↦ subst (λ (x : Section). IsKept p.items p.items k x) e.1 (subst (λ (n : ℕ). IsKept p.items p.items n s) (sym e.0) (record {
            small = omega arith;
            laid = λ _. sym (total_none p.sections p.items kept.items.codes);
            marks = sym (marks_none p.sections p.items kept.items.codes);
            words = refl;
            relocations = refl;
          }))
          | inr e ↦ kept.items.each k t e
        ];
        laid = kept.items.laid;
        codes = weaker _ _ (λ (i : PendingItem) h. subst (λ (hs : List Head). is_code hs i.section ≡ true) (sym more) (code_before (heads p.sections) (head_of s ∷ []) i.section h)) p.items kept.items.codes;
        good = kept.items.good;
      };
      told = told_push name initialised p.files p.sections kept.told;
    }

pub record IsOpened (o : ℕ × Progress) (initialised : Bool) : Type 0 where
  pub kept : AllKept o.1
  pub code : is_code (heads o.1.sections) o.0 ≡ initialised
  pub there : o.0 < length o.1.sections

kind_is : (initialised : Bool) (s : Section) → same_kind initialised (Some s) ≡ true → s.initialised ≡ initialised
kind_is true s h = h
kind_is false s h = not-true s.initialised h

pub opened_kept : (name : List ℕ) (initialised : Bool) (p : Progress) (o : ℕ × Progress) → IsSection name → same_kind initialised (find (is_called name) p.sections) ≡ true → AllKept p
    → section_opened name initialised p ≡ Ok o → IsOpened o initialised
unfolding section_opened
opened_kept name initialised p o section kind kept e = on (position (is_called name) p.sections) refl e
  where
    on : (i : Option ℕ) → position (is_called name) p.sections ≡ i → meaning.section_opened_by i name initialised p ≡ Ok o → IsOpened o initialised
    on (Some i) is e =
        let found = position_found (is_called name) p.sections i is in
        let same : (i, p) ≡ o = cc in
        let kinds : same_kind initialised (Some found.0) ≡ true = subst (λ (x : Option Section). same_kind initialised x ≡ true) found.2 kind in
        subst (λ (x : ℕ × Progress). IsOpened x initialised) same (record {
          kept = kept;
          code = code_is p.sections i found.0 found.1 ∙ kind_is initialised found.0 kinds;
          there = slice_get_within p.sections i found.0 found.1;
        })
    on None is e =
        let s = empty_section name initialised in
        let made : ℕ × Progress = (length p.sections, record p { sections = p.sections ++ s ∷ [] }) in
        let a = refused (leb 255 (length p.sections)) fault.TooLarge made o e in
        let size : length (p.sections ++ s ∷ []) ≡ length p.sections + 1 = length-append p.sections (s ∷ []) in
        subst (λ (x : ℕ × Progress). IsOpened x initialised) a.1 (record {
          kept = push_kept name initialised p section (no_position (is_called name) p.sections is) (leb-false 255 (length p.sections) a.0) kept;
          code = code_is (p.sections ++ s ∷ []) (length p.sections) s (get_last p.sections s);
          there = omega (arith, size);
        })
