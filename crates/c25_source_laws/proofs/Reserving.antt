-- What lines have reserved stays where it is, and what they reserve comes after it.
use Rattle.std.proofs.Common.{◌≡◌, ℕ, zero, suc, ◌+◌, ◌≤◌, ◌<◌, Bool, true, false, cond, List, [], ◌∷◌, ◌++◌, length, set, Option, Some, None, inl, inr, ◌⊎◌, refl, sym, ap, ◌∙◌, subst, arith}
use Rattle.std.specs.List.{Contains, slice_get}
use Rattle.std.specs.Str.{bytes_eq}
use Rattle.std.proofs.lemmas.List.{length-append}
use Rattle.std.proofs.lemmas.List.Elements.{Contains-append_left, Contains-append_right}
use Rattle.std.proofs.lemmas.Slice.Eq.{bytes_eq-Decides}
use Rattle.c25_meaning_assembly.specs.Sections.{Definitions, Section, changed, changed_by, empty_section, place}
use Rattle.c25_meaning_language.specs.declared.value.Value.{Value}
use Rattle.c25_meaning_objects.specs.declared.object.Block.{Block}
use Rattle.c25_module_laws.proofs.Kept.{Each, each_changed, get_before, get_push, get_set, length_changed}
use Rattle.c25_source_laws.specs.Reservations.{Reservation, reserved_part, reserved_words}

-- ---- counts

pub words_push : (section : List ℕ) (rs : List Reservation) (r : Reservation) → reserved_words section (rs ++ r ∷ []) ≡ reserved_words section rs + reserved_part section r
words_push section [] r = omega arith
words_push section (x ∷ xs) r = let h = words_push section xs r in omega (arith, h)

pub words_more : (section : List ℕ) (rs others : List Reservation) → reserved_words section (rs ++ others) ≡ reserved_words section rs + reserved_words section others
words_more section [] others = omega arith
words_more section (x ∷ xs) others = let h = words_more section xs others in omega (arith, h)

pub part_same : (section : List ℕ) (r : Reservation) → r.section ≡ section → reserved_part section r ≡ r.count
part_same section r e = ap (λ b. cond b r.count 0) ((bytes_eq-Decides r.section section).1 e)

pub part_other : (section : List ℕ) (r : Reservation) → (r.section ≡ section → ⊥) → reserved_part section r ≡ 0
part_other section r other = on (bytes_eq r.section section) refl
  where
    on : (b : Bool) → bytes_eq r.section section ≡ b → cond b r.count 0 ≡ 0
    on true e = absurd (other ((bytes_eq-Decides r.section section).0 e))
    on false e = refl

pub last_in : {X : Type 0} (xs : List X) (x : X) → Contains (xs ++ x ∷ []) x
last_in xs x = Contains-append_right xs (x ∷ []) x (0, omega arith, refl)

-- ---- what holds of the lines so far

-- a reservation whose words begin so many words behind the section's first
pub record IsSet (sections : List Section) (names : Definitions) (at : ℕ) (r : Reservation) : Type 0 where
  pub number : ℕ
  pub section : Section
  pub section_is : slice_get sections number ≡ Some section
  pub name_is : section.name ≡ r.section
  pub bare : section.initialised ≡ false
  pub value_is : Contains names (r.name, place number at)
  pub block_is : r.paged ≡ true → Contains section.blocks (record { section = number; offset = at; size = r.count })
  pub block_small : r.paged ≡ true → (1 ≤ r.count) × (r.count ≤ 128)

-- reservations, each after those before it in its section
abbrev pub AreSet : List Section → Definitions → (List ℕ → ℕ) → List Reservation → Type 0
AreSet sections names used [] = Unit {0}
AreSet sections names used (r ∷ rs) = IsSet sections names (used r.section) r × AreSet sections names (λ n. used n + reserved_part n r) rs

-- an uninitialised section is as long as its reservations together
abbrev pub IsFilledBy : List Reservation → ℕ → Section → Type 0
IsFilledBy rs k s = s.initialised ≡ false → s.size ≡ reserved_words s.name rs

pub record Reserved (rs : List Reservation) (sections : List Section) (current : ℕ) (names : Definitions) : Type 0 where
  pub there : current < length sections
  pub code : (s : Section) → slice_get sections current ≡ Some s → s.initialised ≡ true
  pub distinct : (i k : ℕ) (s t : Section) → slice_get sections i ≡ Some s → slice_get sections k ≡ Some t → s.name ≡ t.name → i ≡ k
  pub sizes : Each (IsFilledBy rs) sections
  pub set : AreSet sections names (λ n. 0) rs

-- ---- what changes nothing for reservations

-- a section later: its name and kind are the same, and its blocks are still there
pub record IsLater (s t : Section) : Type 0 where
  pub name : t.name ≡ s.name
  pub kind : t.initialised ≡ s.initialised
  pub blocks : (b : Block) → Contains s.blocks b → Contains t.blocks b

-- sections and names later
pub record AreLater (old new : List Section) (names more : Definitions) : Type 0 where
  pub sections : (k : ℕ) (s : Section) → slice_get old k ≡ Some s → (t : Section) × (slice_get new k ≡ Some t) × IsLater s t
  pub defined : (x : List ℕ × Value) → Contains names x → Contains more x

pub one_later : (old new : List Section) (names more : Definitions) (at : ℕ) (r : Reservation) → AreLater old new names more → IsSet old names at r → IsSet new more at r
one_later old new names more at r later h =
    let t = later.sections h.number h.section h.section_is in
    record {
      number = h.number;
      section = t.0;
      section_is = t.1;
      name_is = t.2.name ∙ h.name_is;
      bare = t.2.kind ∙ h.bare;
      value_is = later.defined (r.name, place h.number at) h.value_is;
      block_is = λ paged. t.2.blocks (record { section = h.number; offset = at; size = r.count }) (h.block_is paged);
      block_small = h.block_small;
    }

pub all_later : (old new : List Section) (names more : Definitions) (used : List ℕ → ℕ) (rs : List Reservation) → AreLater old new names more → AreSet old names used rs → AreSet new more used rs
all_later old new names more used [] later h = tt
all_later old new names more used (r ∷ rs) later h =
    (one_later old new names more (used r.section) r later h.0, all_later old new names more (λ n. used n + reserved_part n r) rs later h.1)

-- one reservation more, after the others
pub set_push : (sections : List Section) (names : Definitions) (used : List ℕ → ℕ) (rs : List Reservation) (r : Reservation) → AreSet sections names used rs → IsSet sections names (used r.section + reserved_words r.section rs) r → AreSet sections names used (rs ++ r ∷ [])
set_push sections names used [] r h is = let z : used r.section + 0 ≡ used r.section = omega arith in (subst (λ (n : ℕ). IsSet sections names n r) z is, tt)
set_push sections names used (x ∷ xs) r h is =
    let e : used r.section + (reserved_part r.section x + reserved_words r.section xs) ≡ used r.section + reserved_part r.section x + reserved_words r.section xs = omega arith in
    (h.0, set_push sections names (λ n. used n + reserved_part n x) xs r h.1 (subst (λ (n : ℕ). IsSet sections names n r) e is))

-- the reservation behind these
pub set_behind : (sections : List Section) (names : Definitions) (used : List ℕ → ℕ) (before after : List Reservation) (r : Reservation) → AreSet sections names used (before ++ r ∷ after) → IsSet sections names (used r.section + reserved_words r.section before) r
set_behind sections names used [] after r h = let z : used r.section ≡ used r.section + 0 = omega arith in subst (λ (n : ℕ). IsSet sections names n r) z h.0
set_behind sections names used (x ∷ xs) after r h =
    let e : used r.section + reserved_part r.section x + reserved_words r.section xs ≡ used r.section + (reserved_part r.section x + reserved_words r.section xs) = omega arith in
    subst (λ (n : ℕ). IsSet sections names n r) e (set_behind sections names (λ n. used n + reserved_part n x) xs after r h.1)

-- ---- names

pub names_later : (sections : List Section) (names more : Definitions) → AreLater sections sections names (names ++ more)
names_later sections names more = record {
  sections = λ k s at. (s, at, record { name = refl; kind = refl; blocks = λ b h. h });
  defined = λ x h. Contains-append_left names more x h;
}

pub reserved_names : (rs : List Reservation) (sections : List Section) (c : ℕ) (names : Definitions) (x : List ℕ × Value) → Reserved rs sections c names → Reserved rs sections c (names ++ x ∷ [])
reserved_names rs sections c names x h = record {
  there = h.there;
  code = h.code;
  distinct = h.distinct;
  sizes = h.sizes;
  set = all_later sections sections names (names ++ x ∷ []) (λ n. 0) rs (names_later sections names (x ∷ [])) h.set;
}

-- ---- sections that change

set_there : {X : Type 0} (xs : List X) (i : ℕ) (y x : X) → slice_get xs i ≡ Some x → slice_get (set xs i y) i ≡ Some y
set_there [] i y x h = absurd (cc)
set_there (z ∷ zs) zero y x h = refl
set_there (z ∷ zs) (suc i) y x h = set_there zs i y x h

set_apart : {X : Type 0} (xs : List X) (i k : ℕ) (y : X) → (k ≡ i → ⊥) → slice_get (set xs i y) k ≡ slice_get xs k
set_apart [] i k y other = refl
set_apart (z ∷ zs) zero zero y other = absurd (other refl)
set_apart (z ∷ zs) zero (suc k) y other = refl
set_apart (z ∷ zs) (suc i) zero y other = refl
set_apart (z ∷ zs) (suc i) (suc k) y other = set_apart zs i k y (λ e. other (ap suc e))

pub changed_is : (f : Section → Section) (sections : List Section) (i : ℕ) (s : Section) → slice_get sections i ≡ Some s → changed f sections i ≡ set sections i (f s)
changed_is f sections i s at = ap (changed_by f sections i) at

pub changed_here : (f : Section → Section) (sections : List Section) (i : ℕ) (s : Section) → slice_get sections i ≡ Some s → slice_get (changed f sections i) i ≡ Some (f s)
changed_here f sections i s at = ap (λ (xs : List Section). slice_get xs i) (changed_is f sections i s at) ∙ set_there sections i (f s) s at

pub changed_there : (f : Section → Section) (sections : List Section) (i k : ℕ) → (k ≡ i → ⊥) → slice_get (changed f sections i) k ≡ slice_get sections k
changed_there f sections i k other = on (slice_get sections i)
  where
    on : (o : Option Section) → slice_get (changed_by f sections i o) k ≡ slice_get sections k
    on None = refl
    on (Some t) = set_apart sections i k (f t) other

same_number : (k i : ℕ) → (k ≡ i) ⊎ (k ≡ i → ⊥)
same_number zero zero = inl refl
same_number zero (suc i) = inr (λ e. absurd (omega (arith, e)))
same_number (suc k) zero = inr (λ e. absurd (omega (arith, e)))
same_number (suc k) (suc i) = elim (same_number k i) [
  | inl e ↦ inl (ap suc e)
  | inr e ↦ inr (λ q. e (omega (arith, q)))
]

pub changed_later : (f : Section → Section) (sections : List Section) (i : ℕ) (names : Definitions) → ((s : Section) → IsLater s (f s)) → AreLater sections (changed f sections i) names names
changed_later f sections i names same = record {
  sections = λ k s at. elim (same_number k i) [
    | inl e ↦
        let here : slice_get sections i ≡ Some s = subst (λ (n : ℕ). slice_get sections n ≡ Some s) e at in
        (f s, subst (λ (n : ℕ). slice_get (changed f sections i) n ≡ Some (f s)) (sym e) (changed_here f sections i s here), same s)
    | inr e ↦ (s, changed_there f sections i k e ∙ at, record { name = refl; kind = refl; blocks = λ b h. h })
  ];
  defined = λ x h. h;
}

-- where a section comes from
pub changed_from : (f : Section → Section) (sections : List Section) (i k : ℕ) (t : Section) → ((s : Section) → IsLater s (f s)) → slice_get (changed f sections i) k ≡ Some t
    → (s : Section) × (slice_get sections k ≡ Some s) × (t.name ≡ s.name) × (t.initialised ≡ s.initialised)
changed_from f sections i k t same at = on (slice_get sections i) refl at
  where
    on : (o : Option Section) → slice_get sections i ≡ o → slice_get (changed_by f sections i o) k ≡ Some t → (s : Section) × (slice_get sections k ≡ Some s) × (t.name ≡ s.name) × (t.initialised ≡ s.initialised)
    on None is at = (t, at, refl, refl)
    on (Some s) is at =
        elim (get_set sections i k (f s) t at) [
          | inl e ↦ (s, subst (λ (n : ℕ). slice_get sections n ≡ Some s) (sym e.0) is, ap (λ (x : Section). x.name) (sym e.1) ∙ (same s).name, ap (λ (x : Section). x.initialised) (sym e.1) ∙ (same s).kind)
          | inr e ↦ (t, e.1, refl, refl)
        ]

-- a change that makes no uninitialised section longer
pub reserved_changed : (f : Section → Section) (rs : List Reservation) (sections : List Section) (i c : ℕ) (names : Definitions) → ((s : Section) → IsLater s (f s))
    → ((s : Section) → slice_get sections i ≡ Some s → s.initialised ≡ false → (f s).size ≡ s.size) → Reserved rs sections c names → Reserved rs (changed f sections i) c names
reserved_changed f rs sections i c names same size h = record {
  there = let n = length_changed f sections i in let l = h.there in omega (arith, n, l);
  code = λ s at. let x = changed_from f sections i c s same at in x.3 ∙ h.code x.0 x.1;
  distinct = λ j k s t at_s at_t e.
      let x = changed_from f sections i j s same at_s in
      let y = changed_from f sections i k t same at_t in
      h.distinct j k x.0 y.0 x.1 y.1 (sym x.2 ∙ e ∙ y.2);
  sizes = each_changed (IsFilledBy rs) (IsFilledBy rs) f sections i h.sizes
      (λ (s : Section) at (k : IsFilledBy rs i s) bare.
      let was : s.initialised ≡ false = sym (same s).kind ∙ bare in
      size s at was ∙ k was ∙ ap (λ n. reserved_words n rs) (sym (same s).name))
      (λ k s other h. h);
  set = all_later sections (changed f sections i) names names (λ n. 0) rs (changed_later f sections i names same) h.set;
}

-- ---- a section that is new

-- no section has this name
abbrev pub IsNew : List ℕ → List Section → Type 0
IsNew name sections = (k : ℕ) (s : Section) → slice_get sections k ≡ Some s → s.name ≡ name → ⊥

none_reserved : (name : List ℕ) (sections : List Section) (names : Definitions) (used : List ℕ → ℕ) (rs : List Reservation) → IsNew name sections → AreSet sections names used rs → reserved_words name rs ≡ 0
none_reserved name sections names used [] new h = refl
none_reserved name sections names used (r ∷ rs) new h =
    let a = part_other name r (λ e. new (h.0).number (h.0).section (h.0).section_is ((h.0).name_is ∙ e)) in
    let b = none_reserved name sections names (λ n. used n + reserved_part n r) rs new h.1 in
    omega (arith, a, b)

pub push_later : (sections : List Section) (s : Section) (names : Definitions) → AreLater sections (sections ++ s ∷ []) names names
push_later sections s names = record {
  sections = λ k t at. (t, get_before sections (s ∷ []) k t at, record { name = refl; kind = refl; blocks = λ b h. h });
  defined = λ x h. h;
}

-- a new section, which is not the current one
pub reserved_push : (rs : List Reservation) (sections : List Section) (c : ℕ) (names : Definitions) (name : List ℕ) (initialised : Bool) → IsNew name sections
    → Reserved rs sections c names → Reserved rs (sections ++ empty_section name initialised ∷ []) c names
reserved_push rs sections c names name initialised new h =
    let fresh = empty_section name initialised in
    let there = h.there in
    record {
      there = let n : length (sections ++ fresh ∷ []) ≡ length sections + 1 = length-append sections (fresh ∷ []) in omega (arith, n, there);
      code = λ s at. elim (get_push sections c fresh s at) [
        | inl e ↦ absurd (let l = e.0 in omega (arith, l, there))
        | inr e ↦ h.code s e
      ];
      distinct = λ i k s t at_s at_t e. elim (get_push sections i fresh s at_s) [
        | inl a ↦ elim (get_push sections k fresh t at_t) [
          | inl b ↦ a.0 ∙ sym b.0
          | inr b ↦ absurd (new k t b (sym e ∙ ap (λ (x : Section). x.name) (sym a.1)))
        ]
        | inr a ↦ elim (get_push sections k fresh t at_t) [
          | inl b ↦ absurd (new i s a (e ∙ ap (λ (x : Section). x.name) (sym b.1)))
          | inr b ↦ h.distinct i k s t a b e
        ]
      ];
      sizes = λ k s at. elim (get_push sections k fresh s at) [
        | inl e ↦ subst (λ (x : Section). IsFilledBy rs k x) e.1 (λ _. sym (none_reserved name sections names (λ n. 0) rs new h.set))
        | inr e ↦ h.sizes k s e
      ];
      set = all_later sections (sections ++ fresh ∷ []) names names (λ n. 0) rs (push_later sections fresh names) h.set;
    }

-- ---- a reservation more

-- words at the end of an uninitialised section, and their first place given to a name
pub reserved_more : (f : Section → Section) (rs : List Reservation) (sections : List Section) (i c : ℕ) (names : Definitions) (s : Section) (r : Reservation) → ((s : Section) → IsLater s (f s))
    → slice_get sections i ≡ Some s → s.name ≡ r.section → s.initialised ≡ false → (f s).size ≡ s.size + r.count
    → (r.paged ≡ true → Contains (f s).blocks (record { section = i; offset = s.size; size = r.count })) → (r.paged ≡ true → (1 ≤ r.count) × (r.count ≤ 128))
    → Reserved rs sections c names → Reserved (rs ++ r ∷ []) (changed f sections i) c (names ++ (r.name, place i s.size) ∷ [])
reserved_more f rs sections i c names s r same at name bare size paged small h =
    let new = changed f sections i in
    let more = names ++ (r.name, place i s.size) ∷ [] in
    let filled : s.size ≡ reserved_words r.section rs = h.sizes i s at bare ∙ ap (λ n. reserved_words n rs) name in
    let later : AreLater sections new names more = record { sections = (changed_later f sections i names same).sections; defined = (names_later sections names ((r.name, place i s.size) ∷ [])).defined } in
    let is : IsSet new more s.size r = record {
      number = i;
      section = f s;
      section_is = changed_here f sections i s at;
      name_is = (same s).name ∙ name;
      bare = (same s).kind ∙ bare;
      value_is = last_in names (r.name, place i s.size);
      block_is = paged;
      block_small = small;
    } in
    record {
      there = let n = length_changed f sections i in let l = h.there in omega (arith, n, l);
      code = λ t there. let x = changed_from f sections i c t same there in x.3 ∙ h.code x.0 x.1;
      distinct = λ j k t u at_t at_u e.
          let x = changed_from f sections i j t same at_t in
          let y = changed_from f sections i k u same at_u in
          h.distinct j k x.0 y.0 x.1 y.1 (sym x.2 ∙ e ∙ y.2);
      sizes = each_changed (λ k t. (slice_get sections k ≡ Some t) × IsFilledBy rs k t) (IsFilledBy (rs ++ r ∷ [])) f sections i (λ k t there. (there, h.sizes k t there))
          (λ (t : Section) there k _.
          let one : s ≡ t = let a = at in let b = there in cc in
          let a : (f t).size ≡ t.size + r.count = subst (λ (x : Section). (f x).size ≡ x.size + r.count) one size in
          let named : (f t).name ≡ r.section = (same t).name ∙ sym (ap (λ (x : Section). x.name) one) ∙ name in
          let b : t.size ≡ reserved_words r.section rs = subst (λ (x : Section). x.size ≡ reserved_words r.section rs) one filled in
          let d = words_push (f t).name rs r in
          let e = part_same (f t).name r (sym named) in
          let g : reserved_words (f t).name rs ≡ reserved_words r.section rs = ap (λ n. reserved_words n rs) named in
          omega (arith, a, b, d, e, g))
          (λ k (t : Section) other kept was.
          let a = kept.1 was in
          let d = words_push t.name rs r in
          let e = part_other t.name r (λ q. other (h.distinct k i t s kept.0 at (sym q ∙ sym name))) in
          omega (arith, a, d, e));
      set = set_push new more (λ n. 0) rs r (all_later sections new names more (λ n. 0) rs later h.set) (subst (λ (n : ℕ). IsSet new more n r) (let z = filled in omega (arith, z)) is);
    }
