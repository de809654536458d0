-- The marks of a module lie in the words of its sections, each after the one before it.
use Rattle.std.proofs.Common.{◌≡◌, ℕ, ◌+◌, ◌-◌, ◌<◌, ◌≤◌, true, ◌||◌, eqb, leb, List, [], ◌∷◌, ◌++◌, length, Option, Some, None, refl, ap, subst, ◌∙◌, arith, inl, inr, ◌⊎◌, ⊎_elim, All}
use Rattle.std.specs.List.{Contains, slice_get}
use Rattle.std.proofs.Math.Seq.{get_or-append_seam}
use Rattle.std.proofs.lemmas.Bool.{and_parts, cases_lt}
use Rattle.std.proofs.lemmas.Bool.Decides.{nat_tests}
use Rattle.std.proofs.lemmas.List.{length-append}
use Rattle.std.proofs.lemmas.List.Elements.{All-nil, All-cons, All-weaker}
use Rattle.std.proofs.lemmas.Option.{slice_get-get_or}
use Rattle.c25_meaning_linking.specs.Command.{Pairwise}
use Rattle.c25_meaning_objects.specs.Module.{SectionBody, Uninitialised, Initialised, SectionData, Contents, IsModule, body_size, body_words, each_fits, has_sections, is_from, last_of, lists_fit, mark_after, mark_fits, section_fits, words_at}
use Rattle.c25_meaning_objects.specs.declared.object.ModuleMark.{ModuleMark}
use Rattle.c25_linking_laws.proofs.Members.{fits_in}

-- one mark stands before another
abbrev pub Before : ModuleMark → ModuleMark → Type 0
Before x y = (x.section < y.section) ⊎ ((x.section ≡ y.section) × (x.offset + x.size ≤ y.offset))

-- ---- each after the one before it

last_pushed : (before : List ModuleMark) (x : ModuleMark) → last_of (before ++ x ∷ []) ≡ Some x
last_pushed before x =
    let size : length (before ++ x ∷ []) ≡ length before + 1 = length-append before (x ∷ []) in
    let place : length (before ++ x ∷ []) - 1 ≡ length before = omega arith in
    ap (slice_get (before ++ x ∷ [])) place ∙ slice_get-get_or (before ++ x ∷ []) (length before) x (omega arith) ∙ ap Some (get_or-append_seam before x [] x)

behind : (sections : List SectionData) (before : List ModuleMark) (x y : ModuleMark) → mark_fits sections (before ++ x ∷ []) y ≡ true → Before x y
behind sections before x y h =
    let after = and_parts _ (mark_after (last_of (before ++ x ∷ [])) y) h in
    let is : is_from x.section (x.offset + x.size) y.section y.offset ≡ true = subst (λ o. mark_after o y ≡ true) (last_pushed before x) after.1 in
    ⊎_elim (λ lt. inl lt) (λ ge. inr (grind (arith, nat_tests, is), grind (arith, nat_tests, is))) (cases_lt x.section y.section)

before_all : (x y z : ModuleMark) → Before x y → Before y z → Before x z
before_all x y z p q =
    ⊎_elim (λ lt. ⊎_elim (λ lt2. inl (omega (arith, lt, lt2))) (λ same. inl (omega (arith, lt, same.0))) q) (λ same. ⊎_elim (λ lt2. inl (omega (arith, same.0, lt2))) (λ same2. inr (omega (arith, same.0, same2.0), omega (arith, same.1, same2.1))) q) p

pairs_after : (sections : List SectionData) (before : List ModuleMark) (x : ModuleMark) (ms : List ModuleMark) → each_fits (mark_fits sections) (before ++ x ∷ []) ms ≡ true → All (Before x) ms × Pairwise Before ms
pairs_after sections before x [] h = (All-nil (Before x), tt)
pairs_after sections before x (y ∷ ys) h =
    let g = and_parts (mark_fits sections (before ++ x ∷ []) y) (each_fits (mark_fits sections) ((before ++ x ∷ []) ++ y ∷ []) ys) h in
    let rest = pairs_after sections (before ++ x ∷ []) y ys g.1 in
    let first = behind sections before x y g.0 in
    (All-cons (Before x) y ys first (All-weaker (Before y) (Before x) (λ z q. before_all x y z first q) ys rest.0), rest)

fitting_pairs : (sections : List SectionData) (ms : List ModuleMark) → each_fits (mark_fits sections) [] ms ≡ true → Pairwise Before ms
fitting_pairs sections [] h = tt
fitting_pairs sections (x ∷ ms) h = pairs_after sections [] x ms (and_parts (mark_fits sections [] x) (each_fits (mark_fits sections) (x ∷ []) ms) h).1

marks_of_module : (c : Contents) → IsModule c → each_fits (mark_fits c.sections) [] c.marks ≡ true
marks_of_module c is =
    (and_parts _ _ (and_parts (each_fits section_fits [] c.sections) _ (and_parts (has_sections c) (lists_fit c) is.lists).1).1).0

pub mark_pairs : (c : Contents) → IsModule c → Pairwise Before c.marks
mark_pairs c is = fitting_pairs c.sections c.marks (marks_of_module c is)

-- ---- in the words of a section

-- the words of a mark are words of a section
pub record InSection (c : Contents) (x : ModuleMark) : Type 0 where
  pub section : SectionData
  pub section_is : slice_get c.sections x.section ≡ Some section
  pub within : x.offset + x.size ≤ body_size section.body
  pub some : 1 ≤ x.size
  pub few : x.size ≤ 2

words_within : (b : SectionBody) → length (body_words b) ≤ body_size b
words_within (Uninitialised size) = omega arith
words_within (Initialised words) = omega arith

-- the words of a section, if there is one
abbrev words_of : Option SectionData → List ℕ
words_of o = elim o [ None ↦ [] | Some s ↦ body_words s.body ]

in_words : (c : Contents) (x : ModuleMark) → 1 ≤ x.size → x.size ≤ 2 → x.offset + x.size ≤ length (words_at c.sections x.section) → InSection c x
in_words c x some few within = by_section (slice_get c.sections x.section) refl where
  by_section : (o : Option SectionData) → slice_get c.sections x.section ≡ o → InSection c x
  by_section None e =
      let none : length (words_at c.sections x.section) ≡ 0 = ap (λ (o : Option SectionData). length (words_of o)) e in
      absurd (omega (arith, none, within, some))
  by_section (Some s) e =
      let words : length (words_at c.sections x.section) ≡ length (body_words s.body) = ap (λ (o : Option SectionData). length (words_of o)) e in
      record { section = s; section_is = e; within = omega (arith, within, words, words_within s.body); some = some; few = few }

pub in_section : (c : Contents) → IsModule c → (x : ModuleMark) → Contains c.marks x → InSection c x
in_section c is x among =
    let fits = fits_in (mark_fits c.sections) [] c.marks x (marks_of_module c is) among in
    let front = and_parts _ (mark_after (last_of fits.0) x) fits.1 in
    let sized = and_parts (eqb x.size 1 || eqb x.size 2) (leb (x.offset + x.size) (length (words_at c.sections x.section))) front.0 in
    in_words c x (grind (arith, nat_tests, sized.0)) (grind (arith, nat_tests, sized.0)) (grind (arith, nat_tests, sized.1))
