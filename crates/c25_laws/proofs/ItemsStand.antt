-- Where the words and relocations of each item of a module stand in its section.
use Rattle.std.proofs.Common.{◌≡◌, ℕ, zero, suc, ◌+◌, ◌-◌, ◌≤◌, ◌<◌, Bool, true, false, cond, eqb, ltb, List, [], ◌∷◌, ◌++◌, length, map, replicate, slice_index, Some, Ok, refl, sym, ap, ◌∙◌, subst, arith, inl, inr}
use Rattle.std.specs.List.{Contains, slice_get}
use Rattle.std.proofs.lemmas.Bool.{eqb-true, ltb-false}
use Rattle.std.proofs.lemmas.Bool.Decides.{nat_tests}
use Rattle.std.proofs.lemmas.List.{append_assoc, length-append, get_or_append_left, get_or-append-add}
use Rattle.std.proofs.lemmas.List.Elements.{Contains-append_cases, Contains-append_left, Contains-append_right}
use Rattle.c25_meaning_assembly.specs.Emission.{section_of}
use Rattle.c25_meaning_objects.specs.Module.{SectionData}
use Rattle.c25_meaning_linking.specs.Place.{Covers}
use Rattle.c25_meaning_assembly.specs.Sections.{Definitions, PendingItem, Section}
use Rattle.c25_meaning_objects.specs.declared.object.Relocation.{Relocation}
use Rattle.c25_meaning_language.specs.declared.value.Base.{Base}
use Rattle.c25_module_laws.proofs.Emitted.{Give, Made, filled_from, made_by, relocations_at, relocations_here, relocations_part, words_at, words_here, words_part}
use Rattle.c25_module_laws.proofs.Kept.{AreLaid, part, part_here, total, words_in}
use Rattle.c25_module_laws.proofs.LineWords.{IsFilled}
use Rattle.c25_linking_laws.proofs.Members.{behind_in, first_in, in_front, nothing_in}
use Rattle.c25_module_laws.proofs.SectionsFilled.{AreMadeOf, IsMadeOf, section_filled, zero_count}
use Rattle.c25_laws.proofs.StatementWords.{chain_has}

-- what an item gives, in the words and relocations of its section, of which no other is of its words
pub record StandsIn (B : Base → Type 0) (names : Definitions) (words_of_section : ℕ → List ℕ) (relocations_of_section : ℕ → List Relocation) (i : PendingItem) : Type 0 where
  pub made : Made
  pub gives : made_by names i i.content ≡ Ok made
  pub good : IsMadeOf B i made
  pub room : i.offset + length made.words ≤ length (words_of_section i.section)
  pub word_is : (j : ℕ) → j < length made.words → slice_index (words_of_section i.section) (i.offset + j) ≡ slice_index made.words j
  pub own : (r : Relocation) → Contains (relocations_of_section i.section) r → Covers i.offset (length made.words) r.offset → Contains made.relocations r
  pub there : (r : Relocation) → Contains made.relocations r → Contains (relocations_of_section i.section) r

part_in : (b : Bool) (m : Made) (r : Relocation) → Contains (cond b m.relocations []) r → (b ≡ true) × Contains m.relocations r
part_in true m r h = (refl, h)
part_in false m r h = absurd (nothing_in r h)

module _ (B : Base → Type 0) (names : Definitions) where
  -- the relocations of items lie after the words that are there
  behind_used : (used : ℕ → ℕ) (k : ℕ) (is : List PendingItem) (ms : List Made) (r : Relocation) → AreLaid used is → AreMadeOf B is ms → Contains (relocations_at k ms) r → used k ≤ r.offset
  behind_used used k is ms r laid made c =
      let pre = replicate {A = ℕ} (used k) 0 in
      (chain_has (λ (x : Relocation). x.offset) (IsFilled B k 0 (pre ++ words_at k ms)) (used k) (used k + total k is) (relocations_at k ms) r (section_filled B k used pre is ms (zero_count (used k)) laid made) c).0

  pub stands_in : (pre : ℕ → List ℕ) (rel : ℕ → List Relocation) (used : ℕ → ℕ) (is : List PendingItem) (ms : List Made)
      → ((k : ℕ) → length (pre k) ≡ used k) → ((k : ℕ) (r : Relocation) → Contains (rel k) r → r.offset < used k) → AreLaid used is → AreMadeOf B is ms → Give names is ms
      → (i : PendingItem) → Contains is i → StandsIn B names (λ k. pre k ++ words_at k ms) (λ k. rel k ++ relocations_at k ms) i
  stands_in pre rel used [] [] at low laid made give i c = absurd (nothing_in i c)
  stands_in pre rel used [] (m ∷ ms) at low laid made give i c = absurd made
  stands_in pre rel used (x ∷ is) [] at low laid made give i c = absurd made
  stands_in pre rel used (x ∷ is) (m ∷ ms) at low laid made give i c =
      elim (in_front x i is c) [
        | inl e ↦ subst (StandsIn B names (λ k. pre k ++ words_at k (m ∷ ms)) (λ k. rel k ++ relocations_at k (m ∷ ms))) e front
        | inr e ↦ later (stands_in (λ k. pre k ++ words_part k m) (λ k. rel k ++ relocations_part k m) (λ k. used k + part k x) is ms longer lower laid.1 made.1 give.1 i e)
      ]
    where
      whole : pre x.section ++ words_at x.section (m ∷ ms) ≡ pre x.section ++ (m.words ++ words_at x.section ms)
      whole = ap (λ ws. pre x.section ++ ws) (words_here x.section m ms (made.0).section_is)

      begins : x.offset ≡ length (pre x.section)
      begins = let l = at x.section in let o = laid.0 in omega (arith, l, o)

      front_own : (r : Relocation) → Contains (rel x.section ++ relocations_at x.section (m ∷ ms)) r → Covers x.offset (length m.words) r.offset → Contains m.relocations r
      front_own r c covers =
          elim (Contains-append_cases (rel x.section) (relocations_at x.section (m ∷ ms)) r c) [
            | inl e ↦ absurd (let l = low x.section r e in let f = covers.from in let o = laid.0 in omega (arith, l, f, o))
            | inr e ↦ elim (Contains-append_cases (relocations_part x.section m) (relocations_at x.section ms) r e) [
              | inl f ↦ (part_in (eqb m.section x.section) m r f).1
              | inr f ↦ absurd (
                  let l = behind_used (λ k. used k + part k x) x.section is ms r laid.1 made.1 f in
                  let t = covers.upto in
                  let o = laid.0 in
                  let p = part_here x.section x refl in
                  let size = (made.0).count in
                  omega (arith, l, t, o, p, size)
                  )
            ]
          ]

      front : StandsIn B names (λ k. pre k ++ words_at k (m ∷ ms)) (λ k. rel k ++ relocations_at k (m ∷ ms)) x
      front = record {
        made = m;
        gives = give.0;
        good = made.0;
        room = let a = ap (λ (ws : List ℕ). length ws) whole in let b = length-append (pre x.section) (m.words ++ words_at x.section ms) in let c = length-append m.words (words_at x.section ms) in let o = begins in omega (arith, a, b, c, o);
        word_is = λ j l.
            let off : x.offset + j ≡ length (pre x.section) + j = let o = begins in omega (arith, o) in
            (λ t. slice_index (whole t) (off t)) ∙ get_or-append-add (pre x.section) (m.words ++ words_at x.section ms) j 0 ∙ get_or_append_left m.words (words_at x.section ms) 0 j l;
        own = front_own;
        there = λ r c. Contains-append_right (rel x.section) (relocations_at x.section (m ∷ ms)) r
            (subst (λ (rs : List Relocation). Contains rs r) (sym (relocations_here x.section m ms (made.0).section_is)) (Contains-append_left m.relocations (relocations_at x.section ms) r c));
      }

      later : StandsIn B names (λ k. (pre k ++ words_part k m) ++ words_at k ms) (λ k. (rel k ++ relocations_part k m) ++ relocations_at k ms) i → StandsIn B names (λ k. pre k ++ words_at k (m ∷ ms)) (λ k. rel k ++ relocations_at k (m ∷ ms)) i
      later h =
          let ws : (pre i.section ++ words_part i.section m) ++ words_at i.section ms ≡ pre i.section ++ words_at i.section (m ∷ ms) = append_assoc (pre i.section) (words_part i.section m) (words_at i.section ms) in
          let rs : (rel i.section ++ relocations_part i.section m) ++ relocations_at i.section ms ≡ rel i.section ++ relocations_at i.section (m ∷ ms) = append_assoc (rel i.section) (relocations_part i.section m) (relocations_at i.section ms) in
          record {
            made = h.made;
            gives = h.gives;
            good = h.good;
            room = subst (λ (xs : List ℕ). i.offset + length (h.made).words ≤ length xs) ws h.room;
            word_is = λ j l. ap (λ xs. slice_index xs (i.offset + j)) (sym ws) ∙ h.word_is j l;
            own = λ r c. h.own r (subst (λ (xs : List Relocation). Contains xs r) (sym rs) c);
            there = λ r c. subst (λ (xs : List Relocation). Contains xs r) rs (h.there r c);
          }

      longer : (k : ℕ) → length (pre k ++ words_part k m) ≡ used k + part k x
      longer k =
          let l = at k in
          let size = length-append (pre k) (words_part k m) in
          let p = by (eqb m.section k) (eqb x.section k) (ap (λ n. eqb n k) (made.0).section_is) in
          omega (arith, l, size, p)
        where
          by : (a b : Bool) → a ≡ b → length (cond a m.words []) ≡ cond b (words_in x.content) 0
          by true true e = (made.0).count
          by false false e = refl
          by true false e = absurd (cc)
          by false true e = absurd (cc)

      lower : (k : ℕ) (r : Relocation) → Contains (rel k ++ relocations_part k m) r → r.offset < used k + part k x
      lower k r c =
          elim (Contains-append_cases (rel k) (relocations_part k m) r c) [
            | inl e ↦ (let l = low k r e in omega (arith, l))
            | inr e ↦ own_part (part_in (eqb m.section k) m r e)
          ]
        where
          own_part : (eqb m.section k ≡ true) × Contains m.relocations r → r.offset < used k + part k x
          own_part e =
              let here = eqb-true m.section k e.0 in
              let same : x.section ≡ k = sym (made.0).section_is ∙ here in
              let b = (chain_has (λ (y : Relocation). y.offset) (IsFilled B m.section m.offset m.words) m.offset (m.offset + length m.words) m.relocations r (made.0).filled e.1).1 in
              let o = (made.0).offset_is ∙ laid.0 in
              let u : used x.section ≡ used k = ap used same in
              let p = part_here k x same in
              let size = (made.0).count in
              omega (arith, b, o, u, p, size)

-- an item begins where those before it in its section end
pub laid_behind : (used : ℕ → ℕ) (before : List PendingItem) (i : PendingItem) (after : List PendingItem) → AreLaid used (before ++ i ∷ after) → i.offset ≡ used i.section + total i.section before
laid_behind used [] i after h = let o = h.0 in omega (arith, o)
laid_behind used (x ∷ before) i after h = let r = laid_behind (λ k. used k + part k x) before i after h.1 in omega (arith, r)

-- ---- which item a word is of

-- a word of a section is one of an item
pub record IsWordOf (k o : ℕ) (is : List PendingItem) : Type 0 where
  pub item : PendingItem
  pub among : Contains is item
  pub section_is : item.section ≡ k
  pub within : ℕ
  pub offset_is : o ≡ item.offset + within
  pub small : within < words_in item.content

pub word_of : (k o : ℕ) (used : ℕ → ℕ) (is : List PendingItem) → AreLaid used is → used k ≤ o → o < used k + total k is → IsWordOf k o is
word_of k o used [] laid l h = absurd (omega (arith, l, h))
word_of k o used (x ∷ is) laid l h =
    by (λ (past : used k + part k x ≤ o). word_of k o (λ n. used n + part n x) is laid.1 past (omega (arith, h))) (eqb x.section k) refl (ltb o (used k + words_in x.content)) refl
  where
    behind : IsWordOf k o is → IsWordOf k o (x ∷ is)
    behind w = record { item = w.item; among = behind_in x w.item is w.among; section_is = w.section_is; within = w.within; offset_is = w.offset_is; small = w.small }

    by : (used k + part k x ≤ o → IsWordOf k o is) → (a : Bool) → eqb x.section k ≡ a → (b : Bool) → ltb o (used k + words_in x.content) ≡ b → IsWordOf k o (x ∷ is)
    by go true at true less =
        let same = eqb-true x.section k at in
        let start : x.offset ≡ used k = laid.0 ∙ ap used same in
        let m : o < used k + words_in x.content = grind (arith, nat_tests) in
        record { item = x; among = first_in x is; section_is = same; within = o - used k; offset_is = omega (arith, start, l); small = omega (arith, m, l) }
    by go true at false less =
        let p = part_here k x (eqb-true x.section k at) in
        let m = ltb-false o (used k + words_in x.content) less in
        behind (go (omega (arith, p, m)))
    by go false at b less = let p : part k x ≡ 0 = ap (λ c. cond c (words_in x.content) 0) at in behind (go (omega (arith, p, l)))

-- ---- sections

-- a section of the module is one of the lines
pub section_there : (k j : ℕ) (ss : List Section) (ms : List Made) (d : SectionData) → slice_get (map section_of (filled_from j ss ms)) k ≡ Some d → (s : Section) × (slice_get ss k ≡ Some s)
section_there k j [] ms d e = absurd (cc)
section_there zero j (s ∷ ss) ms d e = (s, refl)
section_there (suc k) j (s ∷ ss) ms d e = section_there k (suc j) ss ms d e

-- a section of the lines is one of the module
pub section_stands : (k j : ℕ) (ss : List Section) (ms : List Made) (s : Section) → slice_get ss k ≡ Some s → (d : SectionData) × (slice_get (map section_of (filled_from j ss ms)) k ≡ Some d)
section_stands k j [] ms s e = absurd (cc)
section_stands zero j (x ∷ ss) ms s e = (_, refl)
section_stands (suc k) j (x ∷ ss) ms s e = section_stands k (suc j) ss ms s e
