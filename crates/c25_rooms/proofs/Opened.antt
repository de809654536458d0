-- The places in a page where a section may begin on free words, one word and one range more at a time.
use Rattle.std.proofs.Common.{◌≡◌, ◌⊎◌, inl, inr, ℕ, zero, suc, ◌+◌, ◌-◌, ◌%◌, ◌<◌, ◌≤◌, Bool, true, false, ◌&&◌, ◌||◌, eqb, leb, max, List, [], ◌∷◌, ◌++◌, get_or, replicate, refl, sym, ap, subst, ◌∙◌, arith, ⊎_elim, eq-eqb, eqb-true}
use Rattle.std.proofs.lemmas.Bool.{cases_lt}
use Rattle.std.proofs.lemmas.Bool.Decides.{nat_tests}
use Rattle.std.proofs.lemmas.List.Elements.{Contains-append_left, Contains-push, Contains-push_cases}
use Rattle.c25_link_faults.specs.Overlaps.{SpanData}
use Rattle.c25_meaning_linking.specs.GoodMap.{IsFree}
use Rattle.c25_meaning_linking.specs.Place.{Place}
use Rattle.c25_rooms.specs.Bases.{AreOpened, AreRoomy, IsOpenAt}
use Rattle.c25_place.specs.Room.{KnowsTaken}
use Rattle.c25_rooms.specs.Marks.{KnowsMarks}
use Rattle.c25_rooms.specs.Measured.{IsMeasured}
use Rattle.c25_rooms.specs.declared.marks.Marks.{Marks}
use Rattle.c25_rooms.specs.declared.measure.Measure.{Measure}
use Rattle.c25_rooms.proofs.Places.{both, or_true}

-- ---- no word

pub opened_none : (page : ℕ) (places : List Place) (start size : ℕ) (before : List Bool) → 0 < size → AreOpened page places start start size before before
opened_none page places start size before some = record {
  kept = λ place h. h;
  opened = λ place o. absurd (omega (arith, o.from, o.upto, some));
  only = λ place h. inl h;
}

-- ---- a word more

sizes_le : (size run : ℕ) → size ≤ run → leb size run ≡ true
sizes_le size run le = grind (arith, nat_tests)

le_sizes : (size run : ℕ) → leb size run ≡ true → size ≤ run
le_sizes size run h = grind (arith, nat_tests)

longer : (page : ℕ) (places : List Place) (start word size place : ℕ) → IsOpenAt page places start word size place → IsOpenAt page places start (word + 1) size place
longer page places start word size place o = record { base = o.base; from = o.from; upto = omega (arith, o.upto); free = o.free; place_is = o.place_is }

pub opened_more : (page : ℕ) (places : List Place) (start word size : ℕ) (before old new : List Bool) (m : Measure) → 0 < size → IsMeasured page places start (word + 1) m
    → ((k : ℕ) → get_or new k false ≡ (get_or old k false || (leb size m.run && eqb ((word + 1 - size) % 128) k)))
    → AreOpened page places start word size before old → AreOpened page places start (word + 1) size before new
opened_more page places start word size before old new m some so marks are = record {
  kept = λ place h. of_old place (are.kept place h);
  opened = λ place o.
      ⊎_elim (λ lt. of_old place (are.opened place (record { base = o.base; from = o.from; upto = omega (arith, lt); free = o.free; place_is = o.place_is })))
      (λ ge. at_end place o ge)
      (cases_lt (o.base + size) (word + 1));
  only = λ place h. by_old place (get_or old place false) refl (sym (marks place) ∙ h);
}
  where
    of_old : (place : ℕ) → get_or old place false ≡ true → get_or new place false ≡ true
    of_old place h = marks place ∙ ap (λ b. b || (leb size m.run && eqb ((word + 1 - size) % 128) place)) h

    at_end : (place : ℕ) (o : IsOpenAt page places start (word + 1) size place) → word + 1 ≤ o.base + size → get_or new place false ≡ true
    at_end place o ge =
        let full = so.run_longest o.base o.from (λ w c. o.free w (record { from = c.from; upto = omega (arith, c.from, c.upto, o.upto, ge) })) in
        let begun : (word + 1 - size) % 128 ≡ place = let e : word + 1 - size ≡ o.base = omega (arith, o.upto, ge) in ap (λ n. n % 128) e ∙ o.place_is in
        let long : leb size m.run ≡ true = sizes_le size m.run (omega (arith, full, o.upto, ge)) in
        let same : eqb ((word + 1 - size) % 128) place ≡ true = eq-eqb ((word + 1 - size) % 128) place begun in
        marks place ∙ ap (λ b. get_or old place false || (b && eqb ((word + 1 - size) % 128) place)) long ∙ ap (λ b. get_or old place false || b) same ∙ or_true (get_or old place false)

    by_old : (place : ℕ) (t : Bool) → get_or old place false ≡ t → (get_or old place false || (leb size m.run && eqb ((word + 1 - size) % 128) place)) ≡ true
        → (get_or before place false ≡ true) ⊎ IsOpenAt page places start (word + 1) size place
    by_old place true e h = ⊎_elim (λ b. inl b) (λ o. inr (longer page places start word size place o)) (are.only place e)
    by_old place false e h =
        let here = both (leb size m.run) (eqb ((word + 1 - size) % 128) place) (ap (λ b. b || (leb size m.run && eqb ((word + 1 - size) % 128) place)) (sym e) ∙ h) in
        let long = le_sizes size m.run here.0 in
        inr (record {
          base = word + 1 - size;
          from = omega (arith, so.run_from, long);
          upto = omega (arith, so.run_from, long);
          free = λ w c. so.run_free w (omega (arith, so.run_from, long, c.from)) (omega (arith, so.run_from, long, c.upto));
          place_is = eqb-true ((word + 1 - size) % 128) place here.1;
        })

-- ---- a range

pub opened_range : (page : ℕ) (places : List Place) (first last end size : ℕ) (before marks : List Bool) → 0 < size → end ≡ max first (last + 1)
    → AreOpened page places first end size before marks → AreOpened page places first (last + 1) size before marks
opened_range page places first last end size before marks some ends are = record {
  kept = are.kept;
  opened = λ place o. are.opened place (record { base = o.base; from = o.from; upto = omega (arith, o.upto, ends); free = o.free; place_is = o.place_is });
  only = λ place h.
      ⊎_elim (λ b. inl b)
      (λ o. inr (record { base = o.base; from = o.from; upto = omega (arith, o.from, o.upto, ends, some); free = o.free; place_is = o.place_is }))
      (are.only place h);
}

-- ---- no range

clear : (n k : ℕ) → get_or (replicate n false) k false ≡ false
clear zero k = refl
clear (suc n) zero = refl
clear (suc n) (suc k) = clear n k

pub roomy_none : (places : List Place) (size : ℕ) (marks : List Bool) → marks ≡ replicate 128 false → AreRoomy places [] size marks
roomy_none places size marks are = record {
  roomy = λ place h. absurd (omega (arith, h.room.among.1));
  only = λ place h. let off = ap (λ (xs : List Bool). get_or xs place false) are ∙ clear 128 place in absurd cc;
}

-- the marks of a page
pub knows_at : (m : Marks) (xs : List Bool) (page : ℕ) (places : List Place) → KnowsMarks m places → m.page ≡ page → xs ≡ m.taken.items → KnowsTaken xs page places
knows_at m xs page places k at is = subst (λ (ys : List Bool). KnowsTaken ys page places) (sym is) (subst (λ n. KnowsTaken m.taken.items n places) at k)

-- ---- a range more

pub roomy_more : (places : List Place) (ranges : List SpanData) (s : SpanData) (size : ℕ) (before marks : List Bool) → AreOpened s.page places s.first (s.last + 1) size before marks
    → AreRoomy places ranges size before → AreRoomy places (ranges ++ s ∷ []) size marks
roomy_more places ranges s size before marks opened are = record {
  roomy = λ place h.
      ⊎_elim (λ among. opened.kept place (are.roomy place (record {
        base = h.base;
        room = record { range = h.room.range; among = among; from = h.room.from; upto = h.room.upto; free = h.room.free };
        place_is = h.place_is;
      })))
      (λ same. opened.opened place (record {
        base = h.base;
        from = omega (arith, h.room.from, ap (λ (x : SpanData). x.first) same);
        upto = omega (arith, h.room.upto, ap (λ (x : SpanData). x.last) same);
        free = subst (λ (x : SpanData). IsFree x.page h.base size places) (sym same) h.room.free;
        place_is = h.place_is;
      }))
      (Contains-push_cases ranges s h.room.range h.room.among);
  only = λ place h.
      ⊎_elim (λ b.
      let old = are.only place b in
      record {
        base = old.base;
        room = record { range = old.room.range; among = Contains-append_left ranges (s ∷ []) old.room.range old.room.among; from = old.room.from; upto = old.room.upto; free = old.room.free };
        place_is = old.place_is;
      })
      (λ o. record {
        base = o.base;
        room = record { range = s; among = Contains-push ranges s; from = o.from; upto = o.upto; free = o.free };
        place_is = o.place_is;
      })
      (opened.only place h);
}
