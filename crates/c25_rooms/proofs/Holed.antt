-- The words of a part of a page, one more at a time.
use Rattle.std.proofs.Common.{◌≡◌, ℕ, zero, suc, ◌+◌, ◌-◌, ◌<◌, ◌≤◌, Bool, true, false, cond, max, List, [], ◌∷◌, ◌++◌, length, map, take, get_or, sym, ap, subst, ◌∙◌, arith, ⊎_elim}
use Rattle.std.proofs.lemmas.Bool.{cases_lt}
use Rattle.std.proofs.lemmas.List.{map-append}
use Rattle.std.proofs.lemmas.List.Elements.{All-push}
use Rattle.c25_link_faults.specs.Overlaps.{SpanData, span_data}
use Rattle.c25_link_faults.specs.declared.spans.Span.{Span}
use Rattle.c25_place.proofs.Listed.{mapped_more}
use Rattle.c25_rooms.specs.declared.rooms.Room.{Room}
use Rattle.c25_meaning_linking.specs.GoodMap.{is_taken}
use Rattle.c25_meaning_linking.specs.Place.{Place}
use Rattle.c25_rooms.specs.Holes.{AreRooms, IsHoleIn, IsLargestHole, IsRoom, RoomData, free_words, room_data}
use Rattle.c25_rooms.specs.Measured.{IsMeasured}
use Rattle.c25_rooms.specs.declared.measure.Measure.{Measure}

-- ---- counts

free_none : (page : ℕ) (places : List Place) (start : ℕ) → 0 ≡ free_words page places start (start - start)
unfolding free_words
free_none page places start = let e : 0 ≡ start - start = omega arith in ap (free_words page places start) e

free_more : (page : ℕ) (places : List Place) (start word : ℕ) (t : Bool) → start ≤ word → t ≡ is_taken page places word
    → free_words page places start (word + 1 - start) ≡ free_words page places start (word - start) + cond t 0 1
unfolding free_words
free_more page places start word t le is =
    let n : ℕ = word - start in
    let e : word + 1 - start ≡ suc n = omega arith in
    let at : start + n ≡ word = omega arith in
    ap (free_words page places start) e ∙ ap (λ w. free_words page places start n + cond (is_taken page places w) 0 1) at ∙ ap (λ b. free_words page places start n + cond b 0 1) (sym is)

-- ---- no word

pub measured_none : (page : ℕ) (places : List Place) (start : ℕ) (m : Measure) → m.free ≡ 0 → m.run ≡ 0 → m.largest ≡ 0 → IsMeasured page places start start m
measured_none page places start m free run largest = record {
  free_is = free ∙ free_none page places start;
  run_from = omega (arith, run);
  run_free = λ other le lt. absurd (omega (arith, run));
  run_longest = λ other from clear. omega (arith, run);
  hole = record { begin = start; from = omega arith; upto = omega (arith, largest); free = λ word c. absurd (omega (arith, c.from, c.upto, largest)) };
  largest = λ size h. omega (arith, h.from, h.upto, largest);
}

-- ---- a word more

-- a hole that ends before a word
shorter : (page : ℕ) (places : List Place) (start word size : ℕ) (h : IsHoleIn page places start (word + 1) size) → h.begin + size ≤ word → IsHoleIn page places start word size
shorter page places start word size h le = record { begin = h.begin; from = h.from; upto = le; free = h.free }

-- a taken word
taken_more : (page : ℕ) (places : List Place) (start word : ℕ) (m after : Measure) → start ≤ word → true ≡ is_taken page places word → after.free ≡ m.free → after.run ≡ 0 → after.largest ≡ m.largest
    → IsMeasured page places start word m → IsMeasured page places start (word + 1) after
taken_more page places start word m after le is free run largest before = record {
  free_is =
      let more = free_more page places start word true le is in
      let so_far = before.free_is in
      omega (arith, more, so_far, free);
  run_from = omega (arith, run);
  run_free = λ other ge lt. absurd (omega (arith, run));
  run_longest = λ other from clear.
      ⊎_elim (λ lt. omega (arith, run, lt)) (λ ge. absurd (it_is_not (clear word (record { from = ge; upto = omega (arith, ge) }))))
      (cases_lt word other);
  hole =
      let h = before.hole in
      record { begin = h.begin; from = h.from; upto = omega (arith, h.upto, largest); free = λ w c. h.free w (record { from = c.from; upto = omega (arith, c.upto, largest) }) };
  largest = λ size h.
      ⊎_elim (λ lt. let shown = before.largest size (shorter page places start word size h (omega (arith, lt))) in omega (arith, shown, largest))
      (λ ge. by_size size h ge)
      (cases_lt (h.begin + size) (word + 1));
}
  where
    it_is_not : is_taken page places word ≡ false → ⊥
    it_is_not clear = absurd cc

    by_size : (size : ℕ) (h : IsHoleIn page places start (word + 1) size) → word + 1 ≤ h.begin + size → size ≤ after.largest
    by_size zero h ge = omega arith
    by_size (suc size) h ge = absurd (it_is_not (h.free word (record { from = omega (arith, h.upto); upto = omega (arith, ge) })))

-- a free word
clear_more : (page : ℕ) (places : List Place) (start word : ℕ) (m after : Measure) → start ≤ word → false ≡ is_taken page places word → after.free ≡ m.free + 1 → after.run ≡ m.run + 1 → after.largest ≡ max m.largest (m.run + 1)
    → IsMeasured page places start word m → IsMeasured page places start (word + 1) after
clear_more page places start word m after le is free run largest before = record {
  free_is =
      let more = free_more page places start word false le is in
      let so_far = before.free_is in
      omega (arith, more, so_far, free);
  run_from = omega (arith, run, before.run_from);
  run_free = in_run;
  run_longest = λ other from clear.
      let so_far = before.run_longest other from (λ w c. clear w (record { from = c.from; upto = omega (arith, c.from, c.upto) })) in
      omega (arith, so_far, run);
  hole = ⊎_elim kept grown (cases_lt m.run m.largest);
  largest = λ size h.
      ⊎_elim (λ lt. let shown = before.largest size (shorter page places start word size h (omega (arith, lt))) in omega (arith, shown, largest))
      (λ ge. let begun = before.run_longest h.begin h.from (λ w c. h.free w (record { from = c.from; upto = omega (arith, c.from, c.upto, h.upto, ge) })) in omega (arith, begun, h.upto, largest))
      (cases_lt (h.begin + size) (word + 1));
}
  where
    in_run : (other : ℕ) → word + 1 ≤ other + after.run → other < word + 1 → is_taken page places other ≡ false
    in_run other ge lt =
        ⊎_elim (λ before_it. before.run_free other (omega (arith, ge, run)) before_it)
        (λ at. let same : other ≡ word = omega (arith, at, lt) in ap (is_taken page places) same ∙ sym is)
        (cases_lt other word)

    kept : m.run < m.largest → IsHoleIn page places start (word + 1) after.largest
    kept lt =
        let h = before.hole in
        let same : m.largest ≡ after.largest = omega (arith, lt, largest) in
        subst (IsHoleIn page places start (word + 1)) same (record { begin = h.begin; from = h.from; upto = omega (arith, h.upto); free = h.free })

    grown : m.largest ≤ m.run → IsHoleIn page places start (word + 1) after.largest
    grown le_run = record {
      begin = word - m.run;
      from = omega (arith, before.run_from);
      upto = omega (arith, before.run_from, le_run, largest);
      free = λ w c. in_run w (omega (arith, c.from, c.upto, run, before.run_from)) (omega (arith, c.from, c.upto, le_run, largest, before.run_from));
    }

pub measured_more : (page : ℕ) (places : List Place) (start word : ℕ) (m after : Measure) (t : Bool) → start ≤ word → t ≡ is_taken page places word
    → after ≡ cond t (record { free = m.free; run = 0; largest = m.largest }) (record { free = m.free + 1; run = m.run + 1; largest = max m.largest (m.run + 1) })
    → IsMeasured page places start word m → IsMeasured page places start (word + 1) after
measured_more page places start word m after true le is e before =
    taken_more page places start word m after le is (ap (λ (x : Measure). x.free) e) (ap (λ (x : Measure). x.run) e) (ap (λ (x : Measure). x.largest) e) before
measured_more page places start word m after false le is e before =
    clear_more page places start word m after le is (ap (λ (x : Measure). x.free) e) (ap (λ (x : Measure). x.run) e) (ap (λ (x : Measure). x.largest) e) before

pub few_more : (start word : ℕ) (m after : Measure) (t : Bool)
    → after ≡ cond t (record { free = m.free; run = 0; largest = m.largest }) (record { free = m.free + 1; run = m.run + 1; largest = max m.largest (m.run + 1) })
    → start ≤ word → start + m.free ≤ word → start + m.run ≤ word → (start + after.free ≤ word + 1) × (start + after.run ≤ word + 1)
few_more start word m after true e le free run = (omega (arith, ap (λ (x : Measure). x.free) e), omega (arith, ap (λ (x : Measure). x.run) e))
few_more start word m after false e le free run = (omega (arith, ap (λ (x : Measure). x.free) e), omega (arith, ap (λ (x : Measure). x.run) e))

-- ---- a whole range

pub measured_range : (places : List Place) (span : SpanData) (end : ℕ) (m : Measure) (room : RoomData) → end ≡ max span.first (span.last + 1) → room.span ≡ span → room.free ≡ m.free → room.largest ≡ m.largest
    → IsMeasured span.page places span.first end m → IsRoom places room
measured_range places span end m room ends same free largest so = record {
  free_is =
      let n : end - span.first ≡ span.last + 1 - span.first = omega (arith, ends) in
      free ∙ so.free_is ∙ ap (free_words span.page places span.first) n ∙ ap (λ (s : SpanData). free_words s.page places s.first (s.last + 1 - s.first)) (sym same);
  largest_is =
      subst (λ (s : SpanData). IsLargestHole places s room.largest) (sym same) (record {
        is_there = λ some.
            let h = so.hole in
            record { begin = h.begin; from = h.from; upto = omega (arith, h.from, h.upto, ends, some, largest); free = λ w c. h.free w (record { from = c.from; upto = omega (arith, c.upto, largest) }) };
        largest = λ other h.
            let shown = so.largest other (record { begin = h.begin; from = h.from; upto = omega (arith, h.upto, ends); free = h.free }) in
            omega (arith, shown, largest);
      });
}

-- ---- ranges

pub rooms_next : (places : List Place) (spans : List Span) (i : ℕ) (d : Span) (old new : List Room) (r : Room) → i < length spans → new ≡ old ++ r ∷ [] → AreRooms places (map span_data (take i spans)) (map room_data old)
    → (room_data r).span ≡ span_data (get_or spans i d) → IsRoom places (room_data r) → AreRooms places (map span_data (take (i + 1) spans)) (map room_data new)
rooms_next places spans i d old new r lt is before same so =
    let told : map room_data new ≡ map room_data old ++ room_data r ∷ [] = ap (λ (xs : List Room). map room_data xs) is ∙ map-append room_data old (r ∷ []) in
    subst (λ (xs : List RoomData). AreRooms places (map span_data (take (i + 1) spans)) xs) (sym told) (record {
      spans_are =
          map-append (λ (x : RoomData). x.span) (map room_data old) (room_data r ∷ [])
          ∙ ap (λ (xs : List SpanData). xs ++ (room_data r).span ∷ []) before.spans_are
          ∙ ap (λ (x : SpanData). map span_data (take i spans) ++ x ∷ []) same
          ∙ sym (mapped_more span_data spans i d lt);
      each = All-push (IsRoom places) (map room_data old) (room_data r) before.each so;
    })
