-- The addresses that stand for all where a section may begin.
use Rattle.std.proofs.Common.{◌≡◌, ℕ, ◌%◌, Bool, true, false, ◌&&◌, ◌||◌, cond, List, [], ◌∷◌, get_or, Some, refl, sym, ap, subst, ◌∙◌, arith}
use Rattle.std.specs.List.{list_any, range_with_len}
use Rattle.c25_link_faults.specs.Overlaps.{SpanData}
use Rattle.c25_meaning_linking.specs.Place.{Place}
use Rattle.c25_rooms.specs.Bases.{AreRoomy, AreTried, PassesLike, bases_at, marked_places}
use Rattle.c25_rooms.specs.Crossings.{HasRoom, MayBegin, lies_in}
use Rattle.c25_rooms.proofs.Places.{any_kept, both, in_range, passes}

-- ---- places in a page

any_marked : (marks : List Bool) (test : ℕ → Bool) → list_any test (marked_places marks) ≡ list_any (λ place. get_or marks place false && test place) (range_with_len 0 128)
unfolding marked_places
any_marked marks test = any_kept (λ place. get_or marks place false) test (range_with_len 0 128)

pub tried_marked : (places : List Place) (ranges : List SpanData) (size : ℕ) (marks : List Bool) (list : List ℕ) → list ≡ marked_places marks → AreRoomy places ranges size marks → AreTried (HasRoom places ranges size) list
tried_marked places ranges size marks list is are = record {
  found = λ test h. found test (sym (any_marked marks test) ∙ ap (list_any test) (sym is) ∙ h);
  tried = λ test base may like.
      let place = base % 128 in
      let on = are.roomy place (record { base = base; room = may; place_is = refl }) in
      let passing = like place (omega arith) in
      ap (list_any test) is ∙ any_marked marks test
      ∙ in_range (λ p. get_or marks p false && test p) 128 0 place (omega arith) (omega arith) (ap (λ b. b && test place) on ∙ passing);
}
  where
    found : (test : ℕ → Bool) → list_any (λ place. get_or marks place false && test place) (range_with_len 0 128) ≡ true → PassesLike (HasRoom places ranges size) test
    found test h =
        let there = passes (λ place. get_or marks place false && test place) (range_with_len 0 128) h in
        let fits = both (get_or marks there.0 false) (test there.0) there.1 in
        let room = are.only there.0 fits.0 in
        record { place = there.0; passes = fits.1; like = record { base = room.base; may = room.room; alike = omega (arith, room.place_is) } }

-- ---- an address

pub tried_at : (places : List Place) (ranges : List SpanData) (s : SpanData) (size : ℕ) (list : List ℕ) → list ≡ bases_at s ranges → AreTried (MayBegin places ranges (Some s) size) list
tried_at places ranges s size list is = by_test (list_any (lies_in s) ranges) refl where
  by_test : (t : Bool) → list_any (lies_in s) ranges ≡ t → AreTried (MayBegin places ranges (Some s) size) list
  by_test true e =
      let alone : list ≡ s.first ∷ [] = is ∙ ap (λ (b : Bool). cond b (s.first ∷ []) []) e in
      subst (λ (xs : List ℕ). AreTried (MayBegin places ranges (Some s) size) xs) (sym alone) (record {
        found = λ test h. record { place = s.first; passes = only (test s.first) h; like = record { base = s.first; may = (refl, e); alike = refl } };
        tried = λ test base may like. ap (λ b. b || false) (like s.first (ap (λ n. n % 128) (sym may.0)));
      })
    where
      only : (b : Bool) → (b || false) ≡ true → b ≡ true
      only true h = refl
      only false h = absurd cc
  by_test false e =
      let none : list ≡ [] = is ∙ ap (λ (b : Bool). cond b (s.first ∷ []) []) e in
      subst (λ (xs : List ℕ). AreTried (MayBegin places ranges (Some s) size) xs) (sym none) (record {
        found = λ test h. absurd cc;
        tried = λ test base may like. let lies = may.1 in absurd cc;
      })
