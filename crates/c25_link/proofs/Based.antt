-- Where parts begin, one after the other.
use Rattle.std.proofs.Common.{◌≡◌, ℕ, suc, ◌+◌, ◌≤◌, Bool, true, false, cond, List, [], ◌∷◌, ◌++◌, take, Option, Some, None, refl, sym, ap, ◌∙◌, arith, add-zero}
use Rattle.std.specs.List.{slice_get}
use Rattle.std.specs.Prelude.{IfSome}
use Rattle.std.specs.Option.{option_map, option_map_or, option_or}
use Rattle.std.specs.Str.{bytes_eq}
use Rattle.std.proofs.lemmas.List.Folds.{find-append}
use Rattle.std.proofs.lemmas.List.Sums.{sum_by-append, sum_by-cons, sum_by_push}
use Rattle.c25_meaning_objects.specs.Module.{SectionData, Contents, body_size}
use Rattle.c25_meaning_linking.specs.Place.{Place, place_named, base_of, page_of, size_for, all_sections}
use Rattle.c25_meaning_linking.proofs.PlaceNames.{same_name, is_same}
use Rattle.c25_link.specs.Bases.{part_of, next_part, run_of, HasRoomFor, HasPlaceFor}
use Rattle.c25_place.specs.Outputs.{size_of_sections}
use Rattle.c25_link.specs.declared.bases.PartBase.{PartBase}
use Rattle.c25_place.proofs.Sized.{turned}

-- ---- first parts

-- the same address
run_zero : (o : Option ℕ) → option_map (λ run. run + 0) o ≡ o
run_zero None = refl
run_zero (Some run) = ap Some (add-zero run)

first_part : (p : Place) → next_part [] p ≡ record { page = p.page; base = p.base; run = p.run }
first_part p = λ i. record { page = p.page; base = add-zero p.base i; run = run_zero p.run i }

or_none : {A : Type 0} (o : Option A) → option_or o None ≡ o
or_none None = refl
or_none (Some x) = refl

-- a place whose name was not seen
pub place_new : (name : List ℕ) (ps : List Place) (p : Place) (old : Option PartBase) → old ≡ option_map (next_part []) (place_named name ps) → (bytes_eq p.name name ≡ true → old ≡ None)
    → cond (bytes_eq p.name name) (Some (record { page = p.page; base = p.base; run = p.run })) old ≡ option_map (next_part []) (place_named name (ps ++ p ∷ []))
place_new name ps p old is fresh = by_test (bytes_eq p.name name) refl where
  by_test : (t : Bool) → bytes_eq p.name name ≡ t → cond t (Some (record { page = p.page; base = p.base; run = p.run })) old ≡ option_map (next_part []) (place_named name (ps ++ p ∷ []))
  by_test true e =
      let none : place_named name ps ≡ None = is_none (place_named name ps) (sym is ∙ fresh e) in
      ap Some (sym (first_part p))
      ∙ ap (λ b. option_map (next_part []) (cond b (Some p) None)) (sym (turned name p.name ∙ e))
      ∙ ap (λ o. option_map (next_part []) (option_or o (cond (bytes_eq name p.name) (Some p) None))) (sym none)
      ∙ ap (option_map (next_part [])) (sym (find-append (λ (q : Place). bytes_eq name q.name) ps (p ∷ [])))
    where
      is_none : (o : Option Place) → option_map (next_part []) o ≡ None → o ≡ None
      is_none None h = refl
      is_none (Some x) h = absurd cc
  by_test false e =
      is ∙ ap (option_map (next_part [])) (sym (or_none (place_named name ps)))
      ∙ ap (λ b. option_map (next_part []) (option_or (place_named name ps) (cond b (Some p) None))) (sym (turned name p.name ∙ e))
      ∙ ap (option_map (next_part [])) (sym (find-append (λ (q : Place). bytes_eq name q.name) ps (p ∷ [])))

-- a place whose name was seen
pub place_seen : (name : List ℕ) (ps : List Place) (p : Place) (old : Option PartBase) (q : Place) → old ≡ option_map (next_part []) (place_named name ps) → place_named p.name ps ≡ Some q
    → old ≡ option_map (next_part []) (place_named name (ps ++ p ∷ []))
place_seen name ps p old q is seen =
    is ∙ ap (option_map (next_part [])) (by_test (bytes_eq name p.name) refl ∙ sym (find-append (λ (x : Place). bytes_eq name x.name) ps (p ∷ [])))
  where
    by_test : (t : Bool) → bytes_eq name p.name ≡ t → place_named name ps ≡ option_or (place_named name ps) (cond (bytes_eq name p.name) (Some p) None)
    by_test true e =
        let there : place_named name ps ≡ Some q = ap (λ n. place_named n ps) (same_name name p.name e) ∙ seen in
        there ∙ ap (λ o. option_or o (cond (bytes_eq name p.name) (Some p) None)) (sym there)
    by_test false e = sym (ap (λ b. option_or (place_named name ps) (cond b (Some p) None)) e ∙ or_none (place_named name ps))

-- ---- a part more

found_name : (name : List ℕ) (places : List Place) (p : Place) → place_named name places ≡ Some p → p.name ≡ name
found_name name [] p h = absurd cc
found_name name (x ∷ xs) p h = by_test (found_name name xs p) (bytes_eq name x.name) refl h where
  by_test : (place_named name xs ≡ Some p → p.name ≡ name) → (t : Bool) → bytes_eq name x.name ≡ t → cond t (Some x) (place_named name xs) ≡ Some p → p.name ≡ name
  by_test after true e g = let same : x ≡ p = cc in sym (ap (λ (q : Place). q.name) same) ∙ sym (same_name name x.name e)
  by_test after false e g = after g

size_more : (name : List ℕ) (ss : List SectionData) (s : SectionData) → size_of_sections name (ss ++ s ∷ []) ≡ size_of_sections name ss + size_for name s
size_more name ss s = sum_by_push (size_for name) ss s

own_size : (name : List ℕ) (s : SectionData) → name ≡ s.name → size_for name s ≡ body_size s.body
own_size name s e = ap (λ b. cond b (body_size s.body) 0) (ap (bytes_eq name) (sym e) ∙ is_same name)

other_size : (name : List ℕ) (s : SectionData) → bytes_eq name s.name ≡ false → size_for name s ≡ 0
other_size name s e = ap (λ b. cond b (body_size s.body) 0) e

-- so many words on, and so many more
run_more : (size words all : ℕ) (o : Option ℕ) → size + words ≡ all → option_map (λ a. a + words) (option_map (λ run. run + size) o) ≡ option_map (λ run. run + all) o
run_more size words all None e = refl
run_more size words all (Some run) e = ap Some (let z : run + size + words ≡ run + all = omega (arith, e) in z)

-- the next part after a section of its own name
pub next_own : (ss : List SectionData) (s : SectionData) (places : List Place) (p : Place) (after : PartBase) → HasPlaceFor places ss s p → after.page ≡ (next_part ss p).page → after.base ≡ (next_part ss p).base + body_size s.body
    → after.run ≡ option_map (λ a. a + body_size s.body) (next_part ss p).run → after ≡ next_part (ss ++ s ∷ []) p
next_own ss s places p after h page base run =
    let named : p.name ≡ s.name = found_name s.name places p h.found in
    let more : size_of_sections p.name ss + body_size s.body ≡ size_of_sections p.name (ss ++ s ∷ []) = omega (arith, size_more p.name ss s, own_size p.name s named) in
    let based : p.base + size_of_sections p.name (ss ++ s ∷ []) ≡ p.base + size_of_sections p.name ss + body_size s.body = omega (arith, more) in
    let runs = run_more (size_of_sections p.name ss) (body_size s.body) (size_of_sections p.name (ss ++ s ∷ [])) p.run more in
    λ i. record { page = page i; base = (base ∙ sym based) i; run = (run ∙ runs) i }

-- after a section of another name
next_other : (ss : List SectionData) (s : SectionData) (p : Place) → bytes_eq p.name s.name ≡ false → next_part ss p ≡ next_part (ss ++ s ∷ []) p
next_other ss s p e =
    let same : size_of_sections p.name ss ≡ size_of_sections p.name (ss ++ s ∷ []) = omega (arith, size_more p.name ss s, other_size p.name s e) in
    λ i. record { page = p.page; base = p.base + same i; run = option_map (λ run. run + same i) p.run }

pub next_more : (name : List ℕ) (places : List Place) (ss : List SectionData) (s : SectionData) (p : Place) (old : Option PartBase) (after : PartBase) → HasPlaceFor places ss s p
    → old ≡ option_map (next_part ss) (place_named name places) → after ≡ next_part (ss ++ s ∷ []) p → cond (bytes_eq s.name name) (Some after) old ≡ option_map (next_part (ss ++ s ∷ [])) (place_named name places)
next_more name places ss s p old after h is own = by_test (bytes_eq s.name name) refl where
  others : (o : Option Place) → place_named name places ≡ o → bytes_eq name s.name ≡ false → option_map (next_part ss) o ≡ option_map (next_part (ss ++ s ∷ [])) o
  others None e f = refl
  others (Some q) e f = ap Some (next_other ss s q (ap (λ n. bytes_eq n s.name) (found_name name places q e) ∙ f))

  by_test : (t : Bool) → bytes_eq s.name name ≡ t → cond t (Some after) old ≡ option_map (next_part (ss ++ s ∷ [])) (place_named name places)
  by_test true e = ap Some own ∙ ap (option_map (next_part (ss ++ s ∷ []))) (sym (ap (λ n. place_named n places) (sym (same_name s.name name e)) ∙ h.found))
  by_test false e = is ∙ others (place_named name places) refl (turned name s.name ∙ e)

-- ---- the parts of one module

append_size : (name : List ℕ) (ss ts : List SectionData) → size_of_sections name (ss ++ ts) ≡ size_of_sections name ss + size_of_sections name ts
append_size name ss ts = sum_by-append (size_for name) ss ts

from_zero : (n : ℕ) → 0 + n ≡ n
from_zero n = omega arith

-- what is before a section in its module does not have its name
pub nothing_before : (name : List ℕ) (ss : List SectionData) → ((i : ℕ) (s : SectionData) → slice_get ss i ≡ Some s → bytes_eq name s.name ≡ false) → size_of_sections name ss ≡ 0
nothing_before name [] differ = refl
nothing_before name (s ∷ ss) differ =
    let rest = nothing_before name ss (λ i x h. differ (suc i) x h) in
    sum_by-cons (size_for name) s ss ∙ ap (λ n. n + size_of_sections name ss) (other_size name s (differ 0 s refl)) ∙ from_zero (size_of_sections name ss) ∙ rest

-- an address so many words on, where there is room for more
run_room : (size all words : ℕ) (o : Option ℕ) → all ≡ size → IfSome o (λ run. run + size + words ≤ 65536) → IfSome o (λ run. run + all + words ≤ 65536)
run_room size all words None e h = tt
run_room size all words (Some run) e h = omega (arith, e, h)

-- the place of a section has room for its part
pub place_for : (modules : List Contents) (places : List Place) (number : ℕ) (own : List SectionData) (s : SectionData) (r : HasRoomFor modules places number s) → size_of_sections s.name own ≡ 0
    → HasPlaceFor places (all_sections (take number modules) ++ own) s r.place
place_for modules places number own s r none =
    let base : base_of s.name places ≡ r.place.base = ap (λ (o : Option Place). option_map_or (λ p. p.base) o 0) r.found in
    let before = all_sections (take number modules) in
    let size : size_of_sections s.name (before ++ own) ≡ size_of_sections s.name before = omega (arith, none, append_size s.name before own) in
    record {
      found = r.found;
      within = omega (arith, r.within, base, size);
      runs = run_room (size_of_sections s.name before) (size_of_sections s.name (before ++ own)) (body_size s.body) r.place.run size r.runs;
    }

pub part_is : (modules : List Contents) (places : List Place) (number : ℕ) (own : List SectionData) (s : SectionData) (r : HasRoomFor modules places number s) → size_of_sections s.name own ≡ 0
    → next_part (all_sections (take number modules) ++ own) r.place ≡ part_of modules places number s
part_is modules places number own s r none =
    let base : base_of s.name places ≡ r.place.base = ap (λ (o : Option Place). option_map_or (λ p. p.base) o 0) r.found in
    let page : page_of s.name places ≡ r.place.page = ap (λ (o : Option Place). option_map_or (λ p. p.page) o 0) r.found in
    let run : run_of s.name places ≡ r.place.run = ap (λ (o : Option Place). elim o [ None ↦ None | Some p ↦ p.run ]) r.found in
    let named : r.place.name ≡ s.name = found_name s.name places r.place r.found in
    let before = all_sections (take number modules) in
    let called : size_of_sections r.place.name (before ++ own) ≡ size_of_sections s.name (before ++ own) = ap (λ n. size_of_sections n (before ++ own)) named in
    let size : size_of_sections r.place.name (before ++ own) ≡ size_of_sections s.name before = omega (arith, called, none, append_size s.name before own) in
    λ i. record { page = sym page i; base = sym base i + size i; run = option_map (λ a. a + size i) (sym run i) }

-- ---- a part that is taken

pub own_part : (places : List Place) (ss : List SectionData) (s : SectionData) (p : Place) (part : PartBase) (key : List ℕ) (old : Option PartBase) → HasPlaceFor places ss s p → key ≡ s.name → old ≡ option_map (next_part ss) (place_named key places) → Some part ≡ old
    → part ≡ next_part ss p
own_part places ss s p part key old h called before is =
    let e : Some part ≡ Some (next_part ss p) = is ∙ before ∙ ap (λ n. option_map (next_part ss) (place_named n places)) called ∙ ap (option_map (next_part ss)) h.found in
    cc

pub own_within : (places : List Place) (ss : List SectionData) (s : SectionData) (p : Place) → HasPlaceFor places ss s p → (next_part ss p).base + body_size s.body ≤ 65536
own_within places ss s p h =
    let named : size_of_sections p.name ss ≡ size_of_sections s.name ss = ap (λ n. size_of_sections n ss) (found_name s.name places p h.found) in
    omega (arith, named, h.within)

pub own_run_within : (places : List Place) (ss : List SectionData) (s : SectionData) (p : Place) → HasPlaceFor places ss s p → IfSome (next_part ss p).run (λ a. a + body_size s.body ≤ 65536)
own_run_within places ss s p h = within p.run h.runs where
  within : (o : Option ℕ) → IfSome o (λ run. run + size_of_sections s.name ss + body_size s.body ≤ 65536) → IfSome (option_map (λ run. run + size_of_sections p.name ss) o) (λ a. a + body_size s.body ≤ 65536)
  within None room = tt
  within (Some run) room =
      let named : size_of_sections p.name ss ≡ size_of_sections s.name ss = ap (λ n. size_of_sections n ss) (found_name s.name places p h.found) in
      omega (arith, named, room)

pub never_none : (places : List Place) (ss : List SectionData) (s : SectionData) (p : Place) (key : List ℕ) (old : Option PartBase) → HasPlaceFor places ss s p → key ≡ s.name → old ≡ option_map (next_part ss) (place_named key places) → None ≡ old → ⊥
never_none places ss s p key old h called before is =
    let e : None ≡ Some (next_part ss p) = is ∙ before ∙ ap (λ n. option_map (next_part ss) (place_named n places)) called ∙ ap (option_map (next_part ss)) h.found in
    absurd cc
