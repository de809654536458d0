-- Long runs of erased words around addresses of an image.
use Rattle.std.proofs.Common.{◌≡◌, ◌⊎◌, ℕ, zero, suc, ◌+◌, ◌-◌, ◌<◌, ◌≤◌, Bool, true, false, ◌&&◌, nat_lt, nat_le, List, [], ◌∷◌, ◌++◌, length, Some, refl, sym, ap, ◌∙◌, subst, inl, inr, arith, length-append}
use Rattle.std.specs.FinMap as finite
use Rattle.std.specs.List.{slice_get}
use Rattle.std.specs.Ordering.{nat_cmp}
use Rattle.std.proofs.lemmas.Bool.{ltb-true, leb-true}
use Rattle.std.proofs.lemmas.Bool.Decides.{leb_tells}
use Rattle.c25_layout.specs.Blank.{AreBlank, EndAt, IsBlank, IsErased, StandBefore}

both : (a b : Bool) → (a && b) ≡ true → (a ≡ true) × (b ≡ true)
both true b h = (refl, h)
both false b h = absurd (cc h)

module _ (image : finite.FinMap nat_cmp ℕ) (address before end : ℕ) (b : StandBefore image address before) (e : EndAt image address end) where
  -- a run among the erased words around the address
  among : (from blank : ℕ) → from ≤ address → address < from + blank → from + blank ≤ end → address ≤ from + before → IsBlank image blank address
  among from blank begins ends within reach = record {
    from = from;
    begins = begins;
    ends = ends;
    inside = omega (arith, within, e.inside);
    erased = λ k low high. elim (leb_tells address k) [
      | inl h ↦ e.erased k h.1 (omega (arith, high, within))
      | inr h ↦ b.erased k (omega (arith, low, reach)) h.1
    ];
  }

  pub blank_there : (blank : ℕ) → (nat_lt address end && nat_lt 0 blank && nat_le blank (before + (end - address))) ≡ true → IsBlank image blank address
  blank_there blank h =
      let one = both (nat_lt address end && nat_lt 0 blank) (nat_le blank (before + (end - address))) h in
      let two = both (nat_lt address end) (nat_lt 0 blank) one.0 in
      let more = ltb-true address end two.0 in
      let some = ltb-true 0 blank two.1 in
      let enough = leb-true blank (before + (end - address)) one.1 in
      elim (leb_tells blank (before + 1)) [
        | inl h ↦ among (address + 1 - blank) blank (omega (arith, some, h.1, b.room)) (omega (arith, some, h.1, b.room)) (omega (arith, some, h.1, b.room, more)) (omega (arith, some, h.1, b.room))
        | inr h ↦ among (address - before) blank (omega arith) (omega (arith, h.1, b.room)) (omega (arith, enough, b.room, more)) (omega (arith, b.room))
      ]

-- ---- the loop over the addresses

-- the addresses so far are marked, so many erased words stand before the next, and those from it on have an end that is known
pub record IsSoFar (image : finite.FinMap nat_cmp ℕ) (blank : ℕ) (marks : List Bool) (address before end : ℕ) : Type 0 where
  pub blanks : AreBlank image blank marks
  pub count : length marks ≡ address
  pub stand : StandBefore image address before
  pub known : address < end → EndAt image address end

pub none_so_far : (image : finite.FinMap nat_cmp ℕ) (blank : ℕ) → IsSoFar image blank [] 0 0 0
none_so_far image blank = record {
  blanks = λ a is. absurd (cc is);
  count = refl;
  stand = record { room = omega arith; erased = λ a low less. absurd (omega (arith, less)); begun = λ a is. absurd (omega (arith, is)) };
  known = λ less. absurd (omega (arith, less));
}

one_further : (image : finite.FinMap nat_cmp ℕ) (address end : ℕ) → EndAt image address end → address + 1 < end → EndAt image (address + 1) end
one_further image address end e less = record { forward = omega (arith, less); inside = e.inside; erased = λ a low high. e.erased a (omega (arith, low)) high; ended = e.ended }

-- what stands in a list with one item more
old_or_new : (marks : List Bool) (mark : Bool) (k : ℕ) → slice_get (marks ++ mark ∷ []) k ≡ Some true → (slice_get marks k ≡ Some true) ⊎ ((k ≡ length marks) × (mark ≡ true))
old_or_new [] mark zero is = inr (refl, cc is)
old_or_new [] mark (suc k) is = absurd (cc is)
old_or_new (m ∷ marks) mark zero is = inl is
old_or_new (m ∷ marks) mark (suc k) is = elim (old_or_new marks mark k is) [
  | inl h ↦ inl h
  | inr h ↦ inr (ap suc h.0, h.1)
]

pub one_more : (image : finite.FinMap nat_cmp ℕ) (blank : ℕ) (marks new : List Bool) (address before last next : ℕ) (long : Bool) {end : ℕ} → IsSoFar image blank marks address before end → new ≡ marks ++ long ∷ [] → EndAt image address last
    → long ≡ (nat_lt address last && nat_lt 0 blank && nat_le blank (before + (last - address))) → StandBefore image (address + 1) next → IsSoFar image blank new (address + 1) next last
one_more image blank marks new address before last next long so_far same e test stand = record {
  blanks = λ k is. elim (old_or_new marks long k (subst (λ (ms : List Bool). slice_get ms k ≡ Some true) same is)) [
    | inl h ↦ so_far.blanks k h
    | inr h ↦ (let here : address ≡ k = sym so_far.count ∙ sym h.0 in subst (λ (a : ℕ). IsBlank image blank a) here (blank_there image address before last so_far.stand e blank (sym test ∙ h.1)))
  ];
  count = let one = ap (λ (ms : List Bool). length ms) same in let split = length-append marks (long ∷ []) in let before_it = so_far.count in omega (arith, one, split, before_it);
  stand = stand;
  known = λ less. one_further image address last e less;
}

-- ---- one erased word more before an address, or none

pub stand_more : (image : finite.FinMap nat_cmp ℕ) (address before : ℕ) → StandBefore image address before → IsErased image address → StandBefore image (address + 1) (before + 1)
stand_more image address before b is = record {
  room = omega (arith, b.room);
  erased = λ a low less. elim (leb_tells address a) [
    | inl at ↦ (let same : address ≡ a = omega (arith, at.1, less) in subst (λ (k : ℕ). IsErased image k) same is)
    | inr at ↦ b.erased a (omega (arith, low)) at.1
  ];
  begun = λ a far. b.begun a (omega (arith, far));
}

pub stand_none : (image : finite.FinMap nat_cmp ℕ) (address : ℕ) → (IsErased image address → ⊥) → StandBefore image (address + 1) 0
stand_none image address not_there = record {
  room = omega arith;
  erased = λ a low less. absurd (omega (arith, low, less));
  begun = λ a far. let same : a ≡ address = omega (arith, far) in λ is. not_there (subst (λ (k : ℕ). IsErased image k) same is);
}
