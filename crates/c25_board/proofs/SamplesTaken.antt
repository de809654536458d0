-- What a port has left, and what taking its next sample leaves.
use Rattle.std.proofs.Common.{◌≡◌, ◌≢◌, ◌∙◌, sym, subst, ap, refl, ℕ, suc, ◌+◌, ◌-◌, ◌<◌, ◌≤◌, ◌==◌, arith, Bool, true, false, List, [], ◌∷◌, length, drop, inl, inr, nat_le, get_or-set_same, get_or-set_other, if◌then◌else◌, ⊎_elim}
use Rattle.std.specs.Prelude.{slice_index, slice_set}
use Rattle.std.proofs.lemmas.Bool.{cases_Bool, cases_lt, eqb-true, leb-true, leb-false, le-leb}
use Rattle.std.proofs.lemmas.Bool.Decides.{eqb_tells}
use Rattle.std.proofs.Math.Seq.{drop-nil}
use mathlib.Core.Path.{fun_ext}
use Rattle.c25_meaning_processor.specs.State.{taken}
use Rattle.c25_meaning_processor.specs.declared.sample.Sample.{Sample}
use Rattle.c25_meaning_processor.specs.Samples.{samples_at}
use Rattle.c25_board.specs.SamplesLeft.{left_from, HavePorts}

-- before the first is taken all are left
pub all_left : (next : List ℕ) (place : ℕ) (samples : List Sample) → ((port : ℕ) → slice_index next port ≡ 0) → left_from next place samples ≡ samples
all_left next place [] none = refl
all_left next place (s ∷ samples) none =
    rw (none s.port, le-leb 0 place (omega arith)) (ap (λ (rest : List Sample). s ∷ rest) (all_left next (place + 1) samples none))

at_same : (s : Sample) (rest : List Sample) (port : ℕ) → (s.port == port) ≡ true → samples_at (s ∷ rest) port ≡ s.word ∷ samples_at rest port
at_same s rest port h = rw h refl

at_other : (s : Sample) (rest : List Sample) (port : ℕ) → (s.port == port) ≡ false → samples_at (s ∷ rest) port ≡ samples_at rest port
at_other s rest port h = rw h refl

from_here : (n place : ℕ) (samples : List Sample) → n ≤ place → drop (n - place) samples ≡ samples
from_here n place samples h = let e : n - place ≡ 0 = omega arith in ap (λ (k : ℕ). drop k samples) e

from_later : (n place : ℕ) (s : Sample) (samples : List Sample) → place < n → drop (n - place) (s ∷ samples) ≡ drop (n - (place + 1)) samples
from_later n place s samples h = let e : n - place ≡ suc (n - (place + 1)) = omega arith in ap (λ (k : ℕ). drop k (s ∷ samples)) e

-- a sample of another port is passed over
past_other : (n port place : ℕ) (s : Sample) (samples : List Sample) → (s.port == port) ≡ false
    → samples_at (drop (n - (place + 1)) samples) port ≡ samples_at (drop (n - place) (s ∷ samples)) port
past_other n port place s samples other =
    ⊎_elim
    (λ later. sym (ap (λ (l : List Sample). samples_at l port) (from_later n place s samples later)))
    (λ here. ap (λ (l : List Sample). samples_at l port) (from_here n (place + 1) samples (omega arith)) ∙ sym (at_other s samples port other) ∙ sym (ap (λ (l : List Sample). samples_at l port) (from_here n place (s ∷ samples) here)))
    (cases_lt place n)

-- what a port has left of samples from a place on
pub left_at : (next : List ℕ) (port place : ℕ) (samples : List Sample) → samples_at (left_from next place samples) port ≡ samples_at (drop (slice_index next port - place) samples) port
left_at next port place [] = sym (ap (λ (l : List Sample). samples_at l port) (drop-nil (slice_index next port - place)))
left_at next port place (s ∷ samples) =
    let n = slice_index next port in
    let rest = left_from next (place + 1) samples in
    let more = left_at next port (place + 1) samples in
    let step : (b : Bool) → nat_le (slice_index next s.port) place ≡ b → left_from next place (s ∷ samples) ≡ (if b then s ∷ rest else rest) =
    λ b h. ap (λ (t : Bool). if t then s ∷ rest else rest) h in
    elim (cases_Bool (nat_le (slice_index next s.port) place)) [
      | inl left ↦
          ap (λ (l : List Sample). samples_at l port) (step true left)
          ∙ elim (cases_Bool (s.port == port)) [
            | inl same ↦
                let e = ap (λ (p : ℕ). slice_index next p) (eqb-true s.port port same) in
                let low = leb-true (slice_index next s.port) place left in
                at_same s rest port same
                ∙ ap (λ (ws : List ℕ). s.word ∷ ws) (more ∙ ap (λ (l : List Sample). samples_at l port) (from_here n (place + 1) samples (omega (arith, e, low))))
                ∙ sym (at_same s samples port same) ∙ sym (ap (λ (l : List Sample). samples_at l port) (from_here n place (s ∷ samples) (omega (arith, e, low))))
            | inr other ↦ at_other s rest port other ∙ more ∙ past_other n port place s samples other
          ]
      | inr gone ↦
          ap (λ (l : List Sample). samples_at l port) (step false gone) ∙ more
          ∙ elim (cases_Bool (s.port == port)) [
            | inl same ↦
                let e = ap (λ (p : ℕ). slice_index next p) (eqb-true s.port port same) in
                sym (ap (λ (l : List Sample). samples_at l port) (from_later n place s samples (omega (arith, e, leb-false (slice_index next s.port) place gone))))
            | inr other ↦ past_other n port place s samples other
          ]
    ]

-- what a port has left
pub left_of : (next : List ℕ) (port : ℕ) (samples : List Sample) → samples_at (left_from next 0 samples) port ≡ samples_at (drop (slice_index next port) samples) port
left_of next port samples =
    let e : slice_index next port - 0 ≡ slice_index next port = omega arith in
    left_at next port 0 samples ∙ ap (λ (k : ℕ). samples_at (drop k samples) port) e

is_not : (a b : ℕ) → (a ≡ b → ⊥) → (a == b) ≡ false
is_not a b h = elim (eqb_tells a b) [ inl p ↦ absurd (h p.1) | inr q ↦ q.0 ]

-- a number that is not a port's has no samples
pub none_left : (next : List ℕ) (port place : ℕ) (samples : List Sample) → 16 ≤ port → HavePorts samples → samples_at (left_from next place samples) port ≡ []
none_left next port place [] far have = refl
none_left next port place (s ∷ samples) far have =
    let low = have.0 in
    let rest = left_from next (place + 1) samples in
    let more = none_left next port (place + 1) samples far have.1 in
    elim (nat_le (slice_index next s.port) place) as (λ b. samples_at (if b then s ∷ rest else rest) port ≡ []) [
      | true ↦ at_other s rest port (is_not s.port port (λ e. omega (arith, e, far, low))) ∙ more
      | false ↦ more
    ]

-- one port's place moved on takes its sample, and leaves the others'
module _ (next : List ℕ) (port place word : ℕ) (samples : List Sample) (in_range : port < length next) (found : samples_at (drop (slice_index next port) samples) port ≡ word ∷ samples_at (drop (place + 1) samples) port) where
  of_port : samples_at (left_from (slice_set next port (place + 1)) 0 samples) port ≡ drop 1 (samples_at (left_from next 0 samples) port)
  of_port =
      left_of (slice_set next port (place + 1)) port samples ∙ ap (λ (k : ℕ). samples_at (drop k samples) port) (get_or-set_same next port (place + 1) 0 in_range)
      ∙ sym (ap (λ (ws : List ℕ). drop 1 ws) (left_of next port samples ∙ found))

  of_other : (q : ℕ) → (q ≡ port → ⊥) → samples_at (left_from (slice_set next port (place + 1)) 0 samples) q ≡ samples_at (left_from next 0 samples) q
  of_other q ne =
      let differ : q ≢ port = ne in
      let kept : slice_index (slice_set next port (place + 1)) q ≡ slice_index next q = rw get_or-set_other refl in
      left_of (slice_set next port (place + 1)) q samples ∙ ap (λ (k : ℕ). samples_at (drop k samples) q) kept ∙ sym (left_of next q samples)

  pub taken_at : samples_at (left_from (slice_set next port (place + 1)) 0 samples) ≡ taken (samples_at (left_from next 0 samples)) port
  unfolding taken
  taken_at =
      fun_ext (λ q. elim (eqb_tells q port) [
        | inl same ↦ subst (λ (p : ℕ). samples_at (left_from (slice_set next port (place + 1)) 0 samples) p ≡ drop 1 (samples_at (left_from next 0 samples) p)) (sym same.1) of_port
            ∙ sym (ap (λ (b : Bool). if b then drop 1 (samples_at (left_from next 0 samples) q) else samples_at (left_from next 0 samples) q) same.0)
        | inr other ↦ of_other q other.1 ∙ sym (ap (λ (b : Bool). if b then drop 1 (samples_at (left_from next 0 samples) q) else samples_at (left_from next 0 samples) q) other.0)
      ])

-- the same of samples that are seen as those left, and of an index that is the port
module _ (now items given : List Sample) (next : List ℕ) (port index : ℕ) (view : left_from next 0 items ≡ now) (same : given ≡ items) (is_port : index ≡ port) where
  -- what the port has left comes after its index
  pub has_left : samples_at now port ≡ samples_at (drop (slice_index next index) given) port
  has_left =
      ap (λ (l : List Sample). samples_at l port) (sym view) ∙ left_of next port items
      ∙ ap (λ (i : ℕ). samples_at (drop (slice_index next i) items) port) (sym is_port)
      ∙ ap (λ (l : List Sample). samples_at (drop (slice_index next index) l) port) (sym same)

  -- its sample is taken where its place moves on
  pub takes : (place word : ℕ) → port < length next → samples_at (drop (slice_index next index) given) port ≡ word ∷ samples_at (drop (place + 1) given) port
      → samples_at (left_from (slice_set next index (place + 1)) 0 items) ≡ taken (samples_at now) port
  takes place word in_range found =
      let there : samples_at (drop (slice_index next port) items) port ≡ word ∷ samples_at (drop (place + 1) items) port =
      ap (λ (i : ℕ). samples_at (drop (slice_index next i) items) port) (sym is_port)
      ∙ ap (λ (l : List Sample). samples_at (drop (slice_index next index) l) port) (sym same) ∙ found
      ∙ ap (λ (l : List Sample). word ∷ samples_at (drop (place + 1) l) port) same in
      ap (λ (i : ℕ). samples_at (left_from (slice_set next i (place + 1)) 0 items)) is_port
      ∙ taken_at next port place word items in_range there ∙ ap (λ (l : List Sample). taken (samples_at l) port) view
