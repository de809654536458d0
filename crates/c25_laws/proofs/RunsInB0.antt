-- Run marks that fit, and which of them is found at an address.
use Rattle.std.proofs.Common.{◌≡◌, ℕ, ◌+◌, ◌≤◌, true, ◌&&◌, eqb, leb, List, [], ◌∷◌, map, Option, Some, None, refl, sym, ap, ◌∙◌, subst, arith, inl, inr}
use Rattle.std.specs.Prelude.{find}
use Rattle.std.specs.List.{Contains}
use Rattle.std.specs.List.Sorted.{IsPermutation}
use Rattle.std.specs.Option.{option_map}
use Rattle.std.proofs.lemmas.Bool.{and_parts, eq-eqb, eqb-true, leb-true}
use Rattle.std.proofs.lemmas.List.Sorted.{IsPermutation-sym}
use Rattle.c25_meaning_image.specs.Marks.{load_is_free, run_at, run_fit_from, run_fits_behind, with_loads}
use Rattle.c25_meaning_processor.specs.Statements.{Copied, copied_at, run_mark_of}
use Rattle.c25_meaning_image.specs.declared.mark.Mark.{Mark}
use Rattle.c25_meaning_image.specs.declared.mark.RunMark.{RunMark}
use Rattle.c25_linking_laws.proofs.Members.{found_in, from_map, in_front, in_map, in_permuted, none_found, nothing_in}

-- ---- run marks that fit

-- a run mark that fits runs at or after an address, and its words are below 65,536, where they run and where
-- they are loaded
pub record Lies (low : ℕ) (x : RunMark) : Type 0 where
  pub from : low ≤ x.run
  pub some : 1 ≤ x.size
  pub room : x.run + x.size ≤ 65536
  pub loaded : x.load + x.size ≤ 65536

lies_by : (low : ℕ) (m : RunMark) → run_fits_behind low m ≡ true → Lies low m
lies_by low m h =
    let d = and_parts (leb low m.run && leb 1 m.size && leb m.size 2 && leb (m.run + m.size) 65536) (leb (m.load + m.size) 65536) h in
    let c = and_parts (leb low m.run && leb 1 m.size && leb m.size 2) (leb (m.run + m.size) 65536) d.0 in
    let b = and_parts (leb low m.run && leb 1 m.size) (leb m.size 2) c.0 in
    let a = and_parts (leb low m.run) (leb 1 m.size) b.0 in
    record { from = leb-true low m.run a.0; some = leb-true 1 m.size a.1; room = leb-true (m.run + m.size) 65536 c.1; loaded = leb-true (m.load + m.size) 65536 d.1 }

module _ (marks : List Mark) where
  parts : (low : ℕ) (m : RunMark) (ms : List RunMark) → run_fit_from marks low (m ∷ ms) ≡ true → Lies low m × (run_fit_from marks (m.run + m.size) ms ≡ true)
  parts low m ms h =
      let b = and_parts (run_fits_behind low m && load_is_free (with_loads ms marks) m) (run_fit_from marks (m.run + m.size) ms) h in
      (lies_by low m (and_parts (run_fits_behind low m) (load_is_free (with_loads ms marks) m) b.0).0, b.1)

  pub lies : (low : ℕ) (ms : List RunMark) (x : RunMark) → run_fit_from marks low ms ≡ true → Contains ms x → Lies low x
  lies low [] x h c = absurd (nothing_in x c)
  lies low (m ∷ ms) x h c =
      let f = parts low m ms h in
      elim (in_front m x ms c) [
        | inl same ↦ subst (Lies low) same f.0
        | inr later ↦ let g = lies (m.run + m.size) ms x f.1 later in let from = g.from in let start = (f.0).from in record { from = omega (arith, from, start); some = g.some; room = g.room; loaded = g.loaded }
      ]

  -- two run marks that run at one address are one
  pub one_run : (low : ℕ) (ms : List RunMark) (x y : RunMark) → run_fit_from marks low ms ≡ true → Contains ms x → Contains ms y → x.run ≡ y.run → x ≡ y
  one_run low [] x y h c d e = absurd (nothing_in x c)
  one_run low (m ∷ ms) x y h c d e =
      let f = parts low m ms h in
      elim (in_front m x ms c) [
        | inl p ↦ elim (in_front m y ms d) [
          | inl q ↦ sym p ∙ q
          | inr q ↦ absurd (later (f.0).some (lies (m.run + m.size) ms y f.1 q).from (ap (λ (z : RunMark). z.run) p ∙ e))
        ]
        | inr p ↦ elim (in_front m y ms d) [
          | inl q ↦ absurd (later (f.0).some (lies (m.run + m.size) ms x f.1 p).from (ap (λ (z : RunMark). z.run) q ∙ sym e))
          | inr q ↦ one_run (m.run + m.size) ms x y f.1 p q e
        ]
      ]
    where
      later : {n : ℕ} → 1 ≤ m.size → m.run + m.size ≤ n → m.run ≡ n → ⊥
      later a b c = omega (arith, a, b, c)

-- ---- run marks of statements

module _ (copied : List Copied) (run_marks : List RunMark) (same : IsPermutation (map run_mark_of copied) run_marks) where
  -- a statement has its mark
  pub marked : (c : Copied) → Contains copied c → Contains run_marks (run_mark_of c)
  marked c there = in_permuted (map run_mark_of copied) run_marks (run_mark_of c) same (in_map run_mark_of copied c there)

  said : (m : RunMark) → Contains run_marks m → (c : Copied) × Contains copied c × (run_mark_of c ≡ m)
  said m there = from_map run_mark_of copied m (in_permuted run_marks (map run_mark_of copied) m (IsPermutation-sym (map run_mark_of copied) run_marks same) there)

  module _ (one : (x y : RunMark) → Contains run_marks x → Contains run_marks y → x.run ≡ y.run → x ≡ y) where
    -- the mark that is found is that of the statement that is found
    pub runs_same : (address : ℕ) → run_at run_marks address ≡ option_map run_mark_of (copied_at copied address)
    unfolding run_at copied_at
    runs_same address = by (find (λ m. eqb m.run address) run_marks) (find (λ c. eqb c.run address) copied) refl refl
      where
        by : (o : Option RunMark) (p : Option Copied) → find (λ m. eqb m.run address) run_marks ≡ o → find (λ c. eqb c.run address) copied ≡ p → o ≡ option_map run_mark_of p
        by None None f g = refl
        by None (Some c) f g = let h = found_in (λ (x : Copied). eqb x.run address) copied c g in absurd (none_found (λ (m : RunMark). eqb m.run address) run_marks (run_mark_of c) f (marked c h.0) h.1)
        by (Some m) None f g =
            let h = found_in (λ (x : RunMark). eqb x.run address) run_marks m f in
            let s = said m h.0 in
            absurd (none_found (λ (c : Copied). eqb c.run address) copied s.0 g s.1 (ap (λ (x : RunMark). eqb x.run address) s.2 ∙ h.1))
        by (Some m) (Some c) f g =
            let h = found_in (λ (x : RunMark). eqb x.run address) run_marks m f in
            let k = found_in (λ (x : Copied). eqb x.run address) copied c g in
            ap Some (one m (run_mark_of c) h.0 (marked c k.0) (eqb-true m.run address h.1 ∙ sym (eqb-true c.run address k.1)))

-- a statement that is found is one of them, and runs at the address
pub record RunsAt (copied : List Copied) (address : ℕ) (c : Copied) : Type 0 where
  pub there : Contains copied c
  pub run_is : c.run ≡ address

pub runs_at : (copied : List Copied) (address : ℕ) (c : Copied) → copied_at copied address ≡ Some c → RunsAt copied address c
unfolding copied_at
runs_at copied address c e = let h = found_in (λ (x : Copied). eqb x.run address) copied c e in record { there = h.0; run_is = eqb-true c.run address h.1 }

-- at the address where a statement runs, a statement is found
pub some_runs : (copied : List Copied) (c : Copied) → Contains copied c → (d : Copied) × (copied_at copied c.run ≡ Some d)
unfolding copied_at
some_runs copied c there = by (find (λ x. eqb x.run c.run) copied) refl
  where
    by : (o : Option Copied) → find (λ x. eqb x.run c.run) copied ≡ o → (d : Copied) × (find (λ x. eqb x.run c.run) copied ≡ Some d)
    by None e = absurd (none_found (λ (x : Copied). eqb x.run c.run) copied c e there (eq-eqb c.run c.run refl))
    by (Some d) e = (d, e)
