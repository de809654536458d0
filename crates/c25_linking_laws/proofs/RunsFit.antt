-- The run marks of modules at good places fit next to the marks, once they are in the order in which they
-- run.
use Rattle.std.proofs.Common.{◌≡◌, ℕ, suc, ◌+◌, ◌-◌, ◌<◌, ◌≤◌, Bool, true, false, ◌&&◌, cond, nat_le, nat_lt, List, [], ◌∷◌, map, Option, Some, All, refl, ap, subst, arith, ⊎_elim}
use Rattle.std.specs.Prelude.{IfSome}
use Rattle.std.specs.List.{Contains, sum_by}
use Rattle.std.specs.List.Sorted.{IsNonDecreasingBy, IsPermutation}
use Rattle.std.specs.Str.{bytes_eq}
use Rattle.std.proofs.lemmas.Bool.{and_from, cases_lt}
use Rattle.std.proofs.lemmas.Bool.Decides.{nat_tests}
use Rattle.std.proofs.lemmas.List.Elements.{All-contains, All-head, Contains-append_cases}
use Rattle.std.proofs.lemmas.List.Folds.{list_any_none}
use Rattle.std.proofs.lemmas.List.Sorted.{IsPermutation-sym, sum_by-IsPermutation}
use Rattle.std.proofs.lemmas.List.Sums.{get_or-le-sum_by, sum_by-cons}
use Rattle.c25_meaning_linking.specs.Command.{CommandData, IsCommand, Pairwise}
use Rattle.c25_meaning_image.specs.Marks.{is_code, load_is_free, load_mark, run_fit_from, run_fits_behind, with_loads}
use Rattle.c25_meaning_image.specs.declared.mark.Mark.{Mark}
use Rattle.c25_meaning_image.specs.declared.mark.RunMark.{RunMark}
use Rattle.c25_meaning_linking.specs.Linking.{HasMarks, HasRunMarks}
use Rattle.c25_meaning_linking.specs.Words.{program_marks, program_run_marks}
use Rattle.c25_meaning_objects.specs.Module.{Contents, IsModule}
use Rattle.c25_meaning_linking.specs.GoodMap.{IsGoodMap}
use Rattle.c25_meaning_linking.specs.Place.{Covers, Place}
use Rattle.c25_linking_laws.proofs.Copied.{RunsApart, all_apart, copy_of, loads_apart, loads_free}
use Rattle.c25_linking_laws.proofs.Members.{behind_in, first_in, from_map, in_permuted}
use Rattle.c25_linking_laws.proofs.Named.{found_holds}
use Rattle.c25_linking_laws.proofs.Pairs.{all_there}
use Rattle.c25_linking_laws.proofs.Placed.{IsGoodPlace, IsInB0, good_places}

-- ---- what runs apart does so in any order

-- whether an instruction runs at a word
abbrev is_over : ℕ → RunMark → Bool
is_over word m = nat_le m.run word && nat_lt word (m.run + m.size)

-- 1 where a test holds, else 0
abbrev once_if : Bool → ℕ
once_if b = cond b 1 0

-- 1 where an instruction runs at a word, else 0
abbrev over : ℕ → RunMark → ℕ
over word m = once_if (is_over word m)

covers : (word : ℕ) (m : RunMark) → is_over word m ≡ true → Covers m.run m.size word
covers word m h = record { from = grind (arith, nat_tests, h); upto = grind (arith, nat_tests, h) }

over_one : (word : ℕ) (m : RunMark) → m.run ≤ word → word < m.run + m.size → over word m ≡ 1
over_one word m from upto = grind (arith, nat_tests, from, upto)

over_none : (word : ℕ) (m : RunMark) → (Covers m.run m.size word → ⊥) → over word m ≡ 0
over_none word m h = by_test (is_over word m) refl where
  by_test : (t : Bool) → is_over word m ≡ t → once_if t ≡ 0
  by_test true e = absurd (h (covers word m e))
  by_test false e = refl

none_over : (word : ℕ) (ms : List RunMark) → ((m : RunMark) → Contains ms m → Covers m.run m.size word → ⊥) → sum_by (over word) ms ≡ 0
none_over word [] h = refl
none_over word (m ∷ ms) h =
    omega (arith, sum_by-cons (over word) m ms, over_none word m (h m (first_in m ms)), none_over word ms (λ n c. h n (behind_in m n ms c)))

once_over : (word : ℕ) (ms : List RunMark) → Pairwise RunsApart ms → sum_by (over word) ms ≤ 1
once_over word [] pairs = omega arith
once_over word (m ∷ ms) pairs = by_test (is_over word m) refl (once_over word ms pairs.1) where
  by_test : (t : Bool) → is_over word m ≡ t → sum_by (over word) ms ≤ 1 → sum_by (over word) (m ∷ ms) ≤ 1
  by_test true e later =
      let others = none_over word ms (λ n c there. All-contains (RunsApart m) ms n pairs.0 c word (covers word m e) there) in
      let here : over word m ≡ 1 = ap once_if e in
      omega (arith, sum_by-cons (over word) m ms, here, others)
  by_test false e later =
      let here : over word m ≡ 0 = ap once_if e in
      omega (arith, sum_by-cons (over word) m ms, here, later)

-- ---- in the order in which they run each ends before the next

-- one ends before the other begins
abbrev RunsBefore : RunMark → RunMark → Type 0
RunsBefore m n = m.run + m.size ≤ n.run

among_over : (word : ℕ) (ms : List RunMark) (n : RunMark) → Contains ms n → over word n ≤ sum_by (over word) ms
among_over word ms n c = omega (arith, ap (over word) c.2, get_or-le-sum_by (over word) ms c.0 n c.1)

ends : (m n : RunMark) (ms : List RunMark) → Contains ms n → 1 ≤ n.size → m.run ≤ n.run → sum_by (over n.run) (m ∷ ms) ≤ 1 → RunsBefore m n
ends m n ms c some le once =
    ⊎_elim (λ lt.
    let here = over_one n.run m le lt in
    let there = over_one n.run n (omega arith) (omega (arith, some)) in
    absurd (omega (arith, sum_by-cons (over n.run) m ms, here, there, among_over n.run ms n c, once)))
    (λ ge. ge) (cases_lt n.run (m.run + m.size))

in_order : (m n : RunMark) (ms : List RunMark) → IsNonDecreasingBy (λ x. x.run) (m ∷ ms) → Contains ms n → m.run ≤ n.run
in_order m n ms order c = subst (λ (x : RunMark). m.run ≤ x.run) c.2 (order 0 (suc c.0) n (omega arith) (let l = c.1 in omega (arith, l)))

sorted_pairs : (ms : List RunMark) → ((m : RunMark) → Contains ms m → 1 ≤ m.size) → ((word : ℕ) → sum_by (over word) ms ≤ 1) → IsNonDecreasingBy (λ m. m.run) ms → Pairwise RunsBefore ms
sorted_pairs [] some once order = tt
sorted_pairs (m ∷ ms) some once order = (
  all_there (RunsBefore m) ms (λ n c. ends m n ms c (some n (behind_in m n ms c)) (in_order m n ms order c) (once n.run)),
  sorted_pairs ms (λ n c. some n (behind_in m n ms c)) (λ word. omega (arith, once word, sum_by-cons (over word) m ms)) (λ i j d le lt. order (suc i) (suc j) d (omega (arith, le)) (omega (arith, lt))),
)

-- ---- run marks fit

-- the words of a run mark are words of block B0 and of program memory
record IsSmallRun (a : RunMark) : Type 0 where
  from : 0xFF00 ≤ a.run
  some : 1 ≤ a.size
  few : a.size ≤ 2
  run_end : a.run + a.size ≤ 65536
  load_end : a.load + a.size ≤ 65536

-- the words of a run mark, where it is loaded, are not those of another mark
abbrev LoadsApart : RunMark → Mark → Type 0
LoadsApart a b = (word : ℕ) → Covers a.load a.size word → Covers b.address b.size word → ⊥

not_inside : (b : Bool) → (b ≡ true → ⊥) → b ≡ false
not_inside true h = absurd (h refl)
not_inside false h = refl

no_code : (a : RunMark) (ms : List Mark) (word : ℕ) → All (LoadsApart a) ms → Covers a.load a.size word → is_code ms word ≡ false
unfolding is_code
no_code a ms word apart here =
    list_any_none (λ (b : Mark). nat_le b.address word && nat_lt word (b.address + b.size)) ms
    (λ k d lt. not_inside _ (λ h. apart k d lt word here (record { from = grind (arith, nat_tests, h); upto = grind (arith, nat_tests, h) })))

free : (a : RunMark) (ms : List Mark) → IsSmallRun a → All (LoadsApart a) ms → load_is_free ms a ≡ true
free a ms small apart =
    let some = small.some in
    let first = no_code a ms a.load apart (record { from = omega arith; upto = omega (arith, some) }) in
    let last = no_code a ms (a.load + a.size - 1) apart (record { from = omega (arith, some); upto = omega (arith, some) }) in
    rw (first, last) refl

fits : (from : ℕ) (a : RunMark) → from ≤ a.run → IsSmallRun a → run_fits_behind from a ≡ true
fits from a le s = grind (arith, nat_tests, s.some, s.few, s.run_end, s.load_end)

all_fit : (marks : List Mark) (from : ℕ) (ms : List RunMark) → All (λ a. from ≤ a.run) ms → Pairwise RunsBefore ms → ((a : RunMark) → Contains ms a → IsSmallRun a)
    → ((a b : RunMark) → Contains ms a → Contains ms b → RunsBefore a b → LoadsApart a (load_mark b)) → ((a : RunMark) (b : Mark) → Contains ms a → Contains marks b → LoadsApart a b) → run_fit_from marks from ms ≡ true
all_fit marks from [] behind pairs small loads others = refl
all_fit marks from (a ∷ ms) behind pairs small loads others =
    let here = first_in a ms in
    let later = all_there (LoadsApart a) (with_loads ms marks) (λ b c.
    ⊎_elim (λ copied.
    let image = from_map load_mark ms b copied in
    subst (LoadsApart a) image.2 (loads a image.0 here (behind_in a image.0 ms image.1) (All-contains (RunsBefore a) ms image.0 pairs.0 image.1)))
    (λ stays. others a b here stays) (Contains-append_cases (map load_mark ms) marks b c)) in
    let head = fits from a (All-head (λ (x : RunMark). from ≤ x.run) a ms behind) (small a here) in
    let open_ = free a (with_loads ms marks) (small a here) later in
    let rest = all_fit marks (a.run + a.size) ms pairs.0 pairs.1 (λ b c. small b (behind_in a b ms c)) (λ b d c e. loads b d (behind_in a b ms c) (behind_in a d ms e)) (λ b d c. others b d (behind_in a b ms c)) in
    and_from (run_fits_behind from a && load_is_free (with_loads ms marks) a) (run_fit_from marks (a.run + a.size) ms) (and_from (run_fits_behind from a) (load_is_free (with_loads ms marks) a) head open_) rest

-- ---- the run marks of a program

in_b0 : (size run : ℕ) (o : Option ℕ) → o ≡ Some run → IfSome o (IsInB0 size) → IsInB0 size run
in_b0 size run o e h = subst (λ p. IfSome p (IsInB0 size)) e h

small_run : (modules : List Contents) (command : CommandData) (places : List Place) → All IsModule modules → IsCommand command → IsGoodMap modules command places → (a : RunMark) → Contains (program_run_marks modules places) a → IsSmallRun a
small_run modules command places are is good a c =
    let p = copy_of modules command places are good a c in
    let on = p.copy.on in
    let there = on.loaded.there in
    let place = found_holds IsGoodPlace (λ (q : Place). bytes_eq there.section.name q.name) places on.place (good_places modules command places are is good) on.found in
    let b0 = in_b0 on.place.size on.run on.place.run on.run_is place.run in
    subst IsSmallRun p.copy.same (record {
      from = omega (arith, b0.from, on.run_base);
      some = there.some;
      few = there.few;
      run_end = omega (arith, b0.upto, on.run_base, on.room);
      load_end = omega (arith, place.last, on.load_base, on.room);
    })

pub has_run_marks : (modules : List Contents) (command : CommandData) (places : List Place) → All IsModule modules → IsCommand command → IsGoodMap modules command places
    → (marks : List Mark) (run_marks : List RunMark) → HasMarks modules places marks → IsPermutation (program_run_marks modules places) run_marks → IsNonDecreasingBy (λ m. m.run) run_marks → HasRunMarks modules places marks run_marks
has_run_marks modules command places are is good marks run_marks has same order =
    let all = program_run_marks modules places in
    let back : (a : RunMark) → Contains run_marks a → Contains all a = λ a c. in_permuted run_marks all a (IsPermutation-sym all run_marks same) c in
    let marks_back : (b : Mark) → Contains marks b → Contains (program_marks modules places) b = λ b c. in_permuted marks (program_marks modules places) b (IsPermutation-sym (program_marks modules places) marks has.same) c in
    let small : (a : RunMark) → Contains run_marks a → IsSmallRun a = λ a c. small_run modules command places are is good a (back a c) in
    let once : (word : ℕ) → sum_by (over word) run_marks ≤ 1 = λ word. omega (arith, sum_by-IsPermutation (over word) all run_marks same, once_over word all (all_apart modules command places are good)) in
    record {
      same = same;
      fit = all_fit marks 0xFF00 run_marks (all_there (λ (a : RunMark). 0xFF00 ≤ a.run) run_marks (λ a c. (small a c).from)) (sorted_pairs run_marks (λ a c. (small a c).some) once order) small
          (λ a b c d before. loads_apart modules command places are good a b (back a c) (back b d) before)
          (λ a b c d. loads_free modules command places are good a b (back a c) (marks_back b d));
    }
