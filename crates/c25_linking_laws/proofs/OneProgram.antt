-- Modules and a command have one program at most.
use Rattle.std.proofs.Common.{◌≡◌, ℕ, ◌+◌, ◌≤◌, Bool, true, false, ◌&&◌, leb, List, [], ◌∷◌, map, Option, Some, None, refl, ap, sym, ◌∙◌, subst, arith, inl, inr}
use Rattle.std.specs.FinMap as finite
use Rattle.std.specs.FinMap.{same_map, nat_cmp-IsAntisymmetric}
use Rattle.std.specs.Cmp.{nat_cmp_total}
use Rattle.std.specs.List.{Contains}
use Rattle.std.specs.List.Sorted.{IsPermutation}
use Rattle.std.specs.Ordering.{nat_cmp}
use Rattle.std.proofs.lemmas.Bool.Decides.{nat_tests}
use Rattle.std.proofs.lemmas.List.Sorted.{IsPermutation-sym}
use Rattle.c25_linking_laws.proofs.Members.{behind_in, first_in, in_front, in_permuted, nothing_in}
use Rattle.c25_linking_laws.proofs.OneMap.{placed_once}
use Rattle.c25_meaning_linking.specs.Command.{CommandData}
use Rattle.c25_meaning_linking.specs.GoodMap.{placings_for, ranges_for, requests}
use Rattle.c25_meaning_linking.specs.Linking.{HasLines, HasMarks, HasRunMarks, HasWords, ImageData, IsProgram, map_of}
use Rattle.c25_meaning_image.specs.Marks.{fit_from, fits_behind, load_is_free, run_fit_from, run_fits_behind, with_loads}
use Rattle.c25_meaning_objects.specs.Module.{Contents}
use Rattle.c25_meaning_linking.specs.Place.{Place}
use Rattle.c25_meaning_linking.specs.Words.{LineData, program_lines, program_marks, program_run_marks}
use Rattle.c25_meaning_image.specs.declared.mark.Mark.{Mark}
use Rattle.c25_meaning_image.specs.declared.mark.RunMark.{RunMark}

-- ---- words

words_once : (modules : List Contents) (places : List Place) (page : ℕ) (m n : finite.FinMap nat_cmp ℕ) → HasWords modules places page m → HasWords modules places page n → m ≡ n
words_once modules places page m n has also = same_map nat_cmp_total nat_cmp-IsAntisymmetric m n (λ a. at a (finite.get m a) (finite.get n a) refl refl)
  where
    at : (a : ℕ) (o p : Option ℕ) → finite.get m a ≡ o → finite.get n a ≡ p → finite.get m a ≡ finite.get n a
    at a (Some w) p e f = e ∙ sym ((also a w).1 ((has a w).0 e))
    at a None (Some w) e f = (has a w).1 ((also a w).0 f) ∙ sym f
    at a None None e f = e ∙ sym f

-- ---- marks

both : (a b : Bool) → (a && b) ≡ true → (a ≡ true) × (b ≡ true)
both true b h = (refl, h)
both false b h = absurd cc

front : (low : ℕ) (m : Mark) (ms : List Mark) → fit_from low (m ∷ ms) ≡ true → (low ≤ m.address) × (1 ≤ m.size) × (fit_from (m.address + m.size) ms ≡ true)
front low m ms h =
    let f = both (fits_behind low m) (fit_from (m.address + m.size) ms) h in
    let a = both (leb low m.address && leb 1 m.size && leb m.size 2) (leb (m.address + m.size) 65536) f.0 in
    let b = both (leb low m.address && leb 1 m.size) (leb m.size 2) a.0 in
    let c = both (leb low m.address) (leb 1 m.size) b.0 in
    let begin = c.0 in
    let some = c.1 in
    (grind (arith, nat_tests), grind (arith, nat_tests), f.1)

begins : {A : Type 0} (mark : A → Mark) (low : ℕ) (ms : List A) (x : A) → fit_from low (map mark ms) ≡ true → Contains ms x → low ≤ (mark x).address
begins mark low [] x h c = absurd (nothing_in x c)
begins mark low (m ∷ ms) x h c =
    let f = front low (mark m) (map mark ms) h in
    elim (in_front m x ms c) [
      | inl same ↦ subst (λ y. low ≤ (mark y).address) same f.0
      | inr later ↦ let next = begins mark ((mark m).address + (mark m).size) ms x f.2 later in let from = f.0 in omega (arith, next, from)
    ]

heads : {A : Type 0} (mark : A → Mark) (x y : A) (xs ys : List A) → 1 ≤ (mark x).size → 1 ≤ (mark y).size → fit_from ((mark x).address + (mark x).size) (map mark xs) ≡ true → fit_from ((mark y).address + (mark y).size) (map mark ys) ≡ true
    → Contains (y ∷ ys) x → Contains (x ∷ xs) y → x ≡ y
heads mark x y xs ys some also h k c d =
    elim (in_front y x ys c) [
      | inl same ↦ sym same
      | inr later ↦ elim (in_front x y xs d) [
        | inl same ↦ same
        | inr after ↦ let a = begins mark ((mark y).address + (mark y).size) ys x k later in let b = begins mark ((mark x).address + (mark x).size) xs y h after in absurd (omega (arith, some, also, a, b))
      ]
    ]

behind : {A : Type 0} (mark : A → Mark) (x y : A) (xs ys : List A) (m : A) → 1 ≤ (mark x).size → fit_from ((mark x).address + (mark x).size) (map mark xs) ≡ true → x ≡ y → Contains xs m → Contains (y ∷ ys) m → Contains ys m
behind mark x y xs ys m some h e c d =
    elim (in_front y m ys d) [
      | inl same ↦ let a = begins mark ((mark x).address + (mark x).size) xs m h c in let b = ap (λ z. (mark z).address) (e ∙ same) in absurd (omega (arith, some, a, b))
      | inr later ↦ later
    ]

-- what has marks that ascend and are apart is in one order alone
marked_once : {A : Type 0} (mark : A → Mark) (low high : ℕ) (xs ys : List A) → fit_from low (map mark xs) ≡ true → fit_from high (map mark ys) ≡ true → ((m : A) → Contains xs m → Contains ys m) → ((m : A) → Contains ys m → Contains xs m) → xs ≡ ys
marked_once mark low high [] [] h k there back = refl
marked_once mark low high [] (y ∷ ys) h k there back = absurd (nothing_in y (back y (first_in y ys)))
marked_once mark low high (x ∷ xs) [] h k there back = absurd (nothing_in x (there x (first_in x xs)))
marked_once mark low high (x ∷ xs) (y ∷ ys) h k there back =
    let f = front low (mark x) (map mark xs) h in
    let g = front high (mark y) (map mark ys) k in
    let same = heads mark x y xs ys f.1 g.1 f.2 g.2 (there x (first_in x xs)) (back y (first_in y ys)) in
    let rest = marked_once mark ((mark x).address + (mark x).size) ((mark y).address + (mark y).size) xs ys f.2 g.2
    (λ m c. behind mark x y xs ys m f.1 f.2 same c (there m (behind_in x m xs c)))
    (λ m c. behind mark y x ys xs m g.1 g.2 (sym same) c (back m (behind_in y m ys c))) in
    λ i. same i ∷ rest i

-- lists that each have what one list has, with marks that ascend, are the same
permuted_once : {A : Type 0} (mark : A → Mark) (low : ℕ) (all xs ys : List A) → IsPermutation all xs → IsPermutation all ys → fit_from low (map mark xs) ≡ true → fit_from low (map mark ys) ≡ true → xs ≡ ys
permuted_once mark low all xs ys p q h k = marked_once mark low low xs ys h k (λ m c. in_permuted all ys m q (in_permuted xs all m (IsPermutation-sym all xs p) c)) (λ m c. in_permuted all xs m p (in_permuted ys all m (IsPermutation-sym all ys q) c))

abbrev self : Mark → Mark
self m = m

unmapped : (ms : List Mark) → fit_from 0 ms ≡ true → fit_from 0 (map self ms) ≡ true
unmapped ms h = ap (fit_from 0) (map-self ms) ∙ h where
  map-self : (xs : List Mark) → map self xs ≡ xs
  map-self [] = refl
  map-self (x ∷ xs) = ap (λ ys. x ∷ ys) (map-self xs)

-- where an instruction runs
abbrev run_place : RunMark → Mark
run_place m = record { address = m.run; size = m.size }

-- run marks that run one after the other are marks that ascend, by where they run
runs_ascend : (marks : List Mark) (from : ℕ) (run_marks : List RunMark) → run_fit_from marks from run_marks ≡ true → fit_from from (map run_place run_marks) ≡ true
runs_ascend marks from [] fit = refl
runs_ascend marks from (m ∷ run_marks) fit =
    let b = both (run_fits_behind from m && load_is_free (with_loads run_marks marks) m) (run_fit_from marks (m.run + m.size) run_marks) fit in
    let a = both (run_fits_behind from m) (load_is_free (with_loads run_marks marks) m) b.0 in
    let fits = both (fits_behind from (run_place m)) (leb (m.load + m.size) 65536) a.0 in
    rw (fits.0) (runs_ascend marks (m.run + m.size) run_marks b.1)

-- ---- the program

pub program_once : (modules : List Contents) (command : CommandData) (image other : ImageData) → IsProgram modules command image → IsProgram modules command other → image ≡ other
program_once modules command image other p q =
    let places : q.places ≡ p.places = placed_once (ranges_for command) (requests modules (placings_for command)) q.places p.places q.good p.good in
    let program = words_once modules p.places 0 image.program other.program p.program (subst (λ (ps : List Place). HasWords modules ps 0 other.program) places q.program) in
    let store = words_once modules p.places 1 image.store other.store p.store (subst (λ (ps : List Place). HasWords modules ps 1 other.store) places q.store) in
    let marks_there = subst (λ (ps : List Place). HasMarks modules ps other.marks) places q.marks in
    let marks = permuted_once self 0 (program_marks modules p.places) image.marks other.marks p.marks.same marks_there.same (unmapped image.marks p.marks.ascend) (unmapped other.marks marks_there.ascend) in
    let run_marks_there = subst (λ (ps : List Place). HasRunMarks modules ps other.marks other.run_marks) places q.run_marks in
    let run_marks = permuted_once run_place 0xFF00 (program_run_marks modules p.places) image.run_marks other.run_marks p.run_marks.same run_marks_there.same
    (runs_ascend image.marks 0xFF00 image.run_marks p.run_marks.fit) (runs_ascend other.marks 0xFF00 other.run_marks run_marks_there.fit) in
    let lines_there = subst (λ (ps : List Place). HasLines modules ps other.lines) places q.lines in
    let lines = permuted_once (λ (l : LineData). l.mark) 0 (program_lines modules p.places) image.lines other.lines p.lines.same lines_there.same p.lines.ascend lines_there.ascend in
    let described = p.described ∙ ap (map_of modules command.entry) (sym places) ∙ sym q.described in
    λ i. record { program = program i; store = store i; marks = marks i; run_marks = run_marks i; lines = lines i; described = described i }
