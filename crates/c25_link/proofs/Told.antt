-- The lines of a program's instructions: their marks ascend and are apart, as all marks do.
use Rattle.std.proofs.Common.{◌≡◌, ℕ, zero, suc, ◌+◌, ◌<◌, ◌≤◌, Bool, true, false, ◌&&◌, cond, eqb, eqb-true, leb, ltb, List, [], ◌∷◌, ◌++◌, length, get_or, take, map, filter, find, Option, Some, None, unwrap_or, Ok, Err, refl, sym, ap, subst, ◌∙◌, arith, inl, inr}
use Rattle.std.specs.Borrow.{Bor}
use Rattle.std.specs.List.{slice_get, zip}
use Rattle.std.specs.List.Sorted.{IsPermutation, IsNonDecreasingBy, IsBinarySearchResult}
use Rattle.std.specs.Option.{option_map}
use Rattle.std.specs.Ordering.{MatchOrdering, nat_cmp, ordering_index}
use Rattle.std.specs.Slice.{IsItemAt}
use Rattle.std.specs.declared.cmp.Ordering.{Ordering}
use Rattle.std.specs.declared.cmp.Ordering.TheVariants.{Less, Equal, Greater}
use Rattle.std.proofs.lemmas.Bool.{cases_lt}
use Rattle.std.proofs.lemmas.Bool.Decides.{nat_tests}
use Rattle.std.proofs.lemmas.List.{map-append, get_or-map, length-map, take_all}
use Rattle.std.proofs.lemmas.List.Sorted.{IsPermutation-map}
use Rattle.std.proofs.lemmas.Option.{slice_get-map, slice_get_read, slice_get_within, get_or_from_slice_get}
use Rattle.std.proofs.lemmas.Slice.Zip.{get_or-zip, length-zip}
use Rattle.c25_meaning_image.specs.Marks.{fit_from, fits_behind}
use Rattle.c25_meaning_image.specs.declared.mark.Mark.{Mark}
use Rattle.c25_meaning_linking.specs.Linking.{HasLines, line_at}
use Rattle.c25_meaning_linking.specs.Words.{LineData, file_name, placed_mark, placed_line, is_on_program, is_line_on_program, module_lines, program_lines}
use Rattle.c25_meaning_objects.specs.Module.{Contents, each_fits, mark_fits}
use Rattle.c25_meaning_objects.specs.declared.object.LineMark.{LineMark}
use Rattle.c25_meaning_objects.specs.declared.object.ModuleMark.{ModuleMark}
use Rattle.c25_meaning_linking.specs.Place.{Place, by_modules}
use Rattle.c25_link.specs.Bases.{HasRoom}
use Rattle.c25_link.specs.Layout.{AreModules, HasOnePart}
use Rattle.c25_link.specs.Lines.{file_at, line_data, line_place, module_places, all_places}
use Rattle.c25_link.specs.declared.lines.LinePlace.{LinePlace}
use Rattle.c25_link.proofs.Marked.{Rising, rising, marks_of_module, marks_in, sorted_ascend}

-- ---- the marks that have lines

-- the mark of a pair
abbrev pub mark_in : ModuleMark × LineMark → ModuleMark
mark_in t = t.0

-- the marks of a module that have a line
abbrev pub told_marks : Contents → List ModuleMark
told_marks m = map mark_in (zip m.marks m.lines)

both : (a b : Bool) → (a && b) ≡ true → (a ≡ true) × (b ≡ true)
both true b h = (refl, h)
both false b h = absurd cc

both_hold : (a b : Bool) → a ≡ true → b ≡ true → (a && b) ≡ true
both_hold a b p q = ap (λ t. t && b) p ∙ q

-- the first items fit as all do
firsts_fit : {A B : Type 0} (fits : List A → A → Bool) (before xs : List A) (ys : List B) → each_fits fits before xs ≡ true → each_fits fits before (map (λ (t : A × B). t.0) (zip xs ys)) ≡ true
firsts_fit fits before [] ys h = refl
firsts_fit fits before (x ∷ xs) [] h = refl
firsts_fit {A = A} {B = B} fits before (x ∷ xs) (y ∷ ys) h =
    let g = both (fits before x) (each_fits fits (before ++ x ∷ []) xs) h in
    both_hold (fits before x) (each_fits fits (before ++ x ∷ []) (map (λ (t : A × B). t.0) (zip xs ys))) g.0 (firsts_fit fits (before ++ x ∷ []) xs ys g.1)

told_rise : (modules : List Contents) → AreModules modules → (k : ℕ) (m : Contents) → slice_get modules k ≡ Some m → Rising m.sections (told_marks m)
told_rise modules are k m is = rising m.sections (told_marks m) (firsts_fit (mark_fits m.sections) [] m.marks m.lines (marks_of_module m (are k m is).lists))

-- the marks of lines
marks_of_lines : (modules : List Contents) (places : List Place) (number : ℕ) (m : Contents) (ts : List (ModuleMark × LineMark))
    → map (λ (l : LineData). l.mark) (map (placed_line modules places number m) (filter (is_line_on_program places m) ts)) ≡ map (placed_mark modules places number m) (filter (is_on_program places m) (map mark_in ts))
marks_of_lines modules places number m [] = refl
marks_of_lines modules places number m (t ∷ ts) = by_test (marks_of_lines modules places number m ts) (is_on_program places m t.0) where
  by_test : map (λ (l : LineData). l.mark) (map (placed_line modules places number m) (filter (is_line_on_program places m) ts)) ≡ map (placed_mark modules places number m) (filter (is_on_program places m) (map mark_in ts))
      → (b : Bool) → map (λ (l : LineData). l.mark) (map (placed_line modules places number m) (cond b (t ∷ filter (is_line_on_program places m) ts) (filter (is_line_on_program places m) ts)))
      ≡ map (placed_mark modules places number m) (cond b (t.0 ∷ filter (is_on_program places m) (map mark_in ts)) (filter (is_on_program places m) (map mark_in ts)))
  by_test rest true = ap (λ ms. placed_mark modules places number m t.0 ∷ ms) rest
  by_test rest false = rest

marks_by_modules : (modules : List Contents) (places : List Place) (number : ℕ) (rest : List Contents) → map (λ (l : LineData). l.mark) (by_modules (module_lines modules places) number rest) ≡ by_modules (marks_in modules places told_marks) number rest
marks_by_modules modules places number [] = refl
marks_by_modules modules places number (m ∷ rest) =
    map-append (λ (l : LineData). l.mark) (module_lines modules places number m) (by_modules (module_lines modules places) (number + 1) rest)
    ∙ ap (λ ms. ms ++ map (λ (l : LineData). l.mark) (by_modules (module_lines modules places) (number + 1) rest)) (marks_of_lines modules places number m (zip m.marks m.lines))
    ∙ ap (λ ms. marks_in modules places told_marks number m ++ ms) (marks_by_modules modules places (number + 1) rest)

-- ---- the names of files

-- an instruction of a module with its line
named : (files : List (List (List ℕ))) (modules : List Contents) (places : List Place) (number : ℕ) (m : Contents) (t : ModuleMark × LineMark) → slice_get files number ≡ Some m.files → line_data files (line_place modules places number m t) ≡ placed_line modules places number m t
named files modules places number m t is =
    let file : file_at files number t.1.file ≡ file_name m t.1.file = ap (λ (o : Option (List (List ℕ))). unwrap_or (slice_get (unwrap_or o []) t.1.file) []) is in
    λ i. record { mark = placed_mark modules places number m t.0; file = file i; line = t.1.line }

named_all : (files : List (List (List ℕ))) (modules : List Contents) (places : List Place) (number : ℕ) (m : Contents) (ts : List (ModuleMark × LineMark)) → slice_get files number ≡ Some m.files
    → map (line_data files) (map (line_place modules places number m) ts) ≡ map (placed_line modules places number m) ts
named_all files modules places number m [] is = refl
named_all files modules places number m (t ∷ ts) is =
    let first = named files modules places number m t is in
    let rest = named_all files modules places number m ts is in
    λ i. first i ∷ rest i

named_by_modules : (files : List (List (List ℕ))) (modules : List Contents) (places : List Place) (number : ℕ) (rest : List Contents) → ((k : ℕ) (m : Contents) → slice_get rest k ≡ Some m → slice_get files (number + k) ≡ Some m.files)
    → map (line_data files) (by_modules (module_places modules places) number rest) ≡ by_modules (module_lines modules places) number rest
named_by_modules files modules places number [] at = refl
named_by_modules files modules places number (m ∷ rest) at =
    let same : number + 0 ≡ number = omega arith in
    let is : slice_get files number ≡ Some m.files = subst (λ n. slice_get files n ≡ Some m.files) same (at 0 m refl) in
    map-append (line_data files) (module_places modules places number m) (by_modules (module_places modules places) (number + 1) rest)
    ∙ ap (λ ls. ls ++ map (line_data files) (by_modules (module_places modules places) (number + 1) rest)) (named_all files modules places number m (filter (is_line_on_program places m) (zip m.marks m.lines)) is)
    ∙ ap (λ ls. module_lines modules places number m ++ ls)
    (named_by_modules files modules places (number + 1) rest (λ k o h. let z : number + suc k ≡ (number + 1) + k = omega arith in subst (λ n. slice_get files n ≡ Some o.files) z (at (suc k) o h)))

files_at : (modules : List Contents) (k : ℕ) (m : Contents) → slice_get modules k ≡ Some m → slice_get (map (λ (c : Contents). c.files) modules) k ≡ Some m.files
files_at modules k m h = slice_get-map (λ (c : Contents). c.files) modules k ∙ ap (option_map (λ (c : Contents). c.files)) h

all_named : (modules : List Contents) (places : List Place) → map (line_data (map (λ (c : Contents). c.files) modules)) (all_places modules places) ≡ program_lines modules places
all_named modules places = named_by_modules (map (λ (c : Contents). c.files) modules) modules places 0 modules (λ k m h. let z : k ≡ 0 + k = omega arith in subst (λ n. slice_get (map (λ (c : Contents). c.files) modules) n ≡ Some m.files) z (files_at modules k m h))

-- ---- lines in order

-- what an index past the end would read
abbrev nowhere : Mark → LinePlace
nowhere m = record { mark = m; number = 0; file = 0; line = 0 }

marks_order : (files : List (List (List ℕ))) (sorted : List LinePlace) → IsNonDecreasingBy (λ l. l.mark.address) sorted → IsNonDecreasingBy (λ m. m.address) (map (λ (l : LineData). l.mark) (map (line_data files) sorted))
marks_order files sorted order = λ i j d le below.
    let marks = map (λ (l : LineData). l.mark) (map (line_data files) sorted) in
    let long : length marks ≡ length sorted = length-map (map (line_data files) sorted) (λ (l : LineData). l.mark) ∙ length-map sorted (line_data files) in
    let low : i < length sorted = omega (arith, le, below, long) in
    let high : j < length sorted = omega (arith, below, long) in
    let first : get_or marks i d ≡ (get_or sorted i (nowhere d)).mark = at files sorted i d low in
    let second : get_or marks j d ≡ (get_or sorted j (nowhere d)).mark = at files sorted j d high in
    let up = order i j (nowhere d) le high in
    omega (arith, ap (λ (m : Mark). m.address) first, ap (λ (m : Mark). m.address) second, up)
  where
    at : (fs : List (List (List ℕ))) (xs : List LinePlace) (k : ℕ) (d : Mark) → k < length xs → get_or (map (λ (l : LineData). l.mark) (map (line_data fs) xs)) k d ≡ (get_or xs k (nowhere d)).mark
    at fs [] k d lt = absurd (omega arith)
    at fs (x ∷ xs) zero d lt = refl
    at fs (x ∷ xs) (suc k) d lt = at fs xs k d (omega arith)

pub has_lines : (modules : List Contents) (places : List Place) (files : List (List (List ℕ))) (sorted : List LinePlace) → AreModules modules → HasOnePart modules places → HasRoom modules places → files ≡ map (λ (c : Contents). c.files) modules
    → IsPermutation (all_places modules places) sorted → IsNonDecreasingBy (λ l. l.mark.address) sorted → HasLines modules places (map (line_data files) sorted)
has_lines modules places files sorted are one room files_are p order =
    let lines = map (line_data files) sorted in
    let same : IsPermutation (program_lines modules places) lines =
    subst (λ ls. IsPermutation ls lines) (ap (λ fs. map (line_data fs) (all_places modules places)) files_are ∙ all_named modules places) (IsPermutation-map (line_data files) (all_places modules places) sorted p) in
    let marks = map (λ (l : LineData). l.mark) lines in
    let moved : IsPermutation (by_modules (marks_in modules places told_marks) 0 modules) marks =
    subst (λ ms. IsPermutation ms marks) (marks_by_modules modules places 0 modules) (IsPermutation-map (λ (l : LineData). l.mark) (program_lines modules places) lines same) in
    record { same = same; ascend = sorted_ascend modules places told_marks marks (told_rise modules are) one room moved (marks_order files sorted order) }

-- ---- the line of an address

fit_front : (low : ℕ) (m : Mark) (ms : List Mark) → fit_from low (m ∷ ms) ≡ true → (low ≤ m.address) × (1 ≤ m.size) × (fit_from (m.address + m.size) ms ≡ true)
fit_front low m ms h =
    let f = both (fits_behind low m) (fit_from (m.address + m.size) ms) h in
    let a = both (leb low m.address && leb 1 m.size && leb m.size 2) (leb (m.address + m.size) 65536) f.0 in
    let b = both (leb low m.address && leb 1 m.size) (leb m.size 2) a.0 in
    let c = both (leb low m.address) (leb 1 m.size) b.0 in
    let begin = c.0 in
    let some = c.1 in
    (grind (arith, nat_tests), grind (arith, nat_tests), f.1)

from : (low : ℕ) (xs : List LineData) (i : ℕ) (d : LineData) → fit_from low (map (λ l. l.mark) xs) ≡ true → i < length xs → low ≤ (get_or xs i d).mark.address
from low [] i d h lt = absurd (omega arith)
from low (x ∷ xs) zero d h lt = (fit_front low x.mark (map (λ (l : LineData). l.mark) xs) h).0
from low (x ∷ xs) (suc i) d h lt =
    let f = fit_front low x.mark (map (λ (l : LineData). l.mark) xs) h in
    let next = from (x.mark.address + x.mark.size) xs i d f.2 (omega arith) in
    let here = f.0 in
    omega (arith, here, next)

equal_test : (n : ℕ) → eqb n n ≡ true
equal_test n = grind (arith, nat_tests)

other_test : (a b : ℕ) → a < b → eqb a b ≡ false
other_test a b lt = grind (arith, nat_tests, lt)

found : (low : ℕ) (xs : List LineData) (i : ℕ) (d : LineData) → fit_from low (map (λ l. l.mark) xs) ≡ true → i < length xs → find (λ (l : LineData). eqb l.mark.address (get_or xs i d).mark.address) xs ≡ Some (get_or xs i d)
found low [] i d h lt = absurd (omega arith)
found low (x ∷ xs) zero d h lt = ap (λ b. cond b (Some x) (find (λ (l : LineData). eqb l.mark.address x.mark.address) xs)) (equal_test x.mark.address)
found low (x ∷ xs) (suc i) d h lt =
    let f = fit_front low x.mark (map (λ (l : LineData). l.mark) xs) h in
    let below : i < length xs = omega arith in
    let next = from (x.mark.address + x.mark.size) xs i d f.2 below in
    let some = f.1 in
    let address = (get_or xs i d).mark.address in
    ap (λ b. cond b (Some x) (find (λ (l : LineData). eqb l.mark.address address) xs)) (other_test x.mark.address address (omega (arith, next, some)))
    ∙ found (x.mark.address + x.mark.size) xs i d f.2 below

missing : (address : ℕ) (xs : List LineData) → ((i : ℕ) (d : LineData) → i < length xs → (get_or xs i d).mark.address ≡ address → ⊥) → find (λ (l : LineData). eqb l.mark.address address) xs ≡ None
missing address [] none = refl
missing address (x ∷ xs) none = by_test (missing address xs (λ i d lt. none (suc i) d (omega arith))) (eqb x.mark.address address) refl where
  by_test : find (λ (l : LineData). eqb l.mark.address address) xs ≡ None → (t : Bool) → eqb x.mark.address address ≡ t → cond t (Some x) (find (λ (l : LineData). eqb l.mark.address address) xs) ≡ None
  by_test rest true e = absurd (none 0 x (omega arith) (eqb-true x.mark.address address e))
  by_test rest false e = rest

-- ---- a search in ascending lines

abbrev address_of : LinePlace → ℕ
address_of l = l.mark.address

-- how a line stands to an address
abbrev pub order_to : ℕ → LinePlace → Ordering
order_to address l = nat_cmp l.mark.address address

tests_to : (a x : ℕ) → (o : Ordering) → nat_cmp a x ≡ o → MatchOrdering o (a < x) (a ≡ x) (x < a)
tests_to a x o e = by_tests (ltb a x) (eqb a x) refl refl e where
  by_tests : (t u : Bool) → ltb a x ≡ t → eqb a x ≡ u → cond t Less (cond u Equal Greater) ≡ o → MatchOrdering o (a < x) (a ≡ x) (x < a)
  by_tests true u f g h = subst (λ (p : Ordering). MatchOrdering p (a < x) (a ≡ x) (x < a)) h (let lt : a < x = grind (arith, nat_tests, f) in lt)
  by_tests false true f g h = subst (λ (p : Ordering). MatchOrdering p (a < x) (a ≡ x) (x < a)) h (let same : a ≡ x = grind (arith, nat_tests, g) in same)
  by_tests false false f g h = subst (λ (p : Ordering). MatchOrdering p (a < x) (a ≡ x) (x < a)) h (let gt : x < a = grind (arith, nat_tests, f, g) in gt)

index_up : (a b x : ℕ) → a ≤ b → ordering_index (nat_cmp a x) ≤ ordering_index (nat_cmp b x)
index_up a b x le = by_orders (nat_cmp a x) (nat_cmp b x) (tests_to a x (nat_cmp a x) refl) (tests_to b x (nat_cmp b x) refl) where
  by_orders : (o p : Ordering) → MatchOrdering o (a < x) (a ≡ x) (x < a) → MatchOrdering p (b < x) (b ≡ x) (x < b) → ordering_index o ≤ ordering_index p
  by_orders Less p f g = omega arith
  by_orders Equal Less f g = absurd (omega (arith, f, g, le))
  by_orders Equal Equal f g = omega arith
  by_orders Equal Greater f g = omega arith
  by_orders Greater Less f g = absurd (omega (arith, f, g, le))
  by_orders Greater Equal f g = absurd (omega (arith, f, g, le))
  by_orders Greater Greater f g = omega arith

-- an address is not above a later one
rise : (low : ℕ) (xs : List LineData) (i j : ℕ) (d : LineData) → fit_from low (map (λ l. l.mark) xs) ≡ true → i ≤ j → j < length xs → (get_or xs i d).mark.address ≤ (get_or xs j d).mark.address
rise low [] i j d h le lt = absurd (omega arith)
rise low (x ∷ xs) zero zero d h le lt = omega arith
rise low (x ∷ xs) zero (suc j) d h le lt =
    let f = fit_front low x.mark (map (λ (l : LineData). l.mark) xs) h in
    let next = from (x.mark.address + x.mark.size) xs j d f.2 (omega arith) in
    omega (arith, next)
rise low (x ∷ xs) (suc i) zero d h le lt = absurd (omega arith)
rise low (x ∷ xs) (suc i) (suc j) d h le lt = rise (x.mark.address + x.mark.size) xs i j d (fit_front low x.mark (map (λ (l : LineData). l.mark) xs) h).2 (omega arith) (omega arith)

data_at : (files : List (List (List ℕ))) (places : List LinePlace) (i : ℕ) (d : LinePlace) → i < length places → get_or (map (line_data files) places) i (line_data files d) ≡ line_data files (get_or places i d)
data_at files places i d lt = get_or-map (line_data files) places i d (line_data files d) lt

long : (files : List (List (List ℕ))) (places : List LinePlace) → length (map (line_data files) places) ≡ length places
long files places = length-map places (line_data files)

pub line_found : (files : List (List (List ℕ))) (places : List LinePlace) (address i : ℕ) (d : LinePlace) → fit_from 0 (map (λ (l : LineData). l.mark) (map (line_data files) places)) ≡ true → i < length places → IsBinarySearchResult (order_to address) places (Ok i)
    → Some (file_at files (get_or places i d).number (get_or places i d).file, (get_or places i d).line) ≡ line_at address (map (line_data files) places)
line_found files places address i d ascend lt holds =
    let lines = map (line_data files) places in
    let here : get_or lines i (line_data files d) ≡ line_data files (get_or places i d) = data_at files places i d lt in
    let same : (get_or places i d).mark.address ≡ address = tests_to (get_or places i d).mark.address address Equal (holds d) in
    let lies : (get_or lines i (line_data files d)).mark.address ≡ address = ap (λ (l : LineData). l.mark.address) here ∙ same in
    let there = found 0 lines i (line_data files d) ascend (omega (arith, lt, long files places)) in
    sym (ap (option_map (λ (l : LineData). (l.file, l.line))) (ap (λ n. find (λ (l : LineData). eqb l.mark.address n) lines) (sym lies) ∙ there ∙ ap Some here))

pub line_missing : (files : List (List (List ℕ))) (places : List LinePlace) (address i : ℕ) → fit_from 0 (map (λ (l : LineData). l.mark) (map (line_data files) places)) ≡ true → IsBinarySearchResult (order_to address) places (Err i)
    → None ≡ line_at address (map (line_data files) places)
line_missing files places address i ascend parted = sym (ap (option_map (λ (l : LineData). (l.file, l.line))) (missing address lines none)) where
  lines : List LineData
  lines = map (line_data files) places

  up : IsNonDecreasingBy (λ y. ordering_index (order_to address y)) places
  up = λ k j d le below.
      let first = data_at files places k d (omega (arith, le, below)) in
      let second = data_at files places j d below in
      let risen = rise 0 lines k j (line_data files d) ascend le (omega (arith, below, long files places)) in
      index_up (get_or places k d).mark.address (get_or places j d).mark.address address (omega (arith, ap (λ (l : LineData). l.mark.address) first, ap (λ (l : LineData). l.mark.address) second, risen))

  none_at : (k : ℕ) (d : LinePlace) → k < length places → (get_or places k d).mark.address ≡ address → ⊥
  none_at k d lt same =
      elim (cases_lt k i) [
        | inl below ↦ let less : (get_or places k d).mark.address < address = tests_to (get_or places k d).mark.address address Less ((parted up).0 k d (omega arith) below) in omega (arith, less, same)
        | inr above ↦ let more : address < (get_or places k d).mark.address = tests_to (get_or places k d).mark.address address Greater ((parted up).1 k d above lt) in omega (arith, more, same)
      ]

  none : (k : ℕ) (d : LineData) → k < length lines → (get_or lines k d).mark.address ≡ address → ⊥
  none k d lt same =
      let low : k < length places = omega (arith, lt, long files places) in
      let there : get_or lines k d ≡ line_data files (get_or places k (nowhere d.mark)) = get_or-map (line_data files) places k (nowhere d.mark) d low in
      none_at k (nowhere d.mark) low (sym (ap (λ (l : LineData). l.mark.address) there) ∙ same)

-- ---- one line more of a module

-- the pair that a loop over both lists gives
pub pair_at : (ms : List ModuleMark) (ls : List LineMark) (i : ℕ) (x d : ModuleMark) (y e : LineMark) → i < length ms → i < length ls → x ≡ get_or ms i d → y ≡ get_or ls i e → (x, y) ≡ get_or (zip ms ls) i (d, e)
pair_at ms ls i x d y e lt lt_2 is is_2 = (λ j. (is j, is_2 j)) ∙ sym (get_or-zip ms ls i (d, e) lt lt_2)

pub pair_below : (ms : List ModuleMark) (ls : List LineMark) (i : ℕ) → i < length ms → i < length ls → i < length (zip ms ls)
pair_below ms ls i lt lt_2 = let both_long = length-zip ms ls in omega (arith, both_long, lt, lt_2)

-- the line of a mark, where it has one
pub told_at : (ls xs : List LineMark) (i : ℕ) (y : Bor LineMark) (e : LineMark) → xs ≡ ls → IsItemAt xs i (Some y) → (i < length ls) × (y.now ≡ get_or ls i e)
told_at ls xs i y e same item =
    let this : slice_get xs i ≡ Some y.now = slice_get_read xs (length xs) i y.now refl item.3.0 item.1 in
    let there : slice_get ls i ≡ Some y.now = ap (λ zs. slice_get zs i) (sym same) ∙ this in
    (slice_get_within ls i y.now there, sym (get_or_from_slice_get ls i y.now e there))

pub untold_at : (ls xs : List LineMark) (i : ℕ) → xs ≡ ls → IsItemAt {X = LineMark} xs i None → length ls ≤ i
untold_at ls xs i same item = let past = item.3 in omega (arith, past, ap length same)

-- a mark without a line adds no pair
pub pairs_same : (ms : List ModuleMark) (ls : List LineMark) (i : ℕ) → length ls ≤ i → take (i + 1) (zip ms ls) ≡ take i (zip ms ls)
pairs_same ms ls i le = let both_long = length-zip ms ls in take_all (i + 1) (zip ms ls) (omega (arith, both_long, le)) ∙ sym (take_all i (zip ms ls) (omega (arith, both_long, le)))

-- all pairs
pub pairs_ended : (ms : List ModuleMark) (ls : List LineMark) (i : ℕ) → length ms ≤ i → take i (zip ms ls) ≡ zip ms ls
pairs_ended ms ls i le = let both_long = length-zip ms ls in take_all i (zip ms ls) (omega (arith, both_long, le))
