-- The files and lines of marks: files in the order of their first use, and as many lines as marks.
use Rattle.std.proofs.Common.{◌≡◌, ℕ, ◌+◌, ◌≤◌, ◌<◌, ◌^◌, Bool, true, false, cond, not, ◌||◌, ◌&&◌, leb, ltb, List, [], ◌∷◌, ◌++◌, length, refl, sym, ap, ◌∙◌, subst, arith}
use Rattle.std.specs.List.{AllByRecursion, IsDistinct, fold, position_or_len}
use Rattle.std.specs.Str.{bytes_eq, is_utf8}
use Rattle.std.proofs.lemmas.Bool.{and_from, and_parts, le-leb, leb-true, lt-ltb, ltb-true, not_from_false}
use Rattle.std.proofs.lemmas.Cmp.{nat_list_eq_equiv}
use Rattle.std.proofs.lemmas.List.{length-append}
use Rattle.std.proofs.lemmas.List.Sums.{fold_push, prefix_len-le-length}
use Rattle.std.proofs.lemmas.Map.Made.{length-le_from_is_member}
use Rattle.std.proofs.lemmas.Slice.Eq.{bytes_eq-Decides}
use Rattle.c25_meaning_assembly.specs.Emission.{Lines, lines_of, no_lines, with_line}
use Rattle.c25_meaning_assembly.specs.Sections.{are_distinct, is_file_name, is_in, once}
use Rattle.c25_meaning_objects.specs.Module.{each_fits, file_fits, has_file, line_fits, used, used_with}
use Rattle.c25_meaning_objects.specs.declared.object.LineMark.{LineMark}
use Rattle.c25_meaning_objects.specs.declared.object.ModuleMark.{ModuleMark}
use Rattle.c25_meaning_assembly.proofs.Distinct.{both, distinct_push, turned}
use Rattle.c25_module_laws.proofs.Kept.{AreFiles, IsOrigin, grown, pushed, weaker}
use Rattle.c25_meaning_common.specs.declared.placed.FileLine.{FileLine}

-- ---- names among others

-- what holds of each of some names holds of one among them
pub holds_in : (P : List ℕ → Type 0) (names : List (List ℕ)) (n : List ℕ) → AllByRecursion P names → is_in names n ≡ true → P n
holds_in P [] n h e = absurd (cc)
holds_in P (x ∷ xs) n h e = on (bytes_eq n x) refl (holds_in P xs n h.1) e
  where
    on : (b : Bool) → bytes_eq n x ≡ b → (is_in xs n ≡ true → P n) → (b || is_in xs n) ≡ true → P n
    on true same go e = subst P (sym ((bytes_eq-Decides n x).0 same)) h.0
    on false same go e = go e

apart : (names : List (List ℕ)) (n : List ℕ) → is_in names n ≡ false → AllByRecursion (λ x. bytes_eq n x ≡ false) names
apart [] n h = tt
apart (x ∷ xs) n h = on (bytes_eq n x) refl (apart xs n) h
  where
    on : (b : Bool) → bytes_eq n x ≡ b → (is_in xs n ≡ false → AllByRecursion (λ x. bytes_eq n x ≡ false) xs) → (b || is_in xs n) ≡ false → AllByRecursion (λ y. bytes_eq n y ≡ false) (x ∷ xs)
    on true same go h = absurd (cc)
    on false same go h = (same, go h)

each_apart : (names : List (List ℕ)) → are_distinct names ≡ true → IsDistinct bytes_eq names
unfolding IsDistinct
each_apart [] h = tt
each_apart (n ∷ ns) h = let p = both (is_in ns n) (are_distinct ns) h in (apart ns n p.0, each_apart ns p.1)

-- names that are there once each, and among others, are no more than those
no_more : (names others : List (List ℕ)) → are_distinct names ≡ true → AllByRecursion (λ n. is_in others n ≡ true) names → length names ≤ length others
no_more names others distinct h = length-le_from_is_member nat_list_eq_equiv names others (each_apart names distinct) (λ q e. holds_in (λ n. is_in others n ≡ true) names q h e)

-- ---- the number of a file

first_in : (names : List (List ℕ)) (n : List ℕ) → is_in names n ≡ true → position_or_len (bytes_eq n) names < length names
first_in [] n h = absurd (cc)
first_in (x ∷ xs) n h = on (bytes_eq n x) (first_in xs n) h
  where
    on : (b : Bool) → (is_in xs n ≡ true → position_or_len (bytes_eq n) xs < length xs) → (b || is_in xs n) ≡ true → cond (not b) (1 + position_or_len (bytes_eq n) xs) 0 < length (x ∷ xs)
    on true go h = omega arith
    on false go h = let l = go h in omega (arith, l)

none_in : (names : List (List ℕ)) (n : List ℕ) → is_in names n ≡ false → position_or_len (bytes_eq n) names ≡ length names
none_in [] n h = refl
none_in (x ∷ xs) n h = on (bytes_eq n x) (none_in xs n) h
  where
    on : (b : Bool) → (is_in xs n ≡ false → position_or_len (bytes_eq n) xs ≡ length xs) → (b || is_in xs n) ≡ false → cond (not b) (1 + position_or_len (bytes_eq n) xs) 0 ≡ length (x ∷ xs)
    on true go h = absurd (cc)
    on false go h = let l = go h in omega (arith, l)

-- a file's number is one of those that are used, or the next
record IsNext (files : List (List ℕ)) (name : List ℕ) : Type 0 where
  below : position_or_len (bytes_eq name) files < length (once files name)
  behind : cond (ltb (position_or_len (bytes_eq name) files) (length files)) (length files) (position_or_len (bytes_eq name) files + 1) ≡ length (once files name)
  more : length files ≤ length (once files name)

is_next : (files : List (List ℕ)) (name : List ℕ) → IsNext files name
is_next files name = on (is_in files name) refl
  where
    n : ℕ
    n = position_or_len (bytes_eq name) files

    on : (b : Bool) → is_in files name ≡ b → IsNext files name
    on true is =
        let l = first_in files name is in
        let same : length (once files name) ≡ length files = ap (λ b. length (cond b files (files ++ name ∷ []))) is in
        record {
          below = omega (arith, l, same);
          behind = ap (λ b. cond b (length files) (n + 1)) (lt-ltb n (length files) l) ∙ sym same;
          more = omega (arith, same);
        }
    on false is =
        let l = none_in files name is in
        let same : length (once files name) ≡ length (files ++ name ∷ []) = ap (λ b. length (cond b files (files ++ name ∷ []))) is in
        let size = length-append files (name ∷ []) in
        record {
          below = omega (arith, l, same, size);
          behind = by (ltb n (length files)) refl (omega (arith, l, same, size));
          more = omega (arith, same, size);
        }
      where
        by : (b : Bool) → ltb n (length files) ≡ b → n + 1 ≡ length (once files name) → cond b (length files) (n + 1) ≡ length (once files name)
        by true h e = absurd (let l = ltb-true n (length files) h in let m = none_in files name is in omega (arith, l, m))
        by false h e = e

-- ---- a line more

-- a file's name in a record
named_fits : (files : List (List ℕ)) (name : List ℕ) → is_file_name name ≡ true → is_in files name ≡ false → file_fits files name ≡ true
named_fits files name is away =
    let p = and_parts (is_utf8 name) (leb (length name) 65535) is in
    let short = leb-true (length name) 65535 p.1 in
    and_from (is_utf8 name && ltb (length name) (2 ^ 32)) (not (has_file files name))
    (and_from (is_utf8 name) (ltb (length name) (2 ^ 32)) p.0 (lt-ltb (length name) (2 ^ 32) (omega (arith, short))))
    (not_from_false (has_file files name) (has_is files ∙ away))
  where
    has_is : (fs : List (List ℕ)) → has_file fs name ≡ is_in fs name
    has_is [] = refl
    has_is (f ∷ fs) = λ i. turned f name i || has_is fs i

-- the files so far are among these, and are those that the lines so far use
record AreUsed (files : List (List ℕ)) (l : Lines) : Type 0 where
  known : AllByRecursion (λ f. is_in files f ≡ true) l.files
  distinct : are_distinct l.files ≡ true
  fit : each_fits file_fits [] l.files ≡ true
  used_is : used l.lines ≡ length l.files
  sized : AllByRecursion (λ x. (x.file < length l.files) × (x.line < 2 ^ 32)) l.lines

used_push : (xs : List LineMark) (x : LineMark) → used (xs ++ x ∷ []) ≡ used_with (used xs) x
used_push xs x = fold_push used_with 0 xs x

line_more : (files : List (List ℕ)) (l : Lines) (o : FileLine (List ℕ)) → AreFiles files → IsOrigin files o → AreUsed files l → AreUsed files (with_line l o)
line_more files l o are is h =
    record {
      known = on_known (is_in l.files o.file);
      distinct = on_distinct (is_in l.files o.file) refl;
      fit = on_fit (is_in l.files o.file) refl;
      used_is = used_push l.lines x ∙ ap (λ n. used_with n x) h.used_is ∙ next.behind;
      sized = pushed (λ (y : LineMark). (y.file < length (once l.files o.file)) × (y.line < 2 ^ 32)) l.lines x
          (weaker (λ (y : LineMark). (y.file < length l.files) × (y.line < 2 ^ 32)) (λ (y : LineMark). (y.file < length (once l.files o.file)) × (y.line < 2 ^ 32)) (λ y b. (let m = next.more in let c = b.0 in omega (arith, m, c), b.1)) l.lines h.sized)
          (next.below, ltb-true o.line (2 ^ 32) (and_parts (leb 1 o.line) (ltb o.line (2 ^ 32)) is.numbered).1);
    }
  where
    x : LineMark
    x = record { file = position_or_len (bytes_eq o.file) l.files; line = o.line }

    next : IsNext l.files o.file
    next = is_next l.files o.file

    on_known : (b : Bool) → AllByRecursion (λ f. is_in files f ≡ true) (cond b l.files (l.files ++ o.file ∷ []))
    on_known true = h.known
    on_known false = pushed (λ (f : List ℕ). is_in files f ≡ true) l.files o.file h.known is.known

    on_distinct : (b : Bool) → is_in l.files o.file ≡ b → are_distinct (cond b l.files (l.files ++ o.file ∷ [])) ≡ true
    on_distinct true e = h.distinct
    on_distinct false e = distinct_push l.files o.file h.distinct e

    on_fit : (b : Bool) → is_in l.files o.file ≡ b → each_fits file_fits [] (cond b l.files (l.files ++ o.file ∷ [])) ≡ true
    on_fit true e = h.fit
    on_fit false e = grown file_fits [] l.files o.file h.fit (named_fits l.files o.file (holds_in (λ f. is_file_name f ≡ true) files o.file are.named is.known) e)

-- ---- all lines

files_more : (os : List (FileLine (List ℕ))) (l : Lines) → length l.files ≤ length (fold with_line l os).files
files_more [] l = omega arith
files_more (o ∷ os) l =
    let a = (is_next l.files o.file).more in
    let b = files_more os (with_line l o) in
    omega (arith, a, b)

all_used : (files : List (List ℕ)) (os : List (FileLine (List ℕ))) (l : Lines) → AreFiles files → AllByRecursion (IsOrigin files) os → AreUsed files l → AreUsed files (fold with_line l os)
all_used files [] l are is h = h
all_used files (o ∷ os) l are is h = all_used files os (with_line l o) are is.1 (line_more files l o are is.0 h)

all_counted : (os : List (FileLine (List ℕ))) (l : Lines) → length (fold with_line l os).lines ≡ length l.lines + length os
all_counted [] l = omega arith
all_counted (o ∷ os) l =
    let one = length-append l.lines (record { file = position_or_len (bytes_eq o.file) l.files; line = o.line } ∷ []) in
    let rest = all_counted os (with_line l o) in
    omega (arith, one, rest)

all_fit : (files : List (List ℕ)) (marks : List ModuleMark) (os : List (FileLine (List ℕ))) (l : Lines) → AreFiles files → AllByRecursion (IsOrigin files) os → AreUsed files l → length l.lines + length os ≤ length marks
    → each_fits (line_fits marks (fold with_line l os).files) [] l.lines ≡ true → each_fits (line_fits marks (fold with_line l os).files) [] (fold with_line l os).lines ≡ true
all_fit files marks [] l are is h room fit = fit
all_fit files marks (o ∷ os) l are is h room fit =
    let x : LineMark = record { file = position_or_len (bytes_eq o.file) l.files; line = o.line } in
    let all = (fold with_line l (o ∷ os)).files in
    let below = (is_next l.files o.file).below in
    let more = files_more os (with_line l o) in
    let place = prefix_len-le-length (λ f. not (bytes_eq o.file f)) l.files in
    let used_is = h.used_is in
    let size = length-append l.lines (x ∷ []) in
    let one : line_fits marks all l.lines x ≡ true =
    and_from _ (leb 1 o.line)
    (and_from _ (leb x.file (used l.lines))
    (and_from (ltb (length l.lines) (length marks)) (ltb x.file (length all)) (lt-ltb (length l.lines) (length marks) (omega (arith, room))) (lt-ltb x.file (length all) (omega (arith, below, more))))
    (le-leb x.file (used l.lines) (omega (arith, place, used_is))))
    (and_parts (leb 1 o.line) (ltb o.line (2 ^ 32)) is.0.numbered).0 in
    all_fit files marks os (with_line l o) are is.1 (line_more files l o are is.0 h) (omega (arith, room, size)) (grown (line_fits marks all) [] l.lines x fit one)

-- files and lines are those of marks
pub record AreLinesOf (marks : List ModuleMark) (l : Lines) : Type 0 where
  pub files_fit : each_fits file_fits [] l.files ≡ true
  pub lines_fit : each_fits (line_fits marks l.files) [] l.lines ≡ true
  pub count : length l.lines ≡ length marks
  pub used_is : used l.lines ≡ length l.files
  pub few : length l.files ≤ 65535
  pub sized : AllByRecursion (λ x. (x.file < 2 ^ 16) × (x.line < 2 ^ 32)) l.lines

-- files and lines are those of marks, each mark having a line
pub lines_told : (files : List (List ℕ)) (marks : List ModuleMark) (os : List (FileLine (List ℕ))) → AreFiles files → AllByRecursion (IsOrigin files) os → length os ≡ length marks → AreLinesOf marks (lines_of os)
lines_told files marks os are is size =
    let none : AreUsed files no_lines = record { known = tt; distinct = refl; fit = refl; used_is = refl; sized = tt } in
    let h = all_used files os no_lines are is none in
    let count = all_counted os no_lines in
    let fewer = no_more (lines_of os).files files h.distinct h.known in
    let few = are.few in
    record {
      files_fit = h.fit;
      lines_fit = all_fit files marks os no_lines are is none (omega (arith, size)) refl;
      count = omega (arith, count, size);
      used_is = h.used_is;
      few = omega (arith, fewer, few);
      sized = weaker (λ (x : LineMark). (x.file < length (lines_of os).files) × (x.line < 2 ^ 32)) (λ (x : LineMark). (x.file < 2 ^ 16) × (x.line < 2 ^ 32)) (λ x b. (let c = b.0 in omega (arith, c, fewer, few), b.1)) (lines_of os).lines h.sized;
    }
