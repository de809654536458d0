-- The files and lines of marks, one after another.
use denote.Ref.{Bor}
use Rattle.std.proofs.Common.{◌≡◌, ℕ, zero, suc, ◌+◌, ◌≤◌, ◌<◌, Bool, true, false, cond, ◌||◌, List, [], ◌∷◌, ◌++◌, length, map, drop, take, Some, get_or, subst, refl, sym, ap, ◌∙◌, arith}
use Rattle.std.specs.List.{AllByRecursion, IsDistinct, fold, flat_map, list_any, position_or_len, slice_get}
use Rattle.std.specs.Str.{bytes_eq}
use Rattle.std.proofs.lemmas.List.{drop_more, length-append, map-append}
use Rattle.std.proofs.lemmas.List.Recursion.{is_position_or_len}
use Rattle.std.proofs.lemmas.List.Sums.{fold-append}
use Rattle.c25_meaning_assembly.proofs.Distinct.{turned}
use Rattle.c25_meaning_assembly.specs.Emission.{Lines, lines_in, module_with, section_of, symbol_of, with_line}
use Rattle.c25_meaning_assembly.specs.Sections.{Definitions, Section, is_in, once}
use Rattle.c25_meaning_objects.specs.Module.{Contents}
use Rattle.c25_meaning_objects.specs.declared.object.Version.TheVariants.{Two}
use Rattle.c25_phases.proofs.Declared.{same_text}
use Rattle.c25_phases.specs.Lined.{IsAt}
use Rattle.c25_phases.specs.Runs.{lines_of, origins_in}
use Rattle.c25_phases.specs.declared.source_lines.FileRun.{FileRun}
use Rattle.c25_meaning_common.specs.declared.placed.FileLine.{FileLine}

-- ---- names that are borrowed

any_names : (k : Bor (List ℕ)) (ks : List (Bor (List ℕ))) → list_any (λ x. bytes_eq k.now x.now) ks ≡ is_in (map (λ x. x.now) ks) k.now
any_names k [] = refl
any_names k (x ∷ ks) = ap (λ b. bytes_eq k.now x.now || b) (any_names k ks)

mapped_cond : (t : Bool) (k : Bor (List ℕ)) (old : List (Bor (List ℕ))) → map (λ x. x.now) (cond t old (old ++ k ∷ [])) ≡ cond t (map (λ x. x.now) old) (map (λ x. x.now) old ++ k.now ∷ [])
mapped_cond true k old = refl
mapped_cond false k old = map-append (λ x. x.now) old (k ∷ [])

-- a name that joins others
pub joined : (k : Bor (List ℕ)) (old new : List (Bor (List ℕ))) (files : List (List ℕ)) → new ≡ cond (list_any (λ x. bytes_eq k.now x.now) old) old (old ++ k ∷ []) → map (λ x. x.now) old ≡ files
    → map (λ x. x.now) new ≡ once files k.now
joined k old new files e are =
    ap (map (λ (x : Bor (List ℕ)). x.now)) e ∙ mapped_cond (list_any (λ (x : Bor (List ℕ)). bytes_eq k.now x.now) old) k old
    ∙ ap (λ t. cond t (map (λ (x : Bor (List ℕ)). x.now) old) (map (λ (x : Bor (List ℕ)). x.now) old ++ k.now ∷ [])) (any_names k old)
    ∙ ap (λ ns. cond (is_in ns k.now) ns (ns ++ k.now ∷ [])) are

-- the first place that passes, or the length
place_in : {X : Type 0} → (X → Bool) → List X → ℕ
place_in p [] = 0
place_in p (x ∷ xs) = cond (p x) 0 (1 + place_in p xs)

is_place : {X : Type 0} (p : X → Bool) (xs : List X) → place_in p xs ≡ position_or_len p xs
unfolding place_in
is_place p xs = is_position_or_len (place_in p) p refl (λ x rest. refl) xs

place_of_name : (name : List ℕ) (ks : List (Bor (List ℕ))) → place_in (λ k. bytes_eq name k.now) ks ≡ place_in (bytes_eq name) (map (λ x. x.now) ks)
unfolding place_in
place_of_name name [] = refl
place_of_name name (k ∷ ks) = ap (λ n. cond (bytes_eq name k.now) 0 (1 + n)) (place_of_name name ks)

-- the number of a name among others
pub number_is : (k : Bor (List ℕ)) (old : List (Bor (List ℕ))) (files : List (List ℕ)) (i : ℕ) → i ≡ position_or_len (λ x. bytes_eq k.now x.now) old → map (λ x. x.now) old ≡ files
    → i ≡ position_or_len (bytes_eq k.now) files
number_is k old files i e are =
    e ∙ sym (is_place (λ x. bytes_eq k.now x.now) old) ∙ place_of_name k.now old ∙ is_place (bytes_eq k.now) (map (λ x. x.now) old) ∙ ap (position_or_len (bytes_eq k.now)) are

-- a name at some place
at_place : (ks : List (Bor (List ℕ))) (i : ℕ) (k : Bor (List ℕ)) (name : List ℕ) → IsDistinct (λ x y. bytes_eq x.now y.now) ks → slice_get ks i ≡ Some k → bytes_eq name k.now ≡ true
    → (place_in (bytes_eq name) (map (λ x. x.now) ks) ≡ i) × (i < length (map (λ (x : Bor (List ℕ)). x.now) ks)) × (is_in (map (λ x. x.now) ks) name ≡ true)
unfolding place_in IsDistinct
at_place [] i k name distinct at same = absurd (cc)
at_place (x ∷ xs) zero k name distinct at same =
    let here : x ≡ k = cc in
    let e : bytes_eq name x.now ≡ true = ap (λ (y : Bor (List ℕ)). bytes_eq name y.now) here ∙ same in
    (ap (λ b. cond b 0 (1 + place_in (bytes_eq name) (map (λ x. x.now) xs))) e, omega arith, ap (λ b. b || is_in (map (λ x. x.now) xs) name) e)
at_place (x ∷ xs) (suc i) k name distinct at same =
    let rest = at_place xs i k name distinct.1 at same in
    let apart : bytes_eq x.now k.now ≡ false = apart_at xs i distinct.0 at in
    let e : bytes_eq name x.now ≡ false = ap (λ n. bytes_eq n x.now) (same_text name k.now same) ∙ turned k.now x.now ∙ apart in
    let lt = rest.1 in (
      ap (λ b. cond b 0 (1 + place_in (bytes_eq name) (map (λ x. x.now) xs))) e ∙ ap (λ n. 1 + n) rest.0 ∙ omega arith,
      omega (arith, lt),
      ap (λ b. b || is_in (map (λ x. x.now) xs) name) e ∙ rest.2,
    )
  where
    apart_at : (ys : List (Bor (List ℕ))) (j : ℕ) → AllByRecursion (λ y. bytes_eq x.now y.now ≡ false) ys → slice_get ys j ≡ Some k → bytes_eq x.now k.now ≡ false
    apart_at [] j all at = absurd (cc)
    apart_at (y ∷ ys) zero all at = let here : y ≡ k = cc in ap (λ (z : Bor (List ℕ)). bytes_eq x.now z.now) (sym here) ∙ all.0
    apart_at (y ∷ ys) (suc j) all at = apart_at ys j all.1 at

-- the number of a name that stands at a place is that place
pub is_at : (ks : List (Bor (List ℕ))) (i : ℕ) (k : Bor (List ℕ)) (name : List ℕ) → IsDistinct (λ x y. bytes_eq x.now y.now) ks → slice_get ks i ≡ Some k → bytes_eq name k.now ≡ true
    → IsAt (map (λ x. x.now) ks) i name
is_at ks i k name distinct at same =
    let p = at_place ks i k name distinct at same in
    let files = map (λ (x : Bor (List ℕ)). x.now) ks in
    record {
      first = sym p.0 ∙ is_place (bytes_eq name) files;
      within = p.1;
      there = ap (λ b. cond b files (files ++ name ∷ [])) p.2;
    }

-- ---- files are never fewer

once_grows : (files : List (List ℕ)) (name : List ℕ) → length files ≤ length (once files name)
once_grows files name = by (is_in files name)
  where
    by : (b : Bool) → length files ≤ length (cond b files (files ++ name ∷ []))
    by true = omega arith
    by false = let n = length-append files (name ∷ []) in omega (arith, n)

pub files_grow : (l : Lines) (os : List (FileLine (List ℕ))) → length l.files ≤ length (fold with_line l os).files
files_grow l [] = omega arith
files_grow l (o ∷ os) = let a = once_grows l.files o.file in let b = files_grow (with_line l o) os in omega (arith, a, b)

-- a part of what is few is few
pub few_first : (l : Lines) (o : FileLine (List ℕ)) (os : List (FileLine (List ℕ))) (n : ℕ) → length (fold with_line l (o ∷ os)).files ≤ n → length (with_line l o).files ≤ n
few_first l o os n few = let a = files_grow (with_line l o) os in omega (arith, a, few)

pub few_part : (l : Lines) (os more : List (FileLine (List ℕ))) (n : ℕ) → length (fold with_line l (os ++ more)).files ≤ n → length (fold with_line l os).files ≤ n
few_part l os more n few =
    let same = ap (λ (x : Lines). length x.files) (fold-append with_line l os more) in
    let a = files_grow (fold with_line l os) more in
    omega (arith, a, few, same)

-- ---- in the course of a loop

pub few_next : (file numbers : List ℕ) (i d : ℕ) (l all : Lines) (n : ℕ) → i < length numbers → fold with_line l (lines_of file (drop i numbers)) ≡ all → length all.files ≤ n
    → length (with_line l (record { file = file; line = get_or numbers i d })).files ≤ n
few_next file numbers i d l all n lt is few =
    let x : FileLine (List ℕ) = record { file = file; line = get_or numbers i d } in
    let same : fold with_line l (x ∷ lines_of file (drop (i + 1) numbers)) ≡ all = sym (ap (λ (ns : List ℕ). fold with_line l (lines_of file ns)) (drop_more numbers i d lt)) ∙ is in
    few_first l x (lines_of file (drop (i + 1) numbers)) n (subst (λ (y : Lines). length y.files ≤ n) (sym same) few)

pub few_run : (runs : List FileRun) (i : ℕ) (d : FileRun) (file numbers first : List ℕ) (l all : Lines) (n : ℕ) → i < length runs → first ≡ take (get_or runs i d).count numbers
    → fold with_line l (origins_in (drop i runs) file numbers) ≡ all → length all.files ≤ n → length (fold with_line l (lines_of (get_or runs i d).file.now first)).files ≤ n
few_run runs i d file numbers first l all n lt front is few =
    let r = get_or runs i d in
    let more = origins_in (drop (i + 1) runs) file (drop r.count numbers) in
    let same : fold with_line l (lines_of r.file.now first ++ more) ≡ all =
    ap (λ ns. fold with_line l (lines_of r.file.now ns ++ more)) front ∙ ap (λ rs. fold with_line l (origins_in rs file numbers)) (sym (drop_more runs i d lt)) ∙ is in
    few_part l (lines_of r.file.now first) more n (subst (λ (y : Lines). length y.files ≤ n) (sym same) few)

pub few_section : (sections : List Section) (i : ℕ) (d : Section) (l all : Lines) (n : ℕ) → i < length sections → fold with_line l (flat_map (λ s. s.origins) (drop i sections)) ≡ all → length all.files ≤ n
    → length (fold with_line l (get_or sections i d).origins).files ≤ n
few_section sections i d l all n lt is few =
    let x = get_or sections i d in
    let more = flat_map (λ (s : Section). s.origins) (drop (i + 1) sections) in
    let same : fold with_line l (x.origins ++ more) ≡ all = sym (ap (λ (ss : List Section). fold with_line l (flat_map (λ s. s.origins) ss)) (drop_more sections i d lt)) ∙ is in
    few_part l x.origins more n (subst (λ (y : Lines). length y.files ≤ n) (sym same) few)

-- ---- the module

-- the lists of a module, one by one
pub module_is : (sections : List Section) (names : Definitions) (exported : List (List ℕ)) (m : Contents) → m.sections ≡ map section_of sections → m.marks ≡ flat_map (λ s. s.marks) sections
    → m.symbols ≡ map (symbol_of exported) names → m.relocations ≡ flat_map (λ s. s.relocations) sections → m.version ≡ Two → m.files ≡ (lines_in sections).files → m.lines ≡ (lines_in sections).lines
    → m.blocks ≡ flat_map (λ s. s.blocks) sections → m ≡ module_with sections names exported
module_is sections names exported m ss ms ys rs v fs ls bs =
    λ i. record { sections = ss i; marks = ms i; symbols = ys i; relocations = rs i; version = v i; files = fs i; lines = ls i; blocks = bs i }
