-- The lines of a program are those of its instruction statements.
use Rattle.std.proofs.Common.{◌≡◌, ℕ, suc, zero, ◌+◌, ◌≤◌, ◌<◌, Bool, true, false, cond, not, ◌&&◌, ◌||◌, eqb, leb, List, [], ◌∷◌, ◌++◌, length, map, filter, Option, Some, Ok, unwrap_or, refl, sym, ap, ◌∙◌, subst, arith, inl, inr}
use Rattle.std.specs.Prelude.{find}
use Rattle.std.specs.List.{AllByRecursion, Contains, flat_map, fold, position_or_len, slice_get, zip}
use Rattle.std.specs.List.Sorted.{IsPermutation}
use Rattle.std.specs.Option.{option_map}
use Rattle.std.specs.Str.{bytes_eq}
use Rattle.std.proofs.lemmas.Bool.{and_parts, eq-eqb, eqb-false, eqb-true, leb-true, ne_eqb}
use Rattle.std.proofs.lemmas.List.{append-nil, append_assoc, map-append}
use Rattle.std.proofs.lemmas.List.Elements.{filter-append}
use Rattle.std.proofs.lemmas.List.Sorted.{Contains-permutation, IsPermutation-append, IsPermutation-append_comm, IsPermutation-append_left, IsPermutation-append_right, IsPermutation-refl, IsPermutation-sym, IsPermutation-trans}
use Rattle.std.proofs.lemmas.Simd.{map-map}
use Rattle.std.proofs.lemmas.Slice.Eq.{bytes_eq-Decides}
use Rattle.c25_meaning_assembly.specs.Emission.{Lines, all_names, module_with, no_lines, with_line}
use Rattle.c25_meaning_assembly.specs.ModuleOfSource.{Assembled, assembled}
use Rattle.c25_meaning_assembly.specs.Sections.{Content, Definitions, Operands, Words, Zeros, Exported, PendingItem, Progress, Section, is_in, once}
use Rattle.c25_meaning_assembly.specs.declared.assembly.Target.TheVariants as target
use Rattle.c25_meaning_common.specs.declared.placed.FileLine.{FileLine}
use Rattle.c25_meaning_expansion.specs.Files.{Files}
use Rattle.c25_meaning_image.specs.Marks.{fit_from, fits_behind}
use Rattle.c25_meaning_language.proofs.Numbers.{size_of_form}
use Rattle.c25_meaning_language.specs.Statement.{form_row}
use Rattle.c25_meaning_instructions.specs.Table.{size}
use Rattle.c25_meaning_linking.specs.Command.{CommandData}
use Rattle.c25_meaning_linking.specs.Linking.{ImageData, IsProgram, line_at}
use Rattle.c25_meaning_linking.specs.Place.{Place, by_modules}
use Rattle.c25_meaning_linking.specs.Words.{LineData, is_on_program, module_lines, placed_mark, program_lines, section_base, section_page}
use Rattle.c25_meaning_objects.specs.Module.{Contents}
use Rattle.c25_meaning_objects.specs.declared.object.LineMark.{LineMark}
use Rattle.c25_meaning_objects.specs.declared.object.ModuleMark.{ModuleMark}
use Rattle.c25_linking_laws.proofs.Members.{in_filter, in_front, in_map, nothing_in}
use Rattle.c25_module_laws.proofs.Emitted.{Made, filled_from}
use Rattle.c25_module_laws.proofs.Kept.{get_before, heads, is_code, mark_by, marks_in, marks_part, weaker}
use Rattle.c25_module_laws.proofs.KeptActs.{code_within}
use Rattle.c25_module_laws.proofs.KeptLines.{IsMade}
use Rattle.c25_module_laws.proofs.ModuleFits.{AllFrom, all_sections}
use Rattle.c25_laws.proofs.ByKeys.{filter_mapped}
use Rattle.c25_laws.proofs.StatementsUnder.{comes_from}
use Rattle.c25_laws.specs.ProgramStatements.{AreModulesOf, PlacedStatement, all_statements, item_statements, lines_in, numbers_under, statements_from}
use Rattle.c25_statement_laws.specs.StatementLines.{TracedStatement, is_on_page_0, line_of, traced, traced_from, traced_item, traced_lines, traced_statements}
use Rattle.c25_statement_laws.proofs.LinesListed.{Kept, origin_by, origins_in, origins_part}
use Rattle.c25_statement_laws.proofs.ListingsShow.{is_read}

-- ---- statements without their lines

without_lines : (origin : FileLine (List ℕ)) (ss : List PlacedStatement) → map (λ t. t.statement) (map (traced origin) ss) ≡ ss
without_lines origin [] = refl
without_lines origin (s ∷ ss) = ap (λ xs. s ∷ xs) (without_lines origin ss)

module _ (modules : List Contents) (places : List Place) where
  items_traced : (number : ℕ) (m : Contents) (names : Definitions) (is : List PendingItem)
      → map (λ t. t.statement) (flat_map (traced_item modules places number m names) is) ≡ flat_map (λ i. item_statements modules places number m names i i.content) is
  items_traced number m names [] = refl
  items_traced number m names (i ∷ is) =
      map-append (λ (t : TracedStatement). t.statement) (traced_item modules places number m names i) (flat_map (traced_item modules places number m names) is)
      ∙ (λ j. without_lines i.origin (item_statements modules places number m names i i.content) j ++ items_traced number m names is j)

  modules_traced : (number : ℕ) (ms : List Contents) (ps : List Progress) → map (λ t. t.statement) (traced_from modules places number ms ps) ≡ statements_from modules places number ms ps
  modules_traced number [] ps = refl
  modules_traced number (m ∷ ms) [] = refl
  modules_traced number (m ∷ ms) (p ∷ ps) =
      map-append (λ (t : TracedStatement). t.statement) (traced_lines modules places number m p) (traced_from modules places (number + 1) ms ps)
      ∙ (λ j. items_traced number m p.names p.items j ++ modules_traced (number + 1) ms ps j)

pub statements_traced : (files : Files) (names : List (List ℕ)) (modules : List Contents) (places : List Place) → map (λ t. t.statement) (traced_statements files names modules places) ≡ all_statements files names modules places
statements_traced files names modules places = modules_traced modules places 0 modules (map (lines_in files) names)

-- ---- marks with their lines

abbrev Told : Type 0
Told = ModuleMark × FileLine (List ℕ)

-- the mark of an item that is an instruction, with its line
abbrev told_by : PendingItem → Content → List Told
told_by i (Operands (target.Instruction f) trees) = (record { section = i.section; offset = i.offset; size = size (form_row f) }, i.origin) ∷ []
told_by i _ = []

abbrev told_part : ℕ → PendingItem → List Told
told_part k i = cond (eqb i.section k) (told_by i i.content) []

-- the marks that items have in a section, each with its line
abbrev told_in : ℕ → List PendingItem → List Told
told_in k [] = []
told_in k (i ∷ is) = told_part k i ++ told_in k is

-- the marks that items have in all sections
abbrev told_all : List PendingItem → List Told
told_all [] = []
told_all (i ∷ is) = told_by i i.content ++ told_all is

one_told : (b : Bool) (i : PendingItem) (c : Content) (marks : List ModuleMark) (origins : List (FileLine (List ℕ)))
    → zip (cond b (mark_by i c) [] ++ marks) (cond b (origin_by i c) [] ++ origins) ≡ cond b (told_by i c) [] ++ zip marks origins
one_told false i c marks origins = refl
one_told true i (Operands (target.Instruction f) trees) marks origins = refl
one_told true i (Operands (target.Data w) trees) marks origins = refl
one_told true i (Words words) marks origins = refl
one_told true i (Zeros count) marks origins = refl
one_told true i (Exported names) marks origins = refl

section_told : (k : ℕ) (is : List PendingItem) (marks : List ModuleMark) (origins : List (FileLine (List ℕ))) → zip (marks_in k is ++ marks) (origins_in k is ++ origins) ≡ told_in k is ++ zip marks origins
section_told k [] marks origins = refl
section_told k (i ∷ is) marks origins =
    (λ j. zip (append_assoc (marks_part k i) (marks_in k is) marks j) (append_assoc (origins_part k i) (origins_in k is) origins j))
    ∙ one_told (eqb i.section k) i i.content (marks_in k is ++ marks) (origins_in k is ++ origins)
    ∙ ap (λ xs. told_part k i ++ xs) (section_told k is marks origins)
    ∙ sym (append_assoc (told_part k i) (told_in k is) (zip marks origins))

-- ---- lists by sections

-- a list for each section, one after the other
abbrev flat : {X : Type 0} → (ℕ → List X) → ℕ → ℕ → List X
flat F j zero = []
flat F j (suc n) = F j ++ flat F (suc j) n

flat_same : {X : Type 0} (F G : ℕ → List X) (j n : ℕ) → ((k : ℕ) → F k ≡ G k) → flat F j n ≡ flat G j n
flat_same F G j zero same = refl
flat_same F G j (suc n) same = λ i. same j i ++ flat_same F G (suc j) n same i

flat_none : {X : Type 0} (j n : ℕ) → ◌≡◌ {A = List X} (flat (λ k. []) j n) []
flat_none j zero = refl
flat_none j (suc n) = flat_none (suc j) n

-- two lists for each section, or first the one and then the other
flat_split : {X : Type 0} (A B : ℕ → List X) (j n : ℕ) → IsPermutation (flat (λ k. A k ++ B k) j n) (flat A j n ++ flat B j n)
flat_split A B j zero = IsPermutation-refl []
flat_split {X = X} A B j (suc n) =
    let a = flat A (suc j) n in
    let b = flat B (suc j) n in
    let both = flat (λ k. A k ++ B k) (suc j) n in
    let one = IsPermutation-append_right (A j ++ B j) both (a ++ b) (flat_split A B (suc j) n) in
    let moved : IsPermutation (A j ++ ((B j ++ a) ++ b)) (A j ++ ((a ++ B j) ++ b)) =
    IsPermutation-append_right (A j) ((B j ++ a) ++ b) ((a ++ B j) ++ b) (IsPermutation-append_left b (B j ++ a) (a ++ B j) (IsPermutation-append_comm (B j) a)) in
    let from : (A j ++ B j) ++ (a ++ b) ≡ A j ++ ((B j ++ a) ++ b) = append_assoc (A j) (B j) (a ++ b) ∙ ap (λ xs. A j ++ xs) (sym (append_assoc (B j) a b)) in
    let to : A j ++ ((a ++ B j) ++ b) ≡ (A j ++ a) ++ (B j ++ b) = ap (λ xs. A j ++ xs) (append_assoc a (B j) b) ∙ sym (append_assoc (A j) a (B j ++ b)) in
    IsPermutation-trans ((A j ++ B j) ++ both) ((A j ++ B j) ++ (a ++ b)) ((A j ++ a) ++ (B j ++ b)) one
    (subst (λ (xs : List X). IsPermutation xs ((A j ++ a) ++ (B j ++ b))) (sym from) (subst (IsPermutation (A j ++ ((B j ++ a) ++ b))) to moved))

-- a list for one section alone
flat_before : {X : Type 0} (xs : List X) (s j n : ℕ) → s < j → flat (λ k. cond (eqb s k) xs []) j n ≡ []
flat_before xs s j zero l = refl
flat_before xs s j (suc n) l =
    ap (λ b. cond b xs [] ++ flat (λ k. cond (eqb s k) xs []) (suc j) n) (ne_eqb s j (λ e. omega (arith, l, e))) ∙ flat_before xs s (suc j) n (omega (arith, l))

above : (s j : ℕ) → j ≤ s → (s ≡ j → ⊥) → suc j ≤ s
above zero zero low other = absurd (other refl)
above zero (suc j) low other = absurd (omega (arith, low))
above (suc s) zero low other = omega arith
above (suc s) (suc j) low other = let l = above s j (omega (arith, low)) (λ e. other (ap suc e)) in omega (arith, l)

flat_one : {X : Type 0} (xs : List X) (s j n : ℕ) → j ≤ s → s < j + n → flat (λ k. cond (eqb s k) xs []) j n ≡ xs
flat_one xs s j zero low high = absurd (omega (arith, low, high))
flat_one {X = X} xs s j (suc n) low high = by (λ past. flat_one xs s (suc j) n past (omega (arith, high))) (eqb s j) refl
  where
    by : (suc j ≤ s → flat (λ k. cond (eqb s k) xs []) (suc j) n ≡ xs) → (b : Bool) → eqb s j ≡ b → cond b xs [] ++ flat (λ k. cond (eqb s k) xs []) (suc j) n ≡ xs
    by go true e = let same = eqb-true s j e in ap (λ ys. xs ++ ys) (flat_before xs s (suc j) n (omega (arith, same))) ∙ append-nil xs
    by go false e = go (above s j low (eqb-false s j e))

-- ---- the lines of a module

-- a line with the name of its file
abbrev named : List (List ℕ) → LineMark → FileLine (List ℕ)
named files x = record { file = unwrap_or (slice_get files x.file) []; line = x.line }

known_at : (files : List (List ℕ)) (n : List ℕ) → is_in files n ≡ true → slice_get files (position_or_len (bytes_eq n) files) ≡ Some n
known_at [] n h = absurd (cc)
known_at (x ∷ xs) n h = on (bytes_eq n x) refl (known_at xs n) h
  where
    on : (b : Bool) → bytes_eq n x ≡ b → (is_in xs n ≡ true → slice_get xs (position_or_len (bytes_eq n) xs) ≡ Some n) → (b || is_in xs n) ≡ true
        → slice_get (x ∷ xs) (cond (not b) (1 + position_or_len (bytes_eq n) xs) 0) ≡ Some n
    on true same go h = ap Some (sym ((bytes_eq-Decides n x).0 same))
    on false same go h = let z : 1 + position_or_len (bytes_eq n) xs ≡ suc (position_or_len (bytes_eq n) xs) = omega arith in ap (slice_get (x ∷ xs)) z ∙ go h

new_at : (files : List (List ℕ)) (n : List ℕ) → is_in files n ≡ false → slice_get (files ++ n ∷ []) (position_or_len (bytes_eq n) files) ≡ Some n
new_at [] n h = refl
new_at (x ∷ xs) n h = on (bytes_eq n x) (new_at xs n) h
  where
    on : (b : Bool) → (is_in xs n ≡ false → slice_get (xs ++ n ∷ []) (position_or_len (bytes_eq n) xs) ≡ Some n) → (b || is_in xs n) ≡ false
        → slice_get (x ∷ (xs ++ n ∷ [])) (cond (not b) (1 + position_or_len (bytes_eq n) xs) 0) ≡ Some n
    on true go h = absurd (cc)
    on false go h = let z : 1 + position_or_len (bytes_eq n) xs ≡ suc (position_or_len (bytes_eq n) xs) = omega arith in ap (slice_get (x ∷ (xs ++ n ∷ []))) z ∙ go h

file_at : (files : List (List ℕ)) (n : List ℕ) → slice_get (once files n) (position_or_len (bytes_eq n) files) ≡ Some n
file_at files n = on (is_in files n) refl
  where
    on : (b : Bool) → is_in files n ≡ b → slice_get (cond b files (files ++ n ∷ [])) (position_or_len (bytes_eq n) files) ≡ Some n
    on true e = known_at files n e
    on false e = new_at files n e

once_more : (files : List (List ℕ)) (n : List ℕ) → (more : List (List ℕ)) × (once files n ≡ files ++ more)
once_more files n = on (is_in files n)
  where
    on : (b : Bool) → (more : List (List ℕ)) × (cond b files (files ++ n ∷ []) ≡ files ++ more)
    on true = ([], sym (append-nil files))
    on false = (n ∷ [], refl)

files_more : (os : List (FileLine (List ℕ))) (l : Lines) → (more : List (List ℕ)) × ((fold with_line l os).files ≡ l.files ++ more)
files_more [] l = ([], sym (append-nil l.files))
files_more (o ∷ os) l =
    let a = once_more l.files o.file in
    let b = files_more os (with_line l o) in
    (a.0 ++ b.0, b.1 ∙ ap (λ fs. fs ++ b.0) a.1 ∙ append_assoc l.files a.0 b.0)

-- the lines with the names of their files are those that the marks come from
lines_named : (os : List (FileLine (List ℕ))) (l : Lines) → map (named (fold with_line l os).files) (fold with_line l os).lines ≡ map (named (fold with_line l os).files) l.lines ++ os
lines_named [] l = sym (append-nil (map (named l.files) l.lines))
lines_named (o ∷ os) l =
    let next = with_line l o in
    let x : LineMark = record { file = position_or_len (bytes_eq o.file) l.files; line = o.line } in
    let all = (fold with_line next os).files in
    let m = files_more os next in
    let there : slice_get all x.file ≡ Some o.file = ap (λ (fs : List (List ℕ)). slice_get fs x.file) m.1 ∙ get_before next.files m.0 x.file o.file (file_at l.files o.file) in
    let one : named all x ≡ o = ap (λ (f : Option (List ℕ)). record { file = unwrap_or f []; line = o.line }) there in
    lines_named os next
    ∙ ap (λ xs. xs ++ os) (map-append (named all) l.lines (x ∷ []))
    ∙ append_assoc (map (named all) l.lines) (named all x ∷ []) os
    ∙ ap (λ y. map (named all) l.lines ++ y ∷ os) one

zip_mapped : {X Y Z : Type 0} (f : Y → Z) (xs : List X) (ys : List Y) → zip xs (map f ys) ≡ map (λ t. (t.0, f t.1)) (zip xs ys)
zip_mapped f [] ys = refl
zip_mapped f (x ∷ xs) [] = refl
zip_mapped f (x ∷ xs) (y ∷ ys) = ap (λ ts. (x, f y) ∷ ts) (zip_mapped f xs ys)

-- ---- one module

-- the sections of the module, of which each has the marks and the lines of these items
abbrev IsToldBy : List PendingItem → ℕ → Section → Type 0
IsToldBy items k s = (s.marks ≡ marks_in k items) × (s.origins ≡ origins_in k items)

sections_told : (items : List PendingItem) (j : ℕ) (ss : List Section) (ms : List Made) → AllFrom (IsToldBy items) j ss
    → zip (flat_map (λ s. s.marks) (filled_from j ss ms)) (flat_map (λ s. s.origins) (filled_from j ss ms)) ≡ flat (λ k. told_in k items) j (length ss)
sections_told items j [] ms h = refl
sections_told items j (s ∷ ss) ms h =
    let marks = flat_map (λ s. s.marks) (filled_from (suc j) ss ms) in
    let origins = flat_map (λ s. s.origins) (filled_from (suc j) ss ms) in
    (λ i. zip ((h.0).0 i ++ marks) ((h.0).1 i ++ origins)) ∙ section_told j items marks origins ∙ ap (λ xs. told_in j items ++ xs) (sections_told items (suc j) ss ms h.1)

module _ (modules : List Contents) (places : List Place) (number : ℕ) (m : Contents) where
  -- whether a mark is on page 0
  abbrev on_page : Told → Bool
  on_page t = is_on_program places m t.0

  -- what is told of a mark with its line
  abbrev told_of : Told → LineData
  told_of t = record { mark = placed_mark modules places number m t.0; file = t.1.file; line = t.1.line }

  -- what is told of marks with their lines, of those on page 0
  abbrev told_on : List Told → List LineData
  told_on ts = map told_of (filter on_page ts)

  on_append : (xs ys : List Told) → told_on (xs ++ ys) ≡ told_on xs ++ told_on ys
  on_append xs ys = ap (map told_of) (filter-append on_page xs ys) ∙ map-append told_of (filter on_page xs) (filter on_page ys)

  on_either : (b : Bool) (xs : List Told) → told_on (cond b xs []) ≡ cond b (told_on xs) []
  on_either true xs = refl
  on_either false xs = refl

  on_flat : (F : ℕ → List Told) (j n : ℕ) → told_on (flat F j n) ≡ flat (λ k. told_on (F k)) j n
  on_flat F j zero = refl
  on_flat F j (suc n) = on_append (F j) (flat F (suc j) n) ∙ ap (λ xs. told_on (F j) ++ xs) (on_flat F (suc j) n)

  -- what is told by sections is told item by item
  by_items : (n : ℕ) (is : List PendingItem) → AllByRecursion (λ i. i.section < n) is → IsPermutation (flat (λ k. told_on (told_in k is)) 0 n) (told_on (told_all is))
  by_items n [] h = subst (λ (xs : List LineData). IsPermutation xs []) (sym (flat_none {X = LineData} 0 n)) (IsPermutation-refl [])
  by_items n (i ∷ is) h =
      let own = told_by i i.content in
      let A : ℕ → List LineData = λ k. cond (eqb i.section k) (told_on own) [] in
      let B : ℕ → List LineData = λ k. told_on (told_in k is) in
      let each : (k : ℕ) → told_on (told_in k (i ∷ is)) ≡ A k ++ B k = λ k. on_append (told_part k i) (told_in k is) ∙ ap (λ xs. xs ++ told_on (told_in k is)) (on_either (eqb i.section k) own) in
      let l = h.0 in
      let first : flat A 0 n ≡ told_on own = flat_one (told_on own) i.section 0 n (omega arith) (omega (arith, l)) in
      let split = flat_split A B 0 n in
      let rest = IsPermutation-append_right (told_on own) (flat B 0 n) (told_on (told_all is)) (by_items n is h.1) in
      let whole = IsPermutation-trans (flat (λ k. A k ++ B k) 0 n) (told_on own ++ flat B 0 n) (told_on own ++ told_on (told_all is)) (subst (λ (xs : List LineData). IsPermutation (flat (λ k. A k ++ B k) 0 n) (xs ++ flat B 0 n)) first split) rest in
      subst (IsPermutation (flat (λ k. told_on (told_in k (i ∷ is))) 0 n)) (sym (on_append own (told_all is)))
      (subst (λ (xs : List LineData). IsPermutation xs (told_on own ++ told_on (told_all is))) (sym (flat_same (λ k. told_on (told_in k (i ∷ is))) (λ k. A k ++ B k) 0 n each)) whole)

  -- what is told of an item's mark is told of its statement
  one_traced : (names : Definitions) (i : PendingItem) (c : Content) → told_on (told_by i c) ≡ map line_of (filter is_on_page_0 (map (traced i.origin) (item_statements modules places number m names i c)))
  one_traced names i (Operands (target.Instruction f) trees) = by (eqb (section_page places m i.section) 0)
    where
      by : (b : Bool) → map told_of (cond b (told_by i (Operands (target.Instruction f) trees)) [])
          ≡ map line_of (cond b (map (traced i.origin) (item_statements modules places number m names i (Operands (target.Instruction f) trees))) [])
      by true =
          ap (λ n. record { mark = record { address = section_base modules places number m i.section + i.offset; size = n }; file = i.origin.file; line = i.origin.line } ∷ [])
          (sym (size_of_form f (numbers_under modules places number m names i.section i.offset (target.Instruction f) trees)))
      by false = refl
  one_traced names i (Operands (target.Data w) trees) = refl
  one_traced names i (Words words) = refl
  one_traced names i (Zeros count) = refl
  one_traced names i (Exported exported) = refl

  all_traced : (names : Definitions) (is : List PendingItem) → told_on (told_all is) ≡ map line_of (filter is_on_page_0 (flat_map (traced_item modules places number m names) is))
  all_traced names [] = refl
  all_traced names (i ∷ is) =
      let own = traced_item modules places number m names i in
      let rest = flat_map (traced_item modules places number m names) is in
      on_append (told_by i i.content) (told_all is)
      ∙ (λ j. one_traced names i i.content j ++ all_traced names is j)
      ∙ sym (ap (map line_of) (filter-append is_on_page_0 own rest) ∙ map-append line_of (filter is_on_page_0 own) (filter is_on_page_0 rest))

  -- the lines of a module are told of its marks with their lines
  lines_told : (os : List (FileLine (List ℕ))) → map (named m.files) m.lines ≡ os → module_lines modules places number m ≡ told_on (zip m.marks os)
  lines_told os is =
      let pair : ModuleMark × LineMark → Told = λ t. (t.0, named m.files t.1) in
      let zipped : zip m.marks os ≡ map pair (zip m.marks m.lines) = ap (zip m.marks) (sym is) ∙ zip_mapped (named m.files) m.marks m.lines in
      sym (ap told_on zipped
      ∙ ap (map told_of) (filter_mapped on_page pair (zip m.marks m.lines))
      ∙ map-map told_of pair (filter (λ t. on_page (pair t)) (zip m.marks m.lines)))

-- the lines of a module are those of its statements
module_traced : (modules : List Contents) (places : List Place) (number : ℕ) (p : Progress) (ms : List Made) → IsMade p → Kept p
    → IsPermutation (map line_of (filter is_on_page_0 (traced_lines modules places number (module_with (filled_from 0 p.sections ms) (all_names p) p.exported) p)))
    (module_lines modules places number (module_with (filled_from 0 p.sections ms) (all_names p) p.exported))
module_traced modules places number p ms made kept =
    let m = module_with (filled_from 0 p.sections ms) (all_names p) p.exported in
    let os = flat_map (λ (s : Section). s.origins) (filled_from 0 p.sections ms) in
    let n = length p.sections in
    let each : AllFrom (IsToldBy p.items) 0 p.sections = all_sections (IsToldBy p.items) p.sections (λ k s at. (((made.kept).items.each k s at).marks, kept.origins k s at)) in
    let lines = lines_told modules places number m os (lines_named os no_lines) in
    let told = ap (told_on modules places number m) (sections_told p.items 0 p.sections ms each) ∙ on_flat modules places number m (λ k. told_in k p.items) 0 n in
    let there : AllByRecursion (λ i. i.section < n) p.items = weaker (λ (i : PendingItem). is_code (heads p.sections) i.section ≡ true) (λ (i : PendingItem). i.section < n) (λ i c. code_within p.sections i.section c) p.items kept.codes in
    let items = by_items modules places number m n p.items there in
    let a : module_lines modules places number m ≡ flat (λ k. told_on modules places number m (told_in k p.items)) 0 n = lines ∙ told in
    let b = all_traced modules places number m p.names p.items in
    IsPermutation-sym (module_lines modules places number m) (map line_of (filter is_on_page_0 (traced_lines modules places number m p)))
    (subst (IsPermutation (module_lines modules places number m)) b (subst (λ (xs : List LineData). IsPermutation xs (told_on modules places number m (told_all p.items))) (sym a) items))

-- ---- all modules

module _ (modules : List Contents) (places : List Place) (files : Files) where
  source_traced : (number : ℕ) (name : List ℕ) (a : Assembled) → assembled files name ≡ Ok a
      → IsPermutation (map line_of (filter is_on_page_0 (traced_lines modules places number a.contents (lines_in files name)))) (module_lines modules places number a.contents)
  source_traced number name a e =
      let from = comes_from files name a e in
      let read = is_read files name a e in
      let p = from.progress in
      let same : (read.lines).progress ≡ p = sym read.lines_are ∙ from.lines_are in
      let one = module_traced modules places number p from.made from.kept (subst Kept same (read.listed).kept) in
      subst (λ (m : Contents). IsPermutation (map line_of (filter is_on_page_0 (traced_lines modules places number m (lines_in files name)))) (module_lines modules places number m)) (sym from.module_is)
      (subst (λ (q : Progress). IsPermutation (map line_of (filter is_on_page_0 (traced_lines modules places number (module_with (filled_from 0 p.sections from.made) (all_names p) p.exported) q)))
      (module_lines modules places number (module_with (filled_from 0 p.sections from.made) (all_names p) p.exported))) (sym from.lines_are) one)

  sources_traced : (number : ℕ) (names : List (List ℕ)) (ms : List Contents) → AreModulesOf files names ms
      → IsPermutation (map line_of (filter is_on_page_0 (traced_from modules places number ms (map (lines_in files) names)))) (by_modules (module_lines modules places) number ms)
  sources_traced number [] [] h = IsPermutation-refl []
  sources_traced number [] (m ∷ ms) h = absurd h
  sources_traced number (name ∷ names) [] h = absurd h
  sources_traced number (name ∷ names) (m ∷ ms) h =
      let a = h.0 in
      let own = traced_lines modules places number m (lines_in files name) in
      let rest = traced_from modules places (number + 1) ms (map (lines_in files) names) in
      let one = subst (λ (c : Contents). IsPermutation (map line_of (filter is_on_page_0 (traced_lines modules places number c (lines_in files name)))) (module_lines modules places number c)) a.2 (source_traced number name a.0 a.1) in
      subst (λ (xs : List LineData). IsPermutation xs (module_lines modules places number m ++ by_modules (module_lines modules places) (number + 1) ms))
      (sym (ap (map line_of) (filter-append is_on_page_0 own rest) ∙ map-append line_of (filter is_on_page_0 own) (filter is_on_page_0 rest)))
      (IsPermutation-append (map line_of (filter is_on_page_0 own)) (module_lines modules places number m) (map line_of (filter is_on_page_0 rest)) (by_modules (module_lines modules places) (number + 1) ms) one (sources_traced (number + 1) names ms h.1))

-- the lines of a program are those of its statements
pub lines_traced : (files : Files) (names : List (List ℕ)) (modules : List Contents) (command : CommandData) (image : ImageData) → AreModulesOf files names modules → (p : IsProgram modules command image)
    → IsPermutation (map line_of (filter is_on_page_0 (traced_statements files names modules p.places))) image.lines
lines_traced files names modules command image of p =
    IsPermutation-trans (map line_of (filter is_on_page_0 (traced_statements files names modules p.places))) (program_lines modules p.places) image.lines (sources_traced modules p.places files 0 names modules of) p.lines.same

-- ---- the line at an address

-- a line that is there lies behind
lies_behind : (low : ℕ) (lines : List LineData) (x : LineData) → fit_from low (map (λ l. l.mark) lines) ≡ true → Contains lines x → low ≤ x.mark.address
lies_behind low [] x h c = absurd (nothing_in x c)
lies_behind low (l ∷ ls) x h c =
    let f = and_parts (fits_behind low l.mark) (fit_from (l.mark.address + l.mark.size) (map (λ l. l.mark) ls)) h in
    let b = behind_low low l f.0 in
    elim (in_front l x ls c) [
      | inl e ↦ (let s = ap (λ (y : LineData). y.mark.address) e in omega (arith, b, s))
      | inr later ↦ (let r = lies_behind (l.mark.address + l.mark.size) ls x f.1 later in omega (arith, r, b))
    ]
  where
    behind_low : (low : ℕ) (l : LineData) → fits_behind low l.mark ≡ true → low ≤ l.mark.address
    behind_low low l h =
        let a = and_parts (leb low l.mark.address && leb 1 l.mark.size && leb l.mark.size 2) (leb (l.mark.address + l.mark.size) 65536) h in
        let b = and_parts (leb low l.mark.address && leb 1 l.mark.size) (leb l.mark.size 2) a.0 in
        leb-true low l.mark.address (and_parts (leb low l.mark.address) (leb 1 l.mark.size) b.0).0

has_size : (low : ℕ) (l : LineData) → fits_behind low l.mark ≡ true → 1 ≤ l.mark.size
has_size low l h =
    let a = and_parts (leb low l.mark.address && leb 1 l.mark.size && leb l.mark.size 2) (leb (l.mark.address + l.mark.size) 65536) h in
    let b = and_parts (leb low l.mark.address && leb 1 l.mark.size) (leb l.mark.size 2) a.0 in
    leb-true 1 l.mark.size (and_parts (leb low l.mark.address) (leb 1 l.mark.size) b.0).1

-- a line that is there is found at its address
found_there : (low : ℕ) (lines : List LineData) (x : LineData) → fit_from low (map (λ l. l.mark) lines) ≡ true → Contains lines x → find (λ l. eqb l.mark.address x.mark.address) lines ≡ Some x
found_there low [] x h c = absurd (nothing_in x c)
found_there low (l ∷ ls) x h c =
    let f = and_parts (fits_behind low l.mark) (fit_from (l.mark.address + l.mark.size) (map (λ l. l.mark) ls)) h in
    let size = has_size low l f.0 in
    elim (in_front l x ls c) [
      | inl e ↦ ap (λ b. cond b (Some l) (find (λ l. eqb l.mark.address x.mark.address) ls)) (eq-eqb l.mark.address x.mark.address (ap (λ (y : LineData). y.mark.address) e)) ∙ ap Some e
      | inr later ↦ (
          let r = lies_behind (l.mark.address + l.mark.size) ls x f.1 later in
          ap (λ b. cond b (Some l) (find (λ l. eqb l.mark.address x.mark.address) ls)) (ne_eqb l.mark.address x.mark.address (λ e. omega (arith, r, size, e)))
          ∙ found_there (l.mark.address + l.mark.size) ls x f.1 later
          )
    ]

-- the line at the address of a statement is the statement's
pub line_found : (files : Files) (names : List (List ℕ)) (modules : List Contents) (command : CommandData) (image : ImageData) → AreModulesOf files names modules → (p : IsProgram modules command image)
    → (t : TracedStatement) → Contains (traced_statements files names modules p.places) t → is_on_page_0 t ≡ true → line_at t.statement.load image.lines ≡ Some (t.origin.file, t.origin.line)
line_found files names modules command image of p t c on =
    let all = traced_statements files names modules p.places in
    let some = filter is_on_page_0 all in
    let there = in_map line_of some t (in_filter is_on_page_0 all t c on) in
    let moved = Contains-permutation (map line_of some) image.lines (line_of t) (lines_traced files names modules command image of p) there in
    ap (option_map (λ (l : LineData). (l.file, l.line))) (found_there 0 image.lines (line_of t) p.lines.ascend moved)
