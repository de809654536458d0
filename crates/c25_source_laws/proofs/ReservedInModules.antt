-- Where a module has the words that its source reserves.
use Rattle.std.proofs.Common.{◌≡◌, ℕ, zero, suc, ◌+◌, ◌≤◌, Bool, true, false, cond, List, [], ◌∷◌, ◌++◌, map, Some, Ok, Result, refl, sym, ap, ◌∙◌, subst, arith}
use Rattle.std.specs.List.{AllByRecursion, Contains, flat_map, slice_get}
use Rattle.std.proofs.lemmas.Bool.{false≢true}
use Rattle.std.proofs.lemmas.List.Elements.{Contains-append_left, Contains-append_right}
use Rattle.std.specs.Str.{bytes_eq}
use Rattle.std.proofs.lemmas.Slice.Eq.{bytes_eq-Decides}
use Rattle.c25_meaning_assembly.proofs.Distinct.{both, neither}
use Rattle.c25_meaning_assembly.specs.Emission.{all_names, extended, module_with, section_of}
use Rattle.c25_meaning_assembly.specs.ModuleOfSource.{Assembled, LinesSoFar, assembled, completed, passed_from}
use Rattle.c25_meaning_assembly.specs.Sections.{Definitions, PendingItem, Progress, Section, are_distinct, is_in}
use Rattle.c25_meaning_language.specs.declared.value.Value.{Value}
use Rattle.c25_meaning_common.specs.Results.{◌>>=◌}
use Rattle.c25_meaning_expansion.specs.ExpansionRuns.{start_of}
use Rattle.c25_meaning_expansion.specs.Files.{Files}
use Rattle.c25_meaning_language.specs.ExpansionFault.{ExpansionFault}
use Rattle.c25_meaning_objects.specs.Module.{Contents, SectionData, Initialised, Uninitialised, has_words}
use Rattle.c25_meaning_objects.specs.declared.object.Block.{Block}
use Rattle.c25_module_laws.proofs.Emitted.{Made, filled_from, relocations_at, words_at}
use Rattle.c25_module_laws.proofs.Kept.{first_names, heads, is_code}
use Rattle.c25_module_laws.proofs.KeptActs.{code_section}
use Rattle.c25_module_laws.proofs.ResultSteps.{bound}
use Rattle.c25_laws.proofs.StatementsUnder.{comes_from}
use Rattle.c25_laws.specs.ProgramStatements.{lines_in, without_fault}
use Rattle.c25_source_laws.specs.Reservations.{IsReserved, Reservation, reservations_in, reserved_words}
use Rattle.c25_source_laws.proofs.Reserving.{IsSet, part_same, set_behind, words_more}
use Rattle.c25_source_laws.proofs.LinesReserve.{Keeps, source_reserves}

-- ---- sections of the module

-- a section of the lines in the module
abbrev data_in : ℕ → List Made → Section → SectionData
data_in k ms s = section_of (extended (words_at k ms) (relocations_at k ms) s)

section_in : (k j : ℕ) (ss : List Section) (ms : List Made) (s : Section) → slice_get ss k ≡ Some s → slice_get (map section_of (filled_from j ss ms)) k ≡ Some (data_in (j + k) ms s)
section_in k j [] ms s at = absurd (cc)
section_in zero j (x ∷ xs) ms s at = let q : x ≡ s = cc in let z : j ≡ j + 0 = omega arith in λ i. Some (data_in (z i) ms (q i))
section_in (suc k) j (x ∷ xs) ms s at = let z : suc j + k ≡ j + suc k = omega arith in section_in k (suc j) xs ms s at ∙ ap (λ n. Some (data_in n ms s)) z

section_from : (k j : ℕ) (ss : List Section) (ms : List Made) (d : SectionData) → slice_get (map section_of (filled_from j ss ms)) k ≡ Some d → (s : Section) × (slice_get ss k ≡ Some s) × (d ≡ data_in (j + k) ms s)
section_from k j [] ms d at = absurd (cc)
section_from zero j (x ∷ xs) ms d at =
    let q : data_in j ms x ≡ d = cc in
    let z : j ≡ j + 0 = omega arith in
    (x, refl, sym q ∙ ap (λ n. data_in n ms x) z)
section_from (suc k) j (x ∷ xs) ms d at =
    let f = section_from k (suc j) xs ms d at in
    let z : suc j + k ≡ j + suc k = omega arith in
    (f.0, f.1, f.2 ∙ ap (λ n. data_in n ms f.0) z)

block_in : (k j : ℕ) (ss : List Section) (ms : List Made) (s : Section) (b : Block) → slice_get ss k ≡ Some s → Contains s.blocks b → Contains (flat_map (λ s. s.blocks) (filled_from j ss ms)) b
block_in k j [] ms s b at h = absurd (cc)
block_in zero j (x ∷ xs) ms s b at h =
    let q : x ≡ s = cc in
    Contains-append_left x.blocks (flat_map (λ s. s.blocks) (filled_from (suc j) xs ms)) b (subst (λ (y : Section). Contains y.blocks b) (sym q) h)
block_in (suc k) j (x ∷ xs) ms s b at h = Contains-append_right x.blocks (flat_map (λ s. s.blocks) (filled_from (suc j) xs ms)) b (block_in k (suc j) xs ms s b at h)

bare_body : (k : ℕ) (ms : List Made) (s : Section) → s.initialised ≡ false → (data_in k ms s).body ≡ Uninitialised s.size
bare_body k ms s bare = ap (λ b. cond b (Initialised (s.words ++ words_at k ms)) (Uninitialised s.size)) bare

code_body : (k : ℕ) (ms : List Made) (s : Section) → s.initialised ≡ true → has_words (data_in k ms s).body ≡ true
code_body k ms s code = ap (λ b. has_words (cond b (Initialised (s.words ++ words_at k ms)) (Uninitialised s.size))) code

-- ---- sources

-- what the lines of a source that assembles to a module have reserved
pub lines_reserve : (files : Files) (name : List ℕ) (a : Assembled) → assembled files name ≡ Ok a → Keeps (reservations_in files name) (lines_in files name)
unfolding assembled
lines_reserve files name a e =
    let b = bound (passed_from files name (start_of files name)) (λ b. completed b) a e in
    let lines : lines_in files name ≡ (b.0).progress = ap (λ (r : Result LinesSoFar ExpansionFault). without_fault (r >>= λ (x : LinesSoFar). Ok x.progress)) b.1 in
    subst (Keeps (reservations_in files name)) (sym lines) (source_reserves files (start_of files name) name b.0 b.1)

-- the module of lines
abbrev module_of : Progress → List Made → Contents
module_of p ms = module_with (filled_from 0 p.sections ms) (all_names p) p.exported

all_before : (name : List ℕ) (before after : List Reservation) (r : Reservation) → r.section ≡ name → reserved_words name before + r.count ≤ reserved_words name (before ++ r ∷ after)
all_before name before after r e =
    let a = words_more name before (r ∷ after) in
    let b = part_same name r e in
    omega (arith, a, b)

set_in_module : (p : Progress) (ms : List Made) (before after : List Reservation) (r : Reservation) → Keeps (before ++ r ∷ after) p → IsReserved (module_of p ms) p.names before r
set_in_module p ms before after r keeps =
    let z : 0 + reserved_words r.section before ≡ reserved_words r.section before = omega arith in
    let h : IsSet p.sections p.names (reserved_words r.section before) r = subst (λ (n : ℕ). IsSet p.sections p.names n r) z (set_behind p.sections p.names (λ n. 0) before after r keeps.set) in
    let s = h.section in
    let size : s.size ≡ reserved_words r.section (before ++ r ∷ after) = keeps.sizes h.number s h.section_is h.bare ∙ ap (λ n. reserved_words n (before ++ r ∷ after)) h.name_is in
    let all = all_before r.section before after r refl in
    record {
      number = h.number;
      section = data_in (0 + h.number) ms s;
      size = s.size;
      section_is = section_in h.number 0 p.sections ms s h.section_is;
      name_is = h.name_is;
      body_is = bare_body (0 + h.number) ms s h.bare;
      inside = omega (arith, size, all);
      value_is = h.value_is;
      block_is = λ paged. block_in h.number 0 p.sections ms s (record { section = h.number; offset = reserved_words r.section before; size = r.count }) h.section_is (h.block_is paged);
      block_small = h.block_small;
    }

pub places : (files : Files) (name : List ℕ) (a : Assembled) → assembled files name ≡ Ok a → (before after : List Reservation) (r : Reservation) → reservations_in files name ≡ before ++ r ∷ after → IsReserved a.contents (lines_in files name).names before r
places files name a e before after r is =
    let h = comes_from files name a e in
    let keeps : Keeps (before ++ r ∷ after) (lines_in files name) = subst (λ (xs : List Reservation). Keeps xs (lines_in files name)) is (lines_reserve files name a e) in
    let there = subst (Keeps (before ++ r ∷ after)) h.lines_are keeps in
    subst (λ (p : Progress). IsReserved a.contents p.names before r) (sym h.lines_are)
    (subst (λ (m : Contents). IsReserved m (h.progress).names before r) (sym h.module_is) (set_in_module h.progress h.made before after r there))

kind_of_body : (b : Bool) (words : List ℕ) (size n : ℕ) → cond b (Initialised words) (Uninitialised size) ≡ Uninitialised n → (b ≡ false) × (size ≡ n)
kind_of_body true words size n e = absurd (cc)
kind_of_body false words size n e = (refl, cc)

pub sizes : (files : Files) (name : List ℕ) (a : Assembled) → assembled files name ≡ Ok a → (k : ℕ) (section : SectionData) (size : ℕ) → slice_get a.contents.sections k ≡ Some section → section.body ≡ Uninitialised size
    → size ≡ reserved_words section.name (reservations_in files name)
sizes files name a e k section size at body =
    let h = comes_from files name a e in
    let p = h.progress in
    let keeps : Keeps (reservations_in files name) p = subst (Keeps (reservations_in files name)) h.lines_are (lines_reserve files name a e) in
    let there : slice_get (module_of p h.made).sections k ≡ Some section = subst (λ (m : Contents). slice_get m.sections k ≡ Some section) h.module_is at in
    let f = section_from k 0 p.sections h.made section there in
    let s = f.0 in
    let b = kind_of_body s.initialised (s.words ++ words_at (0 + k) h.made) s.size size (sym (ap (λ (d : SectionData). d.body) f.2) ∙ body) in
    sym b.1 ∙ keeps.sizes k s f.1 b.0 ∙ ap (λ (d : SectionData). reserved_words d.name (reservations_in files name)) (sym f.2)

pub apart : (before between after : List Reservation) (r s : Reservation) → r.section ≡ s.section → reserved_words r.section before + r.count ≤ reserved_words s.section (before ++ r ∷ between)
apart before between after r s e = subst (λ (name : List ℕ). reserved_words r.section before + r.count ≤ reserved_words name (before ++ r ∷ between)) e (all_before r.section before between r refl)

each_of : {X : Type 0} (P : X → Type 0) (xs : List X) (x : X) → AllByRecursion P xs → Contains xs x → P x
each_of P [] x h c = absurd (let l = c.1 in omega (arith, l))
each_of P (y ∷ ys) x h (zero, l, e) = subst P e h.0
each_of P (y ∷ ys) x h (suc k, l, e) = each_of P ys x h.1 (k, omega (arith, l), e)

pub items : (files : Files) (name : List ℕ) (a : Assembled) → assembled files name ≡ Ok a → (i : PendingItem) → Contains (lines_in files name).items i
    → (section : SectionData) × (slice_get a.contents.sections i.section ≡ Some section) × (has_words section.body ≡ true)
items files name a e i c =
    let h = comes_from files name a e in
    let p = h.progress in
    let among : Contains p.items i = subst (λ (q : Progress). Contains q.items i) h.lines_are c in
    let code = each_of (λ (x : PendingItem). is_code (heads p.sections) x.section ≡ true) p.items i ((h.kept).kept).items.codes among in
    let s = code_section p.sections i.section code in
    let there : slice_get (module_of p h.made).sections i.section ≡ Some (data_in (0 + i.section) h.made s.0) = section_in i.section 0 p.sections h.made s.0 s.1 in
    (data_in (0 + i.section) h.made s.0, subst (λ (m : Contents). slice_get m.sections i.section ≡ Some (data_in (0 + i.section) h.made s.0)) (sym h.module_is) there, code_body (0 + i.section) h.made s.0 s.2)

-- ---- names

absent : (names : Definitions) (n : List ℕ) (w : Value) → is_in (first_names names) n ≡ false → Contains names (n, w) → ⊥
absent [] n w h c = let l = c.1 in omega (arith, l)
absent (x ∷ xs) n w h (zero, l, e) =
    let same : n ≡ x.0 = sym (ap (λ (y : List ℕ × Value). y.0) e) in
    absurd (false≢true (sym (neither (bytes_eq n x.0) (is_in (first_names xs) n) h).0 ∙ (bytes_eq-Decides n x.0).1 same))
absent (x ∷ xs) n w h (suc k, l, e) = absent xs n w (neither (bytes_eq n x.0) (is_in (first_names xs) n) h).1 (k, omega (arith, l), e)

one_value : (names : Definitions) (n : List ℕ) (v w : Value) → are_distinct (first_names names) ≡ true → Contains names (n, v) → Contains names (n, w) → v ≡ w
one_value [] n v w h c d = absurd (let l = c.1 in omega (arith, l))
one_value (x ∷ xs) n v w h (zero, l, e) (zero, m, f) = ap (λ (y : List ℕ × Value). y.1) (sym e ∙ f)
one_value (x ∷ xs) n v w h (zero, l, e) (suc k, m, f) =
    let p = both (is_in (first_names xs) x.0) (are_distinct (first_names xs)) h in
    let same : x.0 ≡ n = ap (λ (y : List ℕ × Value). y.0) e in
    absurd (absent xs n w (subst (λ (z : List ℕ). is_in (first_names xs) z ≡ false) same p.0) (k, omega (arith, m), f))
one_value (x ∷ xs) n v w h (suc k, l, e) (zero, m, f) =
    let p = both (is_in (first_names xs) x.0) (are_distinct (first_names xs)) h in
    let same : x.0 ≡ n = ap (λ (y : List ℕ × Value). y.0) f in
    absurd (absent xs n v (subst (λ (z : List ℕ). is_in (first_names xs) z ≡ false) same p.0) (k, omega (arith, l), e))
one_value (x ∷ xs) n v w h (suc j, l, e) (suc k, m, f) =
    one_value xs n v w (both (is_in (first_names xs) x.0) (are_distinct (first_names xs)) h).1 (j, omega (arith, l), e) (k, omega (arith, m), f)

pub names : (files : Files) (name : List ℕ) (a : Assembled) → assembled files name ≡ Ok a → (n : List ℕ) (v w : Value) → Contains (lines_in files name).names (n, v) → Contains (lines_in files name).names (n, w) → v ≡ w
names files name a e n v w c d =
    let h = comes_from files name a e in
    let there : are_distinct (first_names (lines_in files name).names) ≡ true = subst (λ (p : Progress). are_distinct (first_names p.names) ≡ true) (sym h.lines_are) ((h.kept).kept).names.distinct in
    one_value (lines_in files name).names n v w there c d
