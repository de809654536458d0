-- The module of a source is a module.
use Rattle.std.proofs.Common.{◌≡◌, ℕ, suc, ◌+◌, ◌≤◌, ◌<◌, ◌^◌, true, false, List, [], ◌∷◌, ◌++◌, length, map, eqb, ltb, Some, Ok, refl, sym, ap, ◌∙◌, subst, arith}
use Rattle.std.specs.Int.{w32}
use Rattle.std.specs.Int.RustNames.{FitsSigned}
use Rattle.std.specs.List.{AllByRecursion, flat_map, slice_get}
use Rattle.std.proofs.lemmas.Bool.{and_from, eq-eqb, lt-ltb, false≢true}
use Rattle.std.proofs.lemmas.List.{length-map}
use Rattle.c25_meaning_assembly.specs.Emission.{all_names, emit_all, finished, lines_in, module_with, section_of, symbol_of}
use Rattle.c25_meaning_expansion.specs.ExpansionRuns.{start_of}
use Rattle.c25_meaning_expansion.specs.Files.{Files}
use Rattle.c25_meaning_objects.specs.Module as modules
use Rattle.c25_meaning_objects.specs.Module.{Contents, IsModule, IsSized, SectionData, SymbolData, block_fits, body_words, each_fits, has_symbol, is_module, mark_fits, relocation_fits, section_fits, symbol_fits, used}
use Rattle.c25_meaning_assembly.specs.ModuleOfSource.{Assembled, LinesSoFar, assembled, completed, passed_from}
use Rattle.c25_meaning_assembly.specs.Sections.{Definitions, PendingItem, Progress, Section, place}
use Rattle.c25_meaning_objects.specs.declared.object.ModuleMark.{ModuleMark}
use Rattle.c25_meaning_objects.specs.declared.object.Relocation.{Relocation}
use Rattle.c25_meaning_objects.specs.declared.object.Version.TheVariants.{Two}
use Rattle.c25_meaning_language.specs.declared.value.Base.{Base}
use Rattle.c25_module_laws.proofs.BlocksFit.{blocks_fit, blocks_in, lines_are}
use Rattle.c25_module_laws.proofs.Emitted.{Give, Made, all_emitted, filled_from, filled_none, relocations_at, words_at}
use Rattle.c25_module_laws.proofs.Kept.{AllKept, Head, heads, is_code, marks_in, part_there, total}
use Rattle.c25_module_laws.proofs.KeptActs.{code_is, code_section, code_within}
use Rattle.c25_module_laws.proofs.KeptLines.{IsMade, source_made}
use Rattle.c25_module_laws.proofs.LineWords.{AreFilled}
use Rattle.c25_module_laws.proofs.ModuleFits.{AllFrom, IsFull, all_sections, data_words, marks_fit, module_words, relocations_fit, sections_fit}
use Rattle.c25_module_laws.proofs.ResultSteps.{bound}
use Rattle.c25_module_laws.proofs.SectionsFilled.{AreMadeOf, AreMarks, all_made_of, laid_within, section_filled, section_marks, section_size, section_words}
use Rattle.c25_module_laws.proofs.Spoken.{AreWords}
use Rattle.c25_module_laws.proofs.Symbols.{IsBase, IsGoodSymbol, all_count, all_distinct, all_good, all_known, symbols_fit}
use Rattle.c25_module_laws.proofs.Valued.{IsGoodValue, natural_fits}

-- ---- sections without items

none_total : (hs : List Head) (k : ℕ) (is : List PendingItem) → is_code hs k ≡ false → AllByRecursion (λ i. is_code hs i.section ≡ true) is → total k is ≡ 0
none_total hs k [] bare h = refl
none_total hs k (i ∷ is) bare h =
    let a = part_there k i (λ e. false≢true (sym bare ∙ ap (is_code hs) e ∙ h.0)) in
    let b = none_total hs k is bare h.1 in
    omega (arith, a, b)

no_words : (ws : List ℕ) → length ws ≡ 0 → ws ≡ []
no_words [] h = refl
no_words (w ∷ ws) h = absurd (omega (arith, h))

-- what the sections, marks, symbols and relocations of all lines are
pub record IsFinished (p : Progress) (ms : List Made) (m : Contents) : Type 0 where
  pub give : Give (all_names p) p.items ms
  pub module_is : m ≡ module_with (filled_from 0 p.sections ms) (all_names p) p.exported

pub finished_is : (p : Progress) (m : Contents) → finished p ≡ Ok m → (ms : List Made) × IsFinished p ms m
unfolding finished
finished_is p m e =
    let a = bound (emit_all (all_names p) p.sections p.items) (λ sections. Ok (module_with sections (all_names p) p.exported)) m e in
    let out = all_emitted (all_names p) p.sections p.items a.0 a.1 in
    let same : module_with a.0 (all_names p) p.exported ≡ m = let last = a.2 in cc in
    (out.0, record { give = out.1; module_is = sym same ∙ ap (λ (ss : List Section). module_with ss (all_names p) p.exported) out.2 })

-- ---- what holds of all lines

-- what values may count from
abbrev pub base_in : Progress → Base → Type 0
base_in p = IsBase (length p.sections) (map (symbol_of p.exported) (all_names p))

item_placed : (p : Progress) (i : PendingItem) → AllKept p → is_code (heads p.sections) i.section ≡ true → i.offset ≤ 0 + total i.section p.items → IsGoodValue (base_in p) (place i.section i.offset)
item_placed p i kept code within =
    let s = code_section p.sections i.section code in
    let h = kept.items.each i.section s.0 s.1 in
    let l = h.laid s.2 in
    let small = h.small in
    (code_within p.sections i.section code, natural_fits i.offset (omega (arith, within, l, small)))

pub items_placed : (p : Progress) (is : List PendingItem) → AllKept p → AllByRecursion (λ i. is_code (heads p.sections) i.section ≡ true) is → AllByRecursion (λ i. i.offset ≤ 0 + total i.section p.items) is
    → AllByRecursion (λ i. IsGoodValue (base_in p) (place i.section i.offset)) is
items_placed p [] kept g h = tt
items_placed p (i ∷ is) kept g h = (item_placed p i kept g.0 h.0, items_placed p is kept g.1 h.1)

-- what the items give is good
pub made_good : (p : Progress) (ms : List Made) → AllKept p → Give (all_names p) p.items ms → AreMadeOf (base_in p) p.items ms
made_good p ms kept give =
    all_made_of (base_in p) tt (all_names p) (all_known (length p.sections) p.names p.declared p.exported kept.names.symbols) p.items ms kept.items.good
    (items_placed p p.items kept kept.items.codes (laid_within (λ k. 0) p.items kept.items.laid)) give

full_section : (p : Progress) (ms : List Made) (k : ℕ) (s : Section) → AllKept p → AreMadeOf (base_in p) p.items ms → slice_get p.sections k ≡ Some s → IsFull ms k s
full_section p ms k s kept good at =
    let h = kept.items.each k s at in
    let size = section_size (base_in p) k p.items ms good in
    record {
      small = h.small;
      size = λ is. size ∙ sym (h.laid is);
      bare = λ is. no_words (words_at k ms) (size ∙ none_total (heads p.sections) k p.items (code_is p.sections k s at ∙ is) kept.items.codes);
      empty = h.words;
    }

pub all_full : (p : Progress) (ms : List Made) → AllKept p → AreMadeOf (base_in p) p.items ms → AllFrom (IsFull ms) 0 p.sections
all_full p ms kept good = all_sections (IsFull ms) p.sections (λ k s at. full_section p ms k s kept good at)

-- the sections of the module
abbrev pub data_in : Progress → List Made → List SectionData
data_in p ms = map section_of (filled_from 0 p.sections ms)

pub words_in_module : (p : Progress) (ms : List Made) (k : ℕ) (s : Section) → AllKept p → AreMadeOf (base_in p) p.items ms → slice_get p.sections k ≡ Some s → modules.words_at (data_in p ms) k ≡ words_at k ms
words_in_module p ms k s kept good at = let z : 0 + k ≡ k = omega arith in module_words ms 0 k p.sections s (all_full p ms kept good) at ∙ ap (λ n. words_at n ms) z

marks_in_module : (p : Progress) (ms : List Made) (k : ℕ) (s : Section) → AllKept p → AreMadeOf (base_in p) p.items ms → slice_get p.sections k ≡ Some s → AreMarks k 0 (length (modules.words_at (data_in p ms) k)) s.marks
marks_in_module p ms k s kept good at =
    let size : 0 + total k p.items ≡ length (modules.words_at (data_in p ms) k) =
    (let a = section_size (base_in p) k p.items ms good in let b = ap (λ (ws : List ℕ). length ws) (words_in_module p ms k s kept good at) in omega (arith, a, b)) in
    subst (λ (xs : List ModuleMark). AreMarks k 0 (length (modules.words_at (data_in p ms) k)) xs) (sym ((kept.items.each k s at).marks))
    (subst (λ (n : ℕ). AreMarks k 0 n (marks_in k p.items)) size (section_marks k (λ k. 0) p.items kept.items.laid))

length_filled : (k : ℕ) (ss : List Section) (ms : List Made) → length (filled_from k ss ms) ≡ length ss
length_filled k [] ms = refl
length_filled k (s ∷ ss) ms = ap suc (length_filled (suc k) ss ms)

length_data : (p : Progress) (ms : List Made) → length (data_in p ms) ≡ length p.sections
length_data p ms = length-map (filled_from 0 p.sections ms) section_of ∙ length_filled 0 p.sections ms

relocations_in_module : (p : Progress) (ms : List Made) (k : ℕ) (s : Section) → AllKept p → AreMadeOf (base_in p) p.items ms → slice_get p.sections k ≡ Some s
    → (s.relocations ≡ []) × ((high : ℕ) × AreFilled (IsBase (length (data_in p ms)) (map (symbol_of p.exported) (all_names p))) k 0 (modules.words_at (data_in p ms) k) 0 high (relocations_at k ms))
relocations_in_module p ms k s kept good at =
    let filled = section_filled (base_in p) k (λ k. 0) [] p.items ms refl kept.items.laid good in (
      (kept.items.each k s at).relocations,
      (
        0 + total k p.items,
        subst (λ (ws : List ℕ). AreFilled (IsBase (length (data_in p ms)) (map (symbol_of p.exported) (all_names p))) k 0 ws 0 (0 + total k p.items) (relocations_at k ms)) (sym (words_in_module p ms k s kept good at))
            (subst (λ (n : ℕ). AreFilled (IsBase n (map (symbol_of p.exported) (all_names p))) k 0 (words_at k ms) 0 (0 + total k p.items) (relocations_at k ms)) (sym (length_data p ms)) filled),
      ),
    )

-- ---- the module is one

some_sections : (sections : List Section) (k : ℕ) → is_code (heads sections) k ≡ true → 0 < length sections
some_sections [] k h = absurd (cc)
some_sections (s ∷ ss) k h = omega arith

none_before : (xs : Definitions) → AllByRecursion (λ x. has_symbol [] x.0 ≡ false) xs
none_before [] = tt
none_before (x ∷ xs) = (refl, none_before xs)

module_fits : (p : Progress) (ms : List Made) → IsMade p → AreMadeOf (base_in p) p.items ms → is_module (module_with (filled_from 0 p.sections ms) (all_names p) p.exported) ≡ true
module_fits p ms made good =
    let kept = made.kept in
    let D = data_in p ms in
    let symbols = map (symbol_of p.exported) (all_names p) in
    let size = length_data p ms in
    let some = some_sections p.sections p.current kept.sections.code in
    let sections : each_fits section_fits [] D ≡ true = sections_fit ms 0 [] p.sections (all_full p ms kept good) kept.sections.fit in
    let marks : each_fits (mark_fits D) [] (flat_map (λ s. s.marks) (filled_from 0 p.sections ms)) ≡ true =
    marks_fit D ms 0 p.sections [] (all_sections (λ n s. AreMarks n 0 (length (modules.words_at (data_in p ms) n)) s.marks) p.sections (λ k s at. marks_in_module p ms k s kept good at)) tt in
    let count = all_count p.names p.declared in
    let few = made.few in
    let names : each_fits (symbol_fits Two D) [] symbols ≡ true =
    symbols_fit D p.exported [] (all_names p) (all_good D (length p.sections) p.names p.declared p.exported (sym size) kept.names.symbols kept.declared.symbols kept.declared.seen)
    (all_distinct p.names p.declared kept.names.distinct kept.declared.distinct) (none_before (all_names p)) (omega (arith, count, few)) in
    let relocations : each_fits (relocation_fits Two D symbols) [] (flat_map (λ s. s.relocations) (filled_from 0 p.sections ms)) ≡ true =
    relocations_fit D symbols ms 0 p.sections []
    (all_sections (λ n s. (s.relocations ≡ []) × ((high : ℕ) × AreFilled (IsBase (length (data_in p ms)) (map (symbol_of p.exported) (all_names p))) n 0 (modules.words_at (data_in p ms) n) 0 high (relocations_at n ms))) p.sections
    (λ k s at. relocations_in_module p ms k s kept good at)) tt in
    let told = lines_are p.files ms p.sections kept.told in
    let lines = lines_in (filled_from 0 p.sections ms) in
    let blocks : each_fits (block_fits D) [] (flat_map (λ s. s.blocks) (filled_from 0 p.sections ms)) ≡ true = blocks_fit D ms 0 p.sections [] (blocks_in p.files ms p.sections kept.told) tt in
    let are_told = and_from (eqb (length lines.lines) (length (flat_map (λ s. s.marks) (filled_from 0 p.sections ms)))) (eqb (used lines.lines) (length lines.files)) (eq-eqb _ _ told.count) (eq-eqb _ _ told.used_is) in
    and_from (ltb 0 (length D)) (modules.lists_fit (module_with (filled_from 0 p.sections ms) (all_names p) p.exported)) (lt-ltb 0 (length D) (omega (arith, size, some)))
    (and_from _ _ sections (and_from _ _ marks (and_from _ _ names (and_from _ _ relocations (and_from _ _ told.files_fit (and_from _ _ told.lines_fit (and_from _ _ are_told blocks)))))))

-- ---- its numbers

sized_words : (ms : List Made) (k : ℕ) (ss : List Section) → AllFrom (IsFull ms) k ss → ((n : ℕ) → AreWords (words_at n ms)) → AllByRecursion (λ s. AllByRecursion (λ w. w < 2 ^ 16) (body_words s.body)) (map section_of (filled_from k ss ms))
sized_words ms k [] full words = tt
sized_words ms k (s ∷ ss) full words = (subst AreWords (sym (data_words ms k s full.0)) (words k), sized_words ms (suc k) ss full.1 words)

sized_values : (D : List SectionData) (exported : List (List ℕ)) (xs : Definitions) → AllByRecursion (IsGoodSymbol D exported) xs → AllByRecursion (λ y. FitsSigned w32 y.value) (map (symbol_of exported) xs)
sized_values D exported [] h = tt
sized_values D exported (x ∷ xs) h = ((h.0).fits, sized_values D exported xs h.1)

both_addends : (xs ys : List Relocation) → AllByRecursion (λ r. FitsSigned w32 r.addend) xs → AllByRecursion (λ r. FitsSigned w32 r.addend) ys → AllByRecursion (λ r. FitsSigned w32 r.addend) (xs ++ ys)
both_addends [] ys g h = h
both_addends (x ∷ xs) ys g h = (g.0, both_addends xs ys g.1 h)

filled_addends : (B : Base → Type 0) (k : ℕ) (ws : List ℕ) (low high : ℕ) (rs : List Relocation) → AreFilled B k 0 ws low high rs → AllByRecursion (λ r. FitsSigned w32 r.addend) rs
filled_addends B k ws low high [] h = tt
filled_addends B k ws low high (r ∷ rs) h = ((h.1).fits, filled_addends B k ws (r.offset + 1) high rs h.2)

sized_addends : (B : Base → Type 0) (ms : List Made) (k : ℕ) (ss : List Section) → AllFrom (λ n s. (s.relocations ≡ []) × ((ws : List ℕ) × (high : ℕ) × AreFilled B n 0 ws 0 high (relocations_at n ms))) k ss
    → AllByRecursion (λ r. FitsSigned w32 r.addend) (flat_map (λ s. s.relocations) (filled_from k ss ms))
sized_addends B ms k [] h = tt
sized_addends B ms k (s ∷ ss) h =
    let own = (h.0).0 in
    let filled = (h.0).1 in
    both_addends (s.relocations ++ relocations_at k ms) (flat_map (λ s. s.relocations) (filled_from (suc k) ss ms))
    (subst (λ (xs : List Relocation). AllByRecursion (λ r. FitsSigned w32 r.addend) (xs ++ relocations_at k ms)) (sym own) (filled_addends B k filled.0 0 filled.1 (relocations_at k ms) filled.2))
    (sized_addends B ms (suc k) ss h.1)

module_sized : (p : Progress) (ms : List Made) → IsMade p → AreMadeOf (base_in p) p.items ms → IsSized (module_with (filled_from 0 p.sections ms) (all_names p) p.exported)
module_sized p ms made good =
    let kept = made.kept in
    record {
      words = sized_words ms 0 p.sections (all_full p ms kept good) (λ k. section_words (base_in p) k p.items ms good);
      values = sized_values (data_in p ms) p.exported (all_names p) (all_good (data_in p ms) (length p.sections) p.names p.declared p.exported (sym (length_data p ms)) kept.names.symbols kept.declared.symbols kept.declared.seen);
      addends = sized_addends (base_in p) ms 0 p.sections (all_sections (λ n s. (s.relocations ≡ []) × ((ws : List ℕ) × (high : ℕ) × AreFilled (base_in p) n 0 ws 0 high (relocations_at n ms))) p.sections
          (λ k s at. ((kept.items.each k s at).relocations, (words_at k ms, 0 + total k p.items, section_filled (base_in p) k (λ k. 0) [] p.items ms refl kept.items.laid good))));
      lines = (lines_are p.files ms p.sections kept.told).sized;
    }

-- ---- sources

pub finished_good : (p : Progress) (m : Contents) → IsMade p → finished p ≡ Ok m → IsModule m
finished_good p m made e =
    let f = finished_is p m e in
    let good = made_good p f.0 made.kept (f.1).give in
    subst IsModule (sym (f.1).module_is) (record { lists = module_fits p f.0 made good; sized = module_sized p f.0 made good })

pub source_good : (files : Files) (name : List ℕ) (a : Assembled) → assembled files name ≡ Ok a → IsModule a.contents
unfolding assembled
source_good files name a e =
    let b = bound (passed_from files name (start_of files name)) (λ b. completed b) a e in
    let c = bound (finished (b.0).progress) (λ m. Ok (record { contents = m; entries = (b.0).entries })) a b.2 in
    let made : Assembled = record { contents = c.0; entries = (b.0).entries } in
    let q : made ≡ a = let last = c.2 in cc in
    subst (λ (x : Assembled). IsModule x.contents) q (finished_good (b.0).progress c.0 (source_made files name (start_of files name) b.0 b.1) c.1)

-- a source's instructions stand in as many files as records can count
pub few_files : (files : Files) (name : List ℕ) (a : LinesSoFar) → passed_from files name (start_of files name) ≡ Ok a → length (lines_in (a.progress).sections).files ≤ 65535
few_files files name a e =
    let p = a.progress in
    let made = source_made files name (start_of files name) a e in
    subst (λ (ss : List Section). length (lines_in ss).files ≤ 65535) (filled_none 0 p.sections) ((lines_are p.files [] p.sections made.kept.told).few)
