-- The words, marks and relocations of each section of a module: as many words as its lines ask for, marks and relocations
-- that ascend within them.
use Rattle.std.proofs.Common.{◌≡◌, ℕ, zero, suc, ◌+◌, ◌≤◌, ◌%◌, Bool, true, false, cond, eqb, ◌||◌, List, [], ◌∷◌, ◌++◌, length, replicate, Some, Result, Ok, refl, sym, ap, ◌∙◌, subst, arith}
use Rattle.std.specs.List.{AllByRecursion, list_all}
use Rattle.std.proofs.lemmas.List.{append_assoc, length-append, get_or_append_left, get_or-append-add}
use Rattle.std.proofs.lemmas.Bool.{eqb-true, eqb-false}
use Rattle.c25_meaning_assembly.specs.Addresses.{operand_values, words_of, relocations_of}
use Rattle.c25_meaning_assembly.specs.OperandFields.{target_size}
use Rattle.c25_meaning_assembly.specs.Emission.{is_here, table_at}
use Rattle.c25_meaning_common.specs.Fields.{field_values}
use Rattle.c25_meaning_assembly.specs.Sections.{Definitions, Content, Operands, Words, Zeros, Exported, PendingItem, place}
use Rattle.c25_meaning_language.specs.Statement.{form_row}
use Rattle.c25_meaning_instructions.specs.Table.{size}
use Rattle.c25_meaning_language.specs.Value.{named_by, predefined, defined}
use Rattle.c25_meaning_assembly.specs.declared.assembly.Target.TheVariants as target
use Rattle.c25_meaning_instructions.specs.declared.mnemonic.Mnemonic.{Mnemonic}
use Rattle.c25_meaning_instructions.specs.declared.mnemonic.Mnemonic.TheVariants as family
use Rattle.c25_meaning_objects.specs.declared.object.ModuleMark.{ModuleMark}
use Rattle.c25_meaning_objects.specs.declared.object.Relocation.{Relocation}
use Rattle.c25_meaning_language.specs.declared.statement.FaultKind.{FaultKind}
use Rattle.c25_meaning_language.specs.declared.statement.FaultKind.TheVariants as fault
use Rattle.c25_meaning_language.specs.declared.value.Base.{Base}
use Rattle.c25_meaning_language.specs.declared.value.Base.TheVariants.{Absolute}
use Rattle.c25_meaning_language.specs.declared.value.Value.{Value}
use Rattle.c25_module_laws.proofs.Chains.{chain_append, chain_lower, chain_weaker}
use Rattle.c25_module_laws.proofs.Counted.{IsCount}
use Rattle.c25_module_laws.proofs.Emitted.{Made, made_by, Give, words_at, words_here, words_there, relocations_at, relocations_here, relocations_there}
use Rattle.c25_module_laws.proofs.Kept.{AreLaid, IsGoodContent, mark_by, mark_here, mark_there, marks_in, marks_part, part, part_here, part_there, total, words_in}
use Rattle.c25_module_laws.proofs.LineWords.{AreFilled, IsFilled, line_filled, line_size, line_words}
use Rattle.c25_module_laws.proofs.OperandsValued.{sheet_made}
use Rattle.c25_module_laws.proofs.ResultSteps.{bound, permitted}
use Rattle.c25_module_laws.proofs.Spoken.{AreWords}
use Rattle.c25_module_laws.proofs.Valued.{IsGoodValue}

-- ---- marks

abbrev pub is_size : ℕ → Bool
is_size n = eqb n 1 || eqb n 2

-- the marks of a section ascend from a place on and end by another
abbrev pub AreMarks : ℕ → ℕ → ℕ → List ModuleMark → Type 0
AreMarks k low high [] = low ≤ high
AreMarks k low high (m ∷ ms) = (m.section ≡ k) × (is_size m.size ≡ true) × (low ≤ m.offset) × AreMarks k (m.offset + m.size) high ms

marks_lower : (k less low high : ℕ) (ms : List ModuleMark) → less ≤ low → AreMarks k low high ms → AreMarks k less high ms
marks_lower k less low high [] l h = omega (arith, l, h)
marks_lower k less low high (m ∷ ms) l h = (h.0, h.1, (let a = h.2 in omega (arith, a, l)), h.3)

row_size : (r : Mnemonic) → is_size (size r) ≡ true
row_size (family.Mem name) = refl
row_size (family.Shifted name) = refl
row_size (family.ArMem name) = refl
row_size (family.Port name) = refl
row_size (family.Bit name) = refl
row_size (family.Short name) = refl
row_size (family.Long name) = refl
row_size (family.LongMem name) = refl
row_size (family.Jump name) = refl
row_size (family.Plain name) = refl

marks_behind : (k high : ℕ) (i : PendingItem) (c : Content) (ms : List ModuleMark) → i.section ≡ k → AreMarks k (i.offset + words_in c) high ms → AreMarks k i.offset high (mark_by i c ++ ms)
marks_behind k high i (Operands (target.Instruction f) trees) ms is h = (is, row_size (form_row f), omega arith, h)
marks_behind k high i (Operands (target.Data w) trees) ms is h = marks_lower k i.offset (i.offset + length trees) high ms (omega arith) h
marks_behind k high i (Words words) ms is h = marks_lower k i.offset (i.offset + length words) high ms (omega arith) h
marks_behind k high i (Zeros count) ms is h = marks_lower k i.offset (i.offset + count) high ms (omega arith) h
marks_behind k high i (Exported names) ms is h = marks_lower k i.offset (i.offset + 0) high ms (omega arith) h

pub section_marks : (k : ℕ) (used : ℕ → ℕ) (is : List PendingItem) → AreLaid used is → AreMarks k (used k) (used k + total k is) (marks_in k is)
section_marks k used [] laid = omega arith
section_marks k used (i ∷ is) laid = by (eqb i.section k) refl (section_marks k (λ n. used n + part n i) is laid.1)
  where
    by : (b : Bool) → eqb i.section k ≡ b → AreMarks k (used k + part k i) (used k + part k i + total k is) (marks_in k is) → AreMarks k (used k) (used k + (part k i + total k is)) (marks_part k i ++ marks_in k is)
    by true is_k rest =
        let here : i.section ≡ k = eqb-true i.section k is_k in
        let p : part k i ≡ words_in i.content = part_here k i here in
        let at : i.offset ≡ used k = laid.0 ∙ ap used here in
        let high : used k + part k i + total k is ≡ used k + (part k i + total k is) = omega arith in
        let low : used k + part k i ≡ i.offset + words_in i.content = omega (arith, p, at) in
        let g : AreMarks k (i.offset + words_in i.content) (used k + (part k i + total k is)) (marks_in k is) =
        subst (λ (n : ℕ). AreMarks k n (used k + (part k i + total k is)) (marks_in k is)) low (subst (λ (n : ℕ). AreMarks k (used k + part k i) n (marks_in k is)) high rest) in
        subst (λ (ms : List ModuleMark). AreMarks k (used k) (used k + (part k i + total k is)) (ms ++ marks_in k is)) (sym (mark_here k i here))
        (subst (λ (n : ℕ). AreMarks k n (used k + (part k i + total k is)) (mark_by i i.content ++ marks_in k is)) at (marks_behind k (used k + (part k i + total k is)) i i.content (marks_in k is) here g))
    by false is_k rest =
        let away : k ≡ i.section → ⊥ = λ e. eqb-false i.section k is_k (sym e) in
        let high : used k + part k i + total k is ≡ used k + (part k i + total k is) = omega arith in
        subst (λ (ms : List ModuleMark). AreMarks k (used k) (used k + (part k i + total k is)) (ms ++ marks_in k is)) (sym (mark_there k i away))
        (marks_lower k (used k) (used k + part k i) (used k + (part k i + total k is)) (marks_in k is) (omega arith) (subst (λ (n : ℕ). AreMarks k (used k + part k i) n (marks_in k is)) high rest))

-- ---- an item's words and relocations

pub record IsMadeOf (B : Base → Type 0) (i : PendingItem) (m : Made) : Type 0 where
  pub section_is : m.section ≡ i.section
  pub offset_is : m.offset ≡ i.offset
  pub count : length m.words ≡ words_in i.content
  pub words : AreWords m.words
  pub filled : AreFilled B m.section m.offset m.words m.offset (m.offset + length m.words) m.relocations

abbrev pub AreMadeOf : (Base → Type 0) → List PendingItem → List Made → Type 0
AreMadeOf B [] [] = Unit {0}
AreMadeOf B [] (m ∷ ms) = ⊥
AreMadeOf B (i ∷ is) [] = ⊥
AreMadeOf B (i ∷ is) (m ∷ ms) = IsMadeOf B i m × AreMadeOf B is ms

zero_words : (n : ℕ) → AreWords (replicate n 0)
zero_words zero = tt
zero_words (suc n) = (omega arith, zero_words n)

pub zero_count : (n : ℕ) → length (replicate {A = ℕ} n 0) ≡ n
zero_count zero = refl
zero_count (suc n) = ap suc (zero_count n)

module _ (B : Base → Type 0) (none : B Absolute) (names : Definitions) (known : (name : List ℕ) (w : Value) → named_by (predefined name) (defined names name) ≡ Some w → IsGoodValue B w) where
  bare : (i : PendingItem) (m : Made) (c : Content) (words : List ℕ) → ◌≡◌ {A = Result Made FaultKind} (Ok (record { section = i.section; offset = i.offset; words = words; relocations = [] })) (Ok m)
      → i.content ≡ c → length words ≡ words_in c → AreWords words → IsMadeOf B i m
  bare i m c words e is size h =
      let made : Made = record { section = i.section; offset = i.offset; words = words; relocations = [] } in
      let q : made ≡ m = cc in
      subst (λ (x : Made). IsMadeOf B i x) q (record { section_is = refl; offset_is = refl; count = size ∙ ap words_in (sym is); words = h; filled = omega arith })

  made_of : (i : PendingItem) (m : Made) (c : Content) → i.content ≡ c → IsGoodContent c → IsGoodValue B (place i.section i.offset) → made_by names i c ≡ Ok m → IsMadeOf B i m
  made_of i m (Operands t trees) is good here e =
      let s = bound (operand_values t (table_at names i.section i.offset) trees) (λ s. Ok (record { section = i.section; offset = i.offset; words = words_of t s.numbers; relocations = relocations_of t i.section i.offset s.addresses })) m e in
      let sheet = sheet_made B none t (table_at names i.section i.offset) known here trees s.0 s.1 in
      let made : Made = record { section = i.section; offset = i.offset; words = words_of t (s.0).numbers; relocations = relocations_of t i.section i.offset (s.0).addresses } in
      let q : made ≡ m = let last = s.2 in cc in
      subst (λ (x : Made). IsMadeOf B i x) q (record {
        section_is = refl;
        offset_is = refl;
        count = line_size t (s.0).numbers ∙ ap (target_size t) sheet.count ∙ ap words_in (sym is);
        words = line_words t (s.0).numbers sheet.fits;
        filled = line_filled B i.section i.offset t (s.0).numbers (s.0).addresses (subst (IsCount t) (sym sheet.count) good) sheet.addresses;
      })
  made_of i m (Words words) is good here e = bare i m (Words words) words e is refl good
  made_of i m (Zeros count) is good here e = bare i m (Zeros count) (replicate count 0) e is (zero_count count) (zero_words count)
  made_of i m (Exported exported) is good here e =
      let made : Made = record { section = i.section; offset = i.offset; words = []; relocations = [] } in
      let p = permitted (list_all (is_here names) exported) made fault.Undefined m e in
      bare i m (Exported exported) [] (ap Ok p.1) is refl tt

  -- items and what they give
  pub all_made_of : (is : List PendingItem) (ms : List Made) → AllByRecursion (λ i. IsGoodContent i.content) is → AllByRecursion (λ i. IsGoodValue B (place i.section i.offset)) is → Give names is ms → AreMadeOf B is ms
  all_made_of [] [] good here give = tt
  all_made_of [] (m ∷ ms) good here give = give
  all_made_of (i ∷ is) [] good here give = give
  all_made_of (i ∷ is) (m ∷ ms) good here give = (made_of i m i.content refl good.0 here.0 give.0, all_made_of is ms good.1 here.1 give.1)

-- ---- the words of a section

both_words : (xs ys : List ℕ) → AreWords xs → AreWords ys → AreWords (xs ++ ys)
both_words [] ys g h = h
both_words (x ∷ xs) ys g h = (g.0, both_words xs ys g.1 h)

module _ (B : Base → Type 0) (k : ℕ) where
  pub section_words : (is : List PendingItem) (ms : List Made) → AreMadeOf B is ms → AreWords (words_at k ms)
  section_words [] [] h = tt
  section_words [] (m ∷ ms) h = absurd h
  section_words (i ∷ is) [] h = absurd h
  section_words (i ∷ is) (m ∷ ms) h = by (eqb m.section k) (section_words is ms h.1)
    where
      by : (b : Bool) → AreWords (words_at k ms) → AreWords (cond b m.words [] ++ words_at k ms)
      by true rest = both_words m.words (words_at k ms) (h.0).words rest
      by false rest = rest

  pub section_size : (is : List PendingItem) (ms : List Made) → AreMadeOf B is ms → length (words_at k ms) ≡ total k is
  section_size [] [] h = refl
  section_size [] (m ∷ ms) h = absurd h
  section_size (i ∷ is) [] h = absurd h
  section_size (i ∷ is) (m ∷ ms) h =
      let same : eqb m.section k ≡ eqb i.section k = ap (λ n. eqb n k) (h.0).section_is in
      by (eqb m.section k) (eqb i.section k) same (section_size is ms h.1)
    where
      by : (a b : Bool) → a ≡ b → length (words_at k ms) ≡ total k is → length (cond a m.words [] ++ words_at k ms) ≡ cond b (words_in i.content) 0 + total k is
      by true true e r = let s = (h.0).count in let n = length-append m.words (words_at k ms) in omega (arith, s, r, n)
      by false false e r = omega (arith, r)
      by true false e r = absurd (cc)
      by false true e r = absurd (cc)

  -- a relocation of an item's words is one of the whole section's
  filled_within : (pre post : List ℕ) (m : Made) (r : Relocation) → m.section ≡ k → m.offset ≡ length pre → IsFilled B m.section m.offset m.words r → IsFilled B k 0 (pre ++ (m.words ++ post)) r
  filled_within pre post m r here at h =
      let o = h.offset_is in
      let w = h.within in
      let size = length-append pre (m.words ++ post) in
      let more = length-append m.words post in
      record {
        section_is = h.section_is ∙ here;
        word = length pre + h.word;
        offset_is = omega (arith, o, at);
        within = omega (arith, size, more, w);
        clear = ap (λ n. n % field_values r.kind) (get_or-append-add pre (m.words ++ post) h.word 0 ∙ get_or_append_left m.words post 0 h.word w) ∙ h.clear;
        base = h.base;
        fits = h.fits;
      }

  pub section_filled : (used : ℕ → ℕ) (pre : List ℕ) (is : List PendingItem) (ms : List Made) → length pre ≡ used k → AreLaid used is → AreMadeOf B is ms
      → AreFilled B k 0 (pre ++ words_at k ms) (used k) (used k + total k is) (relocations_at k ms)
  section_filled used pre [] [] at laid h = omega arith
  section_filled used pre [] (m ∷ ms) at laid h = absurd h
  section_filled used pre (i ∷ is) [] at laid h = absurd h
  section_filled used pre (i ∷ is) (m ∷ ms) at laid h =
      by (eqb i.section k) refl (λ (before : List ℕ) l. section_filled (λ n. used n + part n i) before is ms l laid.1 h.1)
    where
      by : (b : Bool) → eqb i.section k ≡ b
          → ((before : List ℕ) → length before ≡ used k + part k i → AreFilled B k 0 (before ++ words_at k ms) (used k + part k i) (used k + part k i + total k is) (relocations_at k ms))
          → AreFilled B k 0 (pre ++ words_at k (m ∷ ms)) (used k) (used k + (part k i + total k is)) (relocations_at k (m ∷ ms))
      by true is_k go =
          let of_i : i.section ≡ k = eqb-true i.section k is_k in
          let here : m.section ≡ k = (h.0).section_is ∙ of_i in
          let p : part k i ≡ words_in i.content = part_here k i of_i in
          let s = (h.0).count in
          let o : m.offset ≡ used k = (h.0).offset_is ∙ laid.0 ∙ ap used of_i in
          let new = length-append pre m.words in
          let at_new : length (pre ++ m.words) ≡ used k + part k i = omega (arith, new, at, s, p) in
          let high : used k + part k i + total k is ≡ used k + (part k i + total k is) = omega arith in
          let whole : (pre ++ m.words) ++ words_at k ms ≡ pre ++ (m.words ++ words_at k ms) = append_assoc pre m.words (words_at k ms) in
          let rest : AreFilled B k 0 (pre ++ (m.words ++ words_at k ms)) (used k + part k i) (used k + part k i + total k is) (relocations_at k ms) =
          subst (λ (ws : List ℕ). AreFilled B k 0 ws (used k + part k i) (used k + part k i + total k is) (relocations_at k ms)) whole (go (pre ++ m.words) at_new) in
          let end : m.offset + length m.words ≡ used k + part k i = omega (arith, o, s, p) in
          let own : AreFilled B k 0 (pre ++ (m.words ++ words_at k ms)) m.offset (m.offset + length m.words) m.relocations =
          chain_weaker (λ (r : Relocation). r.offset) (IsFilled B m.section m.offset m.words) (IsFilled B k 0 (pre ++ (m.words ++ words_at k ms))) m.offset (m.offset + length m.words) m.relocations
          (λ r _ g. filled_within pre (words_at k ms) m r here (o ∙ sym at) g) (h.0).filled in
          let all : AreFilled B k 0 (pre ++ (m.words ++ words_at k ms)) (used k) (used k + part k i + total k is) (m.relocations ++ relocations_at k ms) =
          chain_append (λ (r : Relocation). r.offset) (IsFilled B k 0 (pre ++ (m.words ++ words_at k ms))) (used k) (used k + part k i) (used k + part k i + total k is) m.relocations (relocations_at k ms)
          (subst (λ (n : ℕ). AreFilled B k 0 (pre ++ (m.words ++ words_at k ms)) n (used k + part k i) m.relocations) o
          (subst (λ (n : ℕ). AreFilled B k 0 (pre ++ (m.words ++ words_at k ms)) m.offset n m.relocations) end own)) rest in
          subst (λ (ws : List ℕ). AreFilled B k 0 (pre ++ ws) (used k) (used k + (part k i + total k is)) (relocations_at k (m ∷ ms))) (sym (words_here k m ms here))
          (subst (λ (rs : List Relocation). AreFilled B k 0 (pre ++ (m.words ++ words_at k ms)) (used k) (used k + (part k i + total k is)) rs) (sym (relocations_here k m ms here))
          (subst (λ (n : ℕ). AreFilled B k 0 (pre ++ (m.words ++ words_at k ms)) (used k) n (m.relocations ++ relocations_at k ms)) high all))
      by false is_k go =
          let away : k ≡ i.section → ⊥ = λ e. eqb-false i.section k is_k (sym e) in
          let there : m.section ≡ k → ⊥ = λ e. away (sym e ∙ (h.0).section_is) in
          let p : part k i ≡ 0 = part_there k i away in
          let high : used k + part k i + total k is ≡ used k + (part k i + total k is) = omega arith in
          let lower : AreFilled B k 0 (pre ++ words_at k ms) (used k) (used k + part k i + total k is) (relocations_at k ms) =
          chain_lower (λ (r : Relocation). r.offset) (IsFilled B k 0 (pre ++ words_at k ms)) (used k) (used k + part k i) (used k + part k i + total k is) (relocations_at k ms) (omega arith) (go pre (omega (arith, at, p))) in
          subst (λ (ws : List ℕ). AreFilled B k 0 (pre ++ ws) (used k) (used k + (part k i + total k is)) (relocations_at k (m ∷ ms))) (sym (words_there k m ms there))
          (subst (λ (rs : List Relocation). AreFilled B k 0 (pre ++ words_at k ms) (used k) (used k + (part k i + total k is)) rs) (sym (relocations_there k m ms there))
          (subst (λ (n : ℕ). AreFilled B k 0 (pre ++ words_at k ms) (used k) n (relocations_at k ms)) high lower))

-- each item begins within what its section is filled to
pub laid_within : (used : ℕ → ℕ) (is : List PendingItem) → AreLaid used is → AllByRecursion (λ i. i.offset ≤ used i.section + total i.section is) is
laid_within used [] h = tt
laid_within used (i ∷ is) h = (
  let o = h.0 in omega (arith, o),
  weaken is (λ (j : PendingItem). used j.section + part j.section i + total j.section is) (λ (j : PendingItem). used j.section + (part j.section i + total j.section is)) (λ j. omega arith) (laid_within (λ n. used n + part n i) is h.1),
)
  where
    weaken : (js : List PendingItem) (f g : PendingItem → ℕ) → ((j : PendingItem) → f j ≤ g j) → AllByRecursion (λ j. j.offset ≤ f j) js → AllByRecursion (λ j. j.offset ≤ g j) js
    weaken [] f g l h = tt
    weaken (j ∷ js) f g l h = (let a = h.0 in let b = l j in omega (arith, a, b), weaken js f g l h.1)
