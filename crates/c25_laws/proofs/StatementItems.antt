-- The instruction statements among the items of a module, what each item gives, and the marks of each section.
use Rattle.std.proofs.Common.{◌≡◌, ℕ, zero, suc, ◌+◌, ◌<◌, Bool, true, false, cond, eqb, ◌||◌, List, [], ◌∷◌, ◌++◌, length, map, filter, Result, Ok, Err, refl, sym, ap, ◌∙◌, subst, arith}
use Rattle.std.specs.List.{AllByRecursion, flat_map}
use Rattle.std.proofs.lemmas.Bool.{eq-eqb, eqb-true, false≢true, ne_eqb}
use Rattle.std.proofs.lemmas.List.{append-nil, append_assoc, map-append}
use Rattle.std.proofs.lemmas.List.Elements.{filter-append}
use Rattle.c25_meaning_assembly.specs.Addresses.{OperandValues, relocations_of, operand_values, words_of}
use Rattle.c25_meaning_assembly.specs.OperandFields.{FitsTarget}
use Rattle.c25_meaning_assembly.specs.Emission.{at_origin, table_at}
use Rattle.c25_meaning_language.specs.ExpansionFault.{ExpansionFault}
use Rattle.c25_meaning_assembly.specs.InstructionStatements.{Instruction, insn_with_zeros, statement_by, with_statement}
use Rattle.c25_meaning_common.specs.Results.{◌>>=◌, fold_ok}
use Rattle.c25_meaning_assembly.specs.Sections.{Content, Definitions, Exported, PendingItem, Operands, Section, Words, Zeros}
use Rattle.c25_meaning_instructions.specs.Table.{words}
use Rattle.c25_meaning_assembly.specs.declared.assembly.Target.TheVariants as target
use Rattle.c25_meaning_objects.specs.declared.object.ModuleMark.{ModuleMark}
use Rattle.c25_meaning_language.specs.declared.statement.FaultKind.{FaultKind}
use Rattle.c25_meaning_language.specs.declared.statement.Form.{Form}
use Rattle.c25_meaning_language.specs.declared.value.Base.{Base}
use Rattle.c25_module_laws.proofs.Counted.{FitForm}
use Rattle.c25_module_laws.proofs.Emitted.{Give, Made, filled_from, made_by}
use Rattle.c25_module_laws.proofs.Kept.{Head, heads, is_code, mark_by, mark_there, marks_in, marks_part}
use Rattle.c25_module_laws.proofs.ModuleFits.{AllFrom}
use Rattle.c25_module_laws.proofs.OperandsValued.{AreAddresses}
use Rattle.c25_laws.specs.ModuleStatements.{mark_of, relocations_in}

-- ---- statements

-- the statement of a form and its operands, if these have no fault
abbrev pub with_operands : PendingItem → Form → Result OperandValues FaultKind → List Instruction
with_operands i f (Ok s) = record { section = i.section; offset = i.offset; form = f; sheet = s } ∷ []
with_operands i f (Err e) = []

-- the statement of an item, if it is one
abbrev pub said_by : Definitions → PendingItem → Content → List Instruction
said_by names i (Operands (target.Instruction f) trees) = with_operands i f (operand_values (target.Instruction f) (table_at names i.section i.offset) trees)
said_by names i _ = []

-- the statements of items
abbrev pub said_in : Definitions → List PendingItem → List Instruction
said_in names [] = []
said_in names (i ∷ is) = said_by names i i.content ++ said_in names is

no_more : (before : List Instruction) → ◌≡◌ {A = Result (List Instruction) ExpansionFault} (Ok before) (Ok (before ++ []))
no_more before = ap Ok (sym (append-nil before))

one_said : (names : Definitions) (i : PendingItem) (c : Content) (m : Made) (before : List Instruction) → made_by names i c ≡ Ok m → statement_by names i c before ≡ Ok (before ++ said_by names i c)
one_said names i (Operands (target.Instruction f) trees) m before e = on (operand_values (target.Instruction f) (table_at names i.section i.offset) trees) e
  where
    on : (r : Result OperandValues FaultKind) → (r >>= λ s. Ok (record { section = i.section; offset = i.offset; words = words_of (target.Instruction f) s.numbers; relocations = relocations_of (target.Instruction f) i.section i.offset s.addresses })) ≡ Ok m
        → (at_origin i.origin r >>= λ s. Ok (before ++ record { section = i.section; offset = i.offset; form = f; sheet = s } ∷ [])) ≡ Ok (before ++ with_operands i f r)
    on (Ok s) e = refl
    on (Err f) e = absurd (cc)
one_said names i (Operands (target.Data w) trees) m before e = no_more before
one_said names i (Words words) m before e = no_more before
one_said names i (Zeros count) m before e = no_more before
one_said names i (Exported exported) m before e = no_more before

-- where items give something, their statements have no fault
pub all_said : (names : Definitions) (is : List PendingItem) (ms : List Made) (before : List Instruction) → Give names is ms → fold_ok (with_statement names) before is ≡ Ok (before ++ said_in names is)
all_said names [] [] before give = no_more before
all_said names [] (m ∷ ms) before give = absurd give
all_said names (i ∷ is) [] before give = absurd give
all_said names (i ∷ is) (m ∷ ms) before give =
    ap (λ (r : Result (List Instruction) ExpansionFault). r >>= λ (next : List Instruction). fold_ok (with_statement names) next is) (one_said names i i.content m before give.0)
    ∙ all_said names is ms (before ++ said_by names i i.content) give.1
    ∙ ap Ok (append_assoc before (said_by names i i.content) (said_in names is))

-- ---- the marks of a section

no_mark : (b : Bool) → ◌≡◌ {A = List ModuleMark} (cond b [] []) []
no_mark true = refl
no_mark false = refl

one_mark : (names : Definitions) (k : ℕ) (i : PendingItem) (c : Content) (m : Made) → made_by names i c ≡ Ok m → cond (eqb i.section k) (mark_by i c) [] ≡ map mark_of (filter (λ x. eqb x.section k) (said_by names i c))
one_mark names k i (Operands (target.Instruction f) trees) m e = on (operand_values (target.Instruction f) (table_at names i.section i.offset) trees) e
  where
    by : (s : OperandValues) (b : Bool) → cond b (mark_by i (Operands (target.Instruction f) trees)) [] ≡ map mark_of (cond b (record { section = i.section; offset = i.offset; form = f; sheet = s } ∷ []) [])
    by s true = refl
    by s false = refl

    on : (r : Result OperandValues FaultKind) → (r >>= λ s. Ok (record { section = i.section; offset = i.offset; words = words_of (target.Instruction f) s.numbers; relocations = relocations_of (target.Instruction f) i.section i.offset s.addresses })) ≡ Ok m
        → cond (eqb i.section k) (mark_by i (Operands (target.Instruction f) trees)) [] ≡ map mark_of (filter (λ x. eqb x.section k) (with_operands i f r))
    on (Ok s) e = by s (eqb i.section k)
    on (Err f) e = absurd (cc)
one_mark names k i (Operands (target.Data w) trees) m e = no_mark (eqb i.section k)
one_mark names k i (Words words) m e = no_mark (eqb i.section k)
one_mark names k i (Zeros count) m e = no_mark (eqb i.section k)
one_mark names k i (Exported exported) m e = no_mark (eqb i.section k)

-- the marks of a section are the places and sizes of its statements
pub marks_said : (names : Definitions) (k : ℕ) (is : List PendingItem) (ms : List Made) → Give names is ms → marks_in k is ≡ map mark_of (filter (λ x. eqb x.section k) (said_in names is))
marks_said names k [] [] give = refl
marks_said names k [] (m ∷ ms) give = absurd give
marks_said names k (i ∷ is) [] give = absurd give
marks_said names k (i ∷ is) (m ∷ ms) give =
    let p : Instruction → Bool = λ x. eqb x.section k in
    let a : marks_part k i ≡ map mark_of (filter (λ x. eqb x.section k) (said_by names i i.content)) = one_mark names k i i.content m give.0 in
    let b = marks_said names k is ms give.1 in
    (λ j. a j ++ b j)
    ∙ sym (ap (map mark_of) (filter-append p (said_by names i i.content) (said_in names is)) ∙ map-append mark_of (filter p (said_by names i i.content)) (filter p (said_in names is)))

-- ---- the marks of the module by sections

part_filtered : (k n : ℕ) (i : PendingItem) (c : Content) → i.section ≡ n → filter (λ m. eqb m.section k) (mark_by i c) ≡ cond (eqb n k) (mark_by i c) []
part_filtered k n i (Operands (target.Instruction f) trees) e = ap (λ s. cond (eqb s k) (mark_by i (Operands (target.Instruction f) trees)) []) e
part_filtered k n i (Operands (target.Data w) trees) e = sym (no_mark (eqb n k))
part_filtered k n i (Words words) e = sym (no_mark (eqb n k))
part_filtered k n i (Zeros count) e = sym (no_mark (eqb n k))
part_filtered k n i (Exported exported) e = sym (no_mark (eqb n k))

either_part : (b : Bool) (xs ys : List ModuleMark) → cond b xs [] ++ cond b ys [] ≡ cond b (xs ++ ys) []
either_part true xs ys = refl
either_part false xs ys = refl

section_filtered : (k n : ℕ) (is : List PendingItem) → filter (λ m. eqb m.section k) (marks_in n is) ≡ cond (eqb n k) (marks_in n is) []
section_filtered k n [] = sym (no_mark (eqb n k))
section_filtered k n (i ∷ is) =
    let p : ModuleMark → Bool = λ m. eqb m.section k in
    filter-append p (marks_part n i) (marks_in n is)
    ∙ (λ j. by (eqb i.section n) refl j ++ section_filtered k n is j)
    ∙ either_part (eqb n k) (marks_part n i) (marks_in n is)
  where
    by : (b : Bool) → eqb i.section n ≡ b → filter (λ m. eqb m.section k) (cond b (mark_by i i.content) []) ≡ cond (eqb n k) (cond b (mark_by i i.content) []) []
    by true is_n = part_filtered k n i i.content (eqb-true i.section n is_n)
    by false is_n = sym (no_mark (eqb n k))

-- whether a number is one of these sections', numbered from one on
among : ℕ → ℕ → List Section → Bool
among k j [] = false
among k j (s ∷ ss) = eqb j k || among k (suc j) ss

not_before : (k j : ℕ) (ss : List Section) → k < j → among k j ss ≡ false
unfolding among
not_before k j [] l = refl
not_before k j (s ∷ ss) l = ap (λ b. b || among k (suc j) ss) (ne_eqb j k (λ e. omega (arith, l, e))) ∙ not_before k (suc j) ss (omega (arith, l))

code_among : (k j : ℕ) (ss : List Section) → is_code (heads ss) k ≡ true → among (j + k) j ss ≡ true
unfolding among
code_among k j [] h = absurd (cc)
code_among zero j (s ∷ ss) h = let z : j ≡ j + 0 = omega arith in ap (λ b. b || among (j + 0) (suc j) ss) (eq-eqb j (j + 0) z)
code_among (suc k) j (s ∷ ss) h =
    let z : j + suc k ≡ suc j + k = omega arith in
    subst (λ (n : ℕ). among n j (s ∷ ss) ≡ true) (sym z) (ap (λ b. b || among (suc j + k) (suc j) ss) (ne_eqb j (suc j + k) (λ e. omega (arith, e))) ∙ code_among k (suc j) ss h)

sections_filtered : (k j : ℕ) (is : List PendingItem) (ms : List Made) (ss : List Section) → AllFrom (λ n s. s.marks ≡ marks_in n is) j ss
    → filter (λ m. eqb m.section k) (flat_map (λ s. s.marks) (filled_from j ss ms)) ≡ cond (among k j ss) (marks_in k is) []
unfolding among
sections_filtered k j is ms [] h = refl
sections_filtered k j is ms (s ∷ ss) h =
    let p : ModuleMark → Bool = λ m. eqb m.section k in
    let rest = flat_map (λ s. s.marks) (filled_from (suc j) ss ms) in
    ap (λ xs. filter p (xs ++ rest)) h.0 ∙ filter-append p (marks_in j is) rest
    ∙ (λ i. section_filtered k j is i ++ sections_filtered k (suc j) is ms ss h.1 i)
    ∙ by (eqb j k) refl
  where
    by : (b : Bool) → eqb j k ≡ b → cond b (marks_in j is) [] ++ cond (among k (suc j) ss) (marks_in k is) [] ≡ cond (b || among k (suc j) ss) (marks_in k is) []
    by true e =
        let same : j ≡ k = eqb-true j k e in
        ap (λ c. marks_in j is ++ cond c (marks_in k is) []) (not_before k (suc j) ss (omega (arith, same))) ∙ append-nil (marks_in j is) ∙ ap (λ n. marks_in n is) same
    by false e = refl

none_marks : (hs : List Head) (k : ℕ) (is : List PendingItem) → is_code hs k ≡ false → AllByRecursion (λ i. is_code hs i.section ≡ true) is → marks_in k is ≡ []
none_marks hs k [] bare h = refl
none_marks hs k (i ∷ is) bare h =
    ap (λ ms. ms ++ marks_in k is) (mark_there k i (λ e. false≢true (sym bare ∙ ap (is_code hs) e ∙ h.0))) ∙ none_marks hs k is bare h.1

-- the marks of the module in a section are those of its items
pub marks_of_section : (k : ℕ) (is : List PendingItem) (ms : List Made) (ss : List Section) → AllFrom (λ n s. s.marks ≡ marks_in n is) 0 ss → AllByRecursion (λ i. is_code (heads ss) i.section ≡ true) is
    → filter (λ m. eqb m.section k) (flat_map (λ s. s.marks) (filled_from 0 ss ms)) ≡ marks_in k is
marks_of_section k is ms ss h codes = sections_filtered k 0 is ms ss h ∙ by (is_code (heads ss) k) refl
  where
    any : (b : Bool) → marks_in k is ≡ [] → cond b (marks_in k is) [] ≡ marks_in k is
    any true e = refl
    any false e = sym e

    by : (b : Bool) → is_code (heads ss) k ≡ b → cond (among k 0 ss) (marks_in k is) [] ≡ marks_in k is
    by true e = let z : 0 + k ≡ k = omega arith in ap (λ b. cond b (marks_in k is) []) (subst (λ (n : ℕ). among n 0 ss ≡ true) z (code_among k 0 ss e))
    by false e = any (among k 0 ss) (none_marks (heads ss) k is e codes)

-- ---- what an item gives, by its statement

pub record IsStatementOf (B : Base → Type 0) (m : Made) (x : Instruction) : Type 0 where
  pub section_is : x.section ≡ m.section
  pub offset_is : x.offset ≡ m.offset
  pub words_are : m.words ≡ words (insn_with_zeros x)
  pub relocations_are : m.relocations ≡ relocations_in x
  pub fits : FitsTarget (target.Instruction x.form) x.sheet.numbers
  pub few : FitForm x.form (length x.sheet.numbers)
  pub addresses : AreAddresses B (target.Instruction x.form) x.sheet.numbers x.sheet.addresses
