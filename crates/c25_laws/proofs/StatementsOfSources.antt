-- A module's marks, words and relocations are those of its instruction statements.
use Rattle.std.proofs.Common.{◌≡◌, ℕ, zero, suc, ◌+◌, ◌<◌, true, List, [], ◌∷◌, ◌++◌, length, slice_index, Some, Result, Ok, refl, sym, ap, ◌∙◌, subst, arith, ◌⊎◌, inl, inr}
use Rattle.std.specs.List.{AllByRecursion, Contains, flat_map, slice_get}
use Rattle.std.proofs.lemmas.List.Elements.{All-contains_itself, All-from_recursion, All-weaker, Contains-append_cases, Contains-append_left, Contains-append_right}
use Rattle.c25_meaning_assembly.specs.Emission.{all_names, finished, module_with}
use Rattle.c25_meaning_language.specs.ExpansionFault.{ExpansionFault}
use Rattle.c25_meaning_expansion.specs.ExpansionRuns.{start_of}
use Rattle.c25_meaning_expansion.specs.Files.{Files}
use Rattle.c25_meaning_assembly.specs.InstructionStatements.{Instruction, insn_with_zeros, instructions_of}
use Rattle.c25_meaning_objects.specs.Module as modules
use Rattle.c25_meaning_objects.specs.Module.{Contents}
use Rattle.c25_meaning_assembly.specs.ModuleOfSource.{Assembled, LinesSoFar, assembled, completed, passed_from}
use Rattle.c25_meaning_common.specs.Results.{◌>>=◌}
use Rattle.c25_meaning_assembly.specs.Sections.{Definitions, PendingItem, Progress, Section}
use Rattle.c25_meaning_instructions.specs.Table.{Reads}
use Rattle.c25_meaning_assembly.specs.declared.assembly.Address.{Address}
use Rattle.c25_meaning_assembly.specs.declared.assembly.Target.TheVariants as target
use Rattle.c25_meaning_objects.specs.declared.object.Relocation.{Relocation}
use Rattle.c25_meaning_objects.specs.declared.object.RelocationBase.{RelocationBase}
use Rattle.c25_meaning_objects.specs.declared.object.RelocationBase.TheVariants as relocated
use Rattle.c25_meaning_common.specs.declared.relocation.RelocationKind.TheVariants.{Word16}
use Rattle.c25_meaning_language.specs.declared.value.Base.{Base}
use Rattle.c25_module_laws.proofs.AddressFields.{form_fields}
use Rattle.c25_module_laws.proofs.Chains.{Chain, chain_bound, chain_weaker}
use Rattle.c25_module_laws.proofs.Counted.{FitForm}
use Rattle.c25_module_laws.proofs.Emitted.{Give, Made, filled_from, relocations_at, words_at}
use Rattle.c25_module_laws.proofs.Kept.{Head, heads, is_code, marks_in, total}
use Rattle.c25_module_laws.proofs.KeptActs.{code_section}
use Rattle.c25_module_laws.proofs.KeptLines.{IsMade, source_made}
use Rattle.c25_module_laws.proofs.LineWords.{IsFilled}
use Rattle.c25_module_laws.proofs.ModuleFits.{AllFrom, all_sections}
use Rattle.c25_module_laws.proofs.ModulesOfSources.{base_in, finished_is, items_placed, made_good, words_in_module}
use Rattle.c25_module_laws.proofs.OperandsValued.{AreAddresses, HoldsOf, IsAddress}
use Rattle.c25_module_laws.proofs.ResultSteps.{bound}
use Rattle.c25_module_laws.proofs.SectionsFilled.{AreMadeOf, laid_within, section_filled}
use Rattle.c25_laws.proofs.StatementItems.{IsStatementOf, all_said, marks_of_section, marks_said, said_by, said_in}
use Rattle.c25_laws.proofs.StatementWords.{AreSaid, HasOwn, ReadsAt, all_said_of, both_facts, both_hold, chain_has, each_holds, own_relocations, relocations_are_of, relocations_there_are, words_read}
use Rattle.c25_module_laws.proofs.Symbols.{all_known}
use Rattle.c25_laws.specs.ModuleStatements.{AreStatements, HasAddress, IsAssembled, instructions_in, relocations_in}

-- ---- the fields of addresses

addresses_have : (B : Base → Type 0) (m : Made) (x : Instruction) (low : ℕ) (list : List Address) → IsStatementOf B m x
    → Chain (λ (a : Address). a.operand) (IsAddress B (target.Instruction x.form) x.sheet.numbers) low (length x.sheet.numbers) list → AllByRecursion (HasAddress x) list
addresses_have B m x low [] h c = tt
addresses_have B m x low (a ∷ list) h c =
    let l : a.operand < length x.sheet.numbers = (let b = chain_bound (λ (a : Address). a.operand) (IsAddress B (target.Instruction x.form) x.sheet.numbers) (a.operand + 1) (length x.sheet.numbers) list c.2 in omega (arith, b)) in
    let f = form_fields x.form x.sheet.numbers a.operand a.kind h.few l (c.1).kind (c.1).clear in
    (record { field = f.has; replaced = f.filled }, addresses_have B m x (a.operand + 1) list h c.2)

-- the operands of a statement: as many as its form takes, and its addresses ascend, each of a field that takes one and whose number is 0
pub record HasOperands (x : Instruction) : Type 0 where
  pub few : FitForm x.form (length x.sheet.numbers)
  pub addresses : AreAddresses (λ b. Unit {0}) (target.Instruction x.form) x.sheet.numbers x.sheet.addresses

some_base : (B : Base → Type 0) (b : RelocationBase) → HoldsOf B b → HoldsOf (λ b. Unit {0}) b
some_base B (relocated.Section n) h = tt
some_base B (relocated.Loaded n) h = tt
some_base B (relocated.External n) h = tt

operands_of : (B : Base → Type 0) (m : Made) (x : Instruction) → IsStatementOf B m x → HasOperands x
operands_of B m x h = record {
  few = h.few;
  addresses = chain_weaker (λ (a : Address). a.operand) (IsAddress B (target.Instruction x.form) x.sheet.numbers) (IsAddress (λ b. Unit {0}) (target.Instruction x.form) x.sheet.numbers) 0 (length x.sheet.numbers) x.sheet.addresses
      (λ a l g. record { clear = g.clear; kind = g.kind; base = some_base B a.base g.base; fits = g.fits }) h.addresses;
}

-- what holds of a statement by itself: its section is there, and its addresses have fields
record IsGoodStatement (hs : List Head) (x : Instruction) : Type 0 where
  code : is_code hs x.section ≡ true
  operands : HasOperands x
  addresses : AllByRecursion (HasAddress x) x.sheet.addresses

good_statements : (B : Base → Type 0) (names : Definitions) (hs : List Head) (is : List PendingItem) (ms : List Made) → AllByRecursion (λ i. is_code hs i.section ≡ true) is → AreMadeOf B is ms → AreSaid B names is ms
    → AllByRecursion (IsGoodStatement hs) (said_in names is)
good_statements B names hs [] [] codes made said = tt
good_statements B names hs [] (m ∷ ms) codes made said = absurd said
good_statements B names hs (i ∷ is) [] codes made said = absurd said
good_statements B names hs (i ∷ is) (m ∷ ms) codes made said =
    both_hold (IsGoodStatement hs) (said_by names i i.content) (said_in names is)
    (each_holds (IsStatementOf B m) (IsGoodStatement hs) (said_by names i i.content)
    (λ x h. record { code = ap (is_code hs) (h.section_is ∙ (made.0).section_is) ∙ codes.0; operands = operands_of B m x h; addresses = addresses_have B m x 0 x.sheet.addresses h h.addresses }) (said.0).statements)
    (good_statements B names hs is ms codes.1 made.1 said.1)

-- ---- relocations of the module

pub in_module : (j k : ℕ) (ss : List Section) (ms : List Made) (s : Section) (r : Relocation) → slice_get ss k ≡ Some s → Contains (relocations_at (j + k) ms) r
    → Contains (flat_map (λ s. s.relocations) (filled_from j ss ms)) r
in_module j k [] ms s r at c = absurd (cc)
in_module j zero (t ∷ ts) ms s r at c =
    let z : j + 0 ≡ j = omega arith in
    Contains-append_left (t.relocations ++ relocations_at j ms) (flat_map (λ s. s.relocations) (filled_from (suc j) ts ms)) r
    (Contains-append_right t.relocations (relocations_at j ms) r (subst (λ (n : ℕ). Contains (relocations_at n ms) r) z c))
in_module j (suc k) (t ∷ ts) ms s r at c =
    let z : j + suc k ≡ suc j + k = omega arith in
    Contains-append_right (t.relocations ++ relocations_at j ms) (flat_map (λ s. s.relocations) (filled_from (suc j) ts ms)) r
    (in_module (suc j) k ts ms s r at (subst (λ (n : ℕ). Contains (relocations_at n ms) r) z c))

nothing_in : {X : Type 0} (x : X) → Contains [] x → ⊥
nothing_in x h = let l = h.1 in omega (arith, l)

pub of_module : (j : ℕ) (ss : List Section) (ms : List Made) (r : Relocation) → AllFrom (λ n s. s.relocations ≡ []) j ss → Contains (flat_map (λ s. s.relocations) (filled_from j ss ms)) r
    → (k : ℕ) × Contains (relocations_at k ms) r
of_module j [] ms r none c = absurd (nothing_in r c)
of_module j (s ∷ ss) ms r none c =
    elim (Contains-append_cases (s.relocations ++ relocations_at j ms) (flat_map (λ s. s.relocations) (filled_from (suc j) ss ms)) r c) [
      | inl e ↦ (j, own e)
      | inr e ↦ of_module (suc j) ss ms r none.1 e
    ]
  where
    own : Contains (s.relocations ++ relocations_at j ms) r → Contains (relocations_at j ms) r
    own e = subst (λ (rs : List Relocation). Contains (rs ++ relocations_at j ms) r) none.0 e

-- ---- the statements of all lines

module _ (p : Progress) (ms : List Made) (made : IsMade p) (give : Give (all_names p) p.items ms) where
  pub good : AreMadeOf (base_in p) p.items ms
  good = made_good p ms made.kept give

  said : AreSaid (base_in p) (all_names p) p.items ms
  said = all_said_of (base_in p) tt (all_names p) (all_known (length p.sections) p.names p.declared p.exported (made.kept).names.symbols) p.items ms (made.kept).items.good
      (items_placed p p.items made.kept (made.kept).items.codes (laid_within (λ k. 0) p.items (made.kept).items.laid)) give

  abbrev pub contents : Contents
  contents = module_with (filled_from 0 p.sections ms) (all_names p) p.exported

  no_relocations : AllFrom (λ n s. s.relocations ≡ []) 0 p.sections
  no_relocations = all_sections (λ n s. s.relocations ≡ []) p.sections (λ k s at. ((made.kept).items.each k s at).relocations)

  -- a relocation of the module is one of its section
  pub of_section : (r : Relocation) → Contains contents.relocations r → Contains (relocations_at r.section ms) r
  of_section r c =
      let f = of_module 0 p.sections ms r no_relocations c in
      let g = chain_has (λ (x : Relocation). x.offset) (IsFilled (base_in p) f.0 0 (words_at f.0 ms)) 0 (0 + total f.0 p.items) (relocations_at f.0 ms) r (section_filled (base_in p) f.0 (λ k. 0) [] p.items ms refl (made.kept).items.laid good) f.1 in
      subst (λ (n : ℕ). Contains (relocations_at n ms) r) (sym (g.2).section_is) f.1

  pub to_module : (x : Instruction) (r : Relocation) → is_code (heads p.sections) x.section ≡ true → Contains (relocations_at x.section ms) r → Contains contents.relocations r
  to_module x r code c =
      let s = code_section p.sections x.section code in
      let z : x.section ≡ 0 + x.section = omega arith in
      in_module 0 x.section p.sections ms s.0 r s.1 (subst (λ (n : ℕ). Contains (relocations_at n ms) r) z c)

  pub words_same : (k : ℕ) → is_code (heads p.sections) k ≡ true → words_at k ms ≡ modules.words_at contents.sections k
  words_same k code = let s = code_section p.sections k code in sym (words_in_module p ms k s.0 made.kept good s.1)

  one_assembled : (x : Instruction) → IsGoodStatement (heads p.sections) x → ReadsAt (λ k. words_at k ms) x → ((r : Relocation) → Contains (relocations_in x) r → Contains (relocations_at x.section ms) r) → HasOwn ms x → IsAssembled contents x
  one_assembled x h reads there own = record {
    reads = subst (λ (ws : List ℕ). Reads (slice_index ws x.offset) (slice_index ws (x.offset + 1)) (insn_with_zeros x)) (words_same x.section h.code) reads.reads;
    addresses = All-from_recursion (HasAddress x) x.sheet.addresses h.addresses;
    relocated = All-weaker (Contains (relocations_in x)) (Contains contents.relocations) (λ r c. to_module x r h.code (there r c)) (relocations_in x) (All-contains_itself (relocations_in x));
    own = λ r c within. own r (subst (λ (n : ℕ). Contains (relocations_at n ms) r) within.section_is (of_section r c)) within.covers;
  }

  all_assembled : AllByRecursion (IsAssembled contents) (said_in (all_names p) p.items)
  all_assembled =
      let all = said_in (all_names p) p.items in
      let laid = (made.kept).items.laid in
      let a = good_statements (base_in p) (all_names p) (heads p.sections) p.items ms (made.kept).items.codes good said in
      let b : AllByRecursion (ReadsAt (λ k. words_at k ms)) all = words_read (base_in p) (all_names p) (λ k. []) (λ k. 0) p.items ms (λ k. refl) laid good said in
      let c = relocations_there_are (base_in p) (all_names p) p.items ms said in
      let d = own_relocations (base_in p) (all_names p) (λ k. 0) p.items ms laid good said in
      each_holds (λ x. (IsGoodStatement (heads p.sections) x × ReadsAt (λ k. words_at k ms) x) × (((r : Relocation) → Contains (relocations_in x) r → Contains (relocations_at x.section ms) r) × HasOwn ms x)) (IsAssembled contents) all
      (λ x h. one_assembled x h.0.0 h.0.1 h.1.0 h.1.1)
      (both_facts (λ x. IsGoodStatement (heads p.sections) x × ReadsAt (λ k. words_at k ms) x) (λ x. ((r : Relocation) → Contains (relocations_in x) r → Contains (relocations_at x.section ms) r) × HasOwn ms x) all
      (both_facts (IsGoodStatement (heads p.sections)) (ReadsAt (λ k. words_at k ms)) all a b)
      (both_facts (λ x. (r : Relocation) → Contains (relocations_in x) r → Contains (relocations_at x.section ms) r) (HasOwn ms) all c d))

  pub all_operands : AllByRecursion HasOperands (said_in (all_names p) p.items)
  all_operands =
      each_holds (IsGoodStatement (heads p.sections)) HasOperands (said_in (all_names p) p.items) (λ x h. h.operands)
      (good_statements (base_in p) (all_names p) (heads p.sections) p.items ms (made.kept).items.codes good said)

  pub are_statements : AreStatements contents (said_in (all_names p) p.items)
  are_statements =
      let all = said_in (all_names p) p.items in
      record {
        marks = λ k. marks_of_section k p.items ms p.sections (all_sections (λ n s. s.marks ≡ marks_in n p.items) p.sections (λ n s at. ((made.kept).items.each n s at).marks)) (made.kept).items.codes
            ∙ marks_said (all_names p) k p.items ms give;
        each = All-from_recursion (IsAssembled contents) all all_assembled;
        relocations = All-weaker (Contains contents.relocations) (λ r. ((i : Instruction) × Contains all i × Contains (relocations_in i) r) ⊎ (r.kind ≡ Word16))
            (λ r c. relocations_are_of (base_in p) (all_names p) r.section p.items ms r said (of_section r c)) contents.relocations (All-contains_itself contents.relocations);
      }

-- ---- sources

pub source_read : (files : Files) (name : List ℕ) (a : Assembled) → assembled files name ≡ Ok a
    → (statements : List Instruction) × (instructions_in files name ≡ Ok statements) × AreStatements a.contents statements × AllByRecursion HasOperands statements
unfolding assembled
source_read files name a e =
    let b = bound (passed_from files name (start_of files name)) (λ b. completed b) a e in
    let p = (b.0).progress in
    let c = bound (finished p) (λ m. Ok (record { contents = m; entries = (b.0).entries })) a b.2 in
    let out : Assembled = record { contents = c.0; entries = (b.0).entries } in
    let same : out ≡ a = let last = c.2 in cc in
    let f = finished_is p c.0 c.1 in
    let made = source_made files name (start_of files name) b.0 b.1 in
    let all = said_in (all_names p) p.items in
    let lines : instructions_in files name ≡ Ok all = ap (λ (r : Result LinesSoFar ExpansionFault). r >>= λ (x : LinesSoFar). instructions_of x.progress) b.1 ∙ all_said (all_names p) p.items f.0 [] (f.1).give in
    let is : c.0 ≡ a.contents = ap (λ (x : Assembled). x.contents) same in
    (all, lines, subst (λ (m : Contents). AreStatements m all) (sym (f.1).module_is ∙ is) (are_statements p f.0 made (f.1).give), all_operands p f.0 made (f.1).give)

pub source_said : (files : Files) (name : List ℕ) (a : Assembled) → assembled files name ≡ Ok a → (statements : List Instruction) × (instructions_in files name ≡ Ok statements) × AreStatements a.contents statements
source_said files name a e = let r = source_read files name a e in (r.0, r.1, r.2)
