-- The words and relocations of a module at its instruction statements.
use Rattle.std.proofs.Common.{◌≡◌, ℕ, zero, suc, ◌+◌, ◌≤◌, ◌<◌, Bool, true, false, cond, eqb, List, [], ◌∷◌, ◌++◌, length, map, replicate, slice_index, slice_index_or, Option, Some, None, IfSome, Result, Ok, Err, refl, sym, ap, ◌∙◌, subst, arith, ◌⊎◌, inl, inr}
use Rattle.std.specs.List.{AllByRecursion, Contains, list_all}
use Rattle.std.specs.Option.{option_to_list}
use Rattle.std.proofs.lemmas.Bool.{eqb-true}
use Rattle.std.proofs.lemmas.List.{append_assoc, length-append, get_or-append-add}
use Rattle.std.proofs.lemmas.List.Elements.{Contains-append_cases, Contains-append_left, Contains-append_right}
use Rattle.c25_meaning_language.proofs.Numbers.{in_range}
use Rattle.c25_meaning_assembly.specs.Addresses.{OperandValues, relocation_at, relocations_of, operand_values, words_of}
use Rattle.c25_meaning_assembly.specs.OperandFields.{field_of}
use Rattle.c25_meaning_assembly.specs.Emission.{is_here, table_at}
use Rattle.c25_meaning_assembly.specs.InstructionStatements.{Instruction, insn_with_zeros}
use Rattle.c25_meaning_linking.specs.Place.{Covers}
use Rattle.c25_meaning_common.specs.Results.{◌>>=◌}
use Rattle.c25_meaning_assembly.specs.Sections.{Content, Definitions, Exported, PendingItem, Operands, Words, Zeros, place}
use Rattle.c25_meaning_language.specs.Statement.{relocation_of}
use Rattle.c25_meaning_instructions.specs.Table.{Reads, opcode_word, second_word, words}
use Rattle.c25_meaning_language.specs.Tree.{Tree}
use Rattle.c25_meaning_language.specs.Value.{defined, named_by, predefined}
use Rattle.c25_meaning_assembly.specs.declared.assembly.Address.{Address}
use Rattle.c25_meaning_assembly.specs.declared.assembly.DataWidth.TheVariants as width
use Rattle.c25_meaning_assembly.specs.declared.assembly.Target.TheVariants as target
use Rattle.c25_meaning_objects.specs.declared.object.Relocation.{Relocation}
use Rattle.c25_meaning_common.specs.declared.relocation.RelocationKind.{RelocationKind}
use Rattle.c25_meaning_common.specs.declared.relocation.RelocationKind.TheVariants.{Word16}
use Rattle.c25_meaning_language.specs.declared.statement.FaultKind.{FaultKind}
use Rattle.c25_meaning_language.specs.declared.statement.FaultKind.TheVariants as fault
use Rattle.c25_meaning_language.specs.declared.statement.Form.{Form}
use Rattle.c25_meaning_language.specs.declared.value.Base.{Base}
use Rattle.c25_meaning_language.specs.declared.value.Base.TheVariants.{Absolute}
use Rattle.c25_meaning_language.specs.declared.value.Value.{Value}
use Rattle.c25_module_laws.proofs.AddressFields.{form_size}
use Rattle.c25_module_laws.proofs.Chains.{Chain, chain_bound}
use Rattle.c25_module_laws.proofs.Counted.{FitForm, IsCount}
use Rattle.c25_module_laws.proofs.Emitted.{Give, Made, made_by, relocations_at, relocations_here, relocations_part, words_at, words_here, words_part}
use Rattle.c25_module_laws.proofs.Kept.{AreLaid, IsGoodContent, part, part_here, total, words_in}
use Rattle.c25_module_laws.proofs.LineWords.{IsFilled}
use Rattle.c25_module_laws.proofs.OperandsValued.{IsAddress, sheet_made}
use Rattle.c25_module_laws.proofs.ResultSteps.{bound, permitted}
use Rattle.c25_module_laws.proofs.SectionsFilled.{AreMadeOf, section_filled, zero_count}
use Rattle.c25_laws.proofs.StatementItems.{IsStatementOf, said_by, said_in, with_operands}
use Rattle.c25_module_laws.proofs.Valued.{IsGoodValue}
use Rattle.c25_laws.specs.ModuleStatements.{relocations_in, words_of_statement}

-- ---- what items give, by their statements

-- an item's statement, and that the relocations of other items are of words
pub record IsSaid (B : Base → Type 0) (names : Definitions) (i : PendingItem) (m : Made) : Type 0 where
  pub statements : AllByRecursion (IsStatementOf B m) (said_by names i i.content)
  pub others : (r : Relocation) → Contains m.relocations r → ((x : Instruction) × (said_by names i i.content ≡ x ∷ [])) ⊎ (r.kind ≡ Word16)

abbrev pub AreSaid : (Base → Type 0) → Definitions → List PendingItem → List Made → Type 0
AreSaid B names [] [] = Unit {0}
AreSaid B names [] (m ∷ ms) = ⊥
AreSaid B names (i ∷ is) [] = ⊥
AreSaid B names (i ∷ is) (m ∷ ms) = IsSaid B names i m × AreSaid B names is ms

nothing_in : {X : Type 0} (x : X) → Contains [] x → ⊥
nothing_in x h = let l = h.1 in omega (arith, l)

in_front : {X : Type 0} (x y : X) (xs : List X) → Contains (x ∷ xs) y → (x ≡ y) ⊎ Contains xs y
in_front x y xs h =
    elim (Contains-append_cases (x ∷ []) xs y h) [
      | inl e ↦ inl (alone e)
      | inr e ↦ inr e
    ]
  where
    alone : Contains (x ∷ []) y → x ≡ y
    alone w = on w.0 w.1 w.2
      where
        on : (k : ℕ) → k < length (x ∷ []) → slice_index_or (x ∷ []) k y ≡ y → x ≡ y
        on zero l e = e
        on (suc k) l e = absurd (omega (arith, l))

-- the relocations of `.word` are of words
word_kinds : (B : Base → Type 0) (section offset low high : ℕ) (ns : List ℕ) (list : List Address) (r : Relocation) → Chain (λ (a : Address). a.operand) (IsAddress B (target.Data width.Word) ns) low high list
    → Contains (map (relocation_at (target.Data width.Word) section offset) list) r → r.kind ≡ Word16
word_kinds B section offset low high ns [] r h c = absurd (nothing_in r c)
word_kinds B section offset low high ns (a ∷ list) r h c =
    elim (in_front (relocation_at (target.Data width.Word) section offset a) r (map (relocation_at (target.Data width.Word) section offset) list) c) [
      | inl e ↦ sym (ap (λ (x : Relocation). x.kind) e) ∙ word_kind a.kind (h.1).kind
      | inr e ↦ word_kinds B section offset (a.operand + 1) high ns list r h.2 e
    ]
  where
    word_kind : (k : RelocationKind) → relocation_of (field_of (target.Data width.Word) a.operand) ≡ Some k → k ≡ Word16
    word_kind k e = cc

module _ (B : Base → Type 0) (none : B Absolute) (names : Definitions) (known : (name : List ℕ) (w : Value) → named_by (predefined name) (defined names name) ≡ Some w → IsGoodValue B w) where
  bare_said : (i : PendingItem) (m : Made) (c : Content) (ws : List ℕ) → ◌≡◌ {A = Result Made FaultKind} (Ok (record { section = i.section; offset = i.offset; words = ws; relocations = [] })) (Ok m)
      → (r : Relocation) → Contains m.relocations r → ⊥
  bare_said i m c ws e r h =
      let made : Made = record { section = i.section; offset = i.offset; words = ws; relocations = [] } in
      let q : made ≡ m = cc in
      nothing_in r (subst (λ (x : Made). Contains x.relocations r) (sym q) h)

  insn_said : (i : PendingItem) (m : Made) (f : Form) (trees : List Tree) (r : Result OperandValues FaultKind) → operand_values (target.Instruction f) (table_at names i.section i.offset) trees ≡ r → IsCount (target.Instruction f) (length trees) → IsGoodValue B (place i.section i.offset)
      → (r >>= λ s. Ok (record { section = i.section; offset = i.offset; words = words_of (target.Instruction f) s.numbers; relocations = relocations_of (target.Instruction f) i.section i.offset s.addresses })) ≡ Ok m
      → AllByRecursion (IsStatementOf B m) (with_operands i f r) × ((x : Instruction) × (with_operands i f r ≡ x ∷ []))
  insn_said i m f trees (Err e) was good here is = absurd (cc)
  insn_said i m f trees (Ok s) was good here is =
      let made : Made = record { section = i.section; offset = i.offset; words = words_of (target.Instruction f) s.numbers; relocations = relocations_of (target.Instruction f) i.section i.offset s.addresses } in
      let q : made ≡ m = cc in
      let x : Instruction = record { section = i.section; offset = i.offset; form = f; sheet = s } in
      let sheet = sheet_made B none (target.Instruction f) (table_at names i.section i.offset) known here trees s was in (
        subst (λ (y : Made). AllByRecursion (IsStatementOf B y) (x ∷ [])) q (
          record {
            section_is = refl;
            offset_is = refl;
            words_are = refl;
            relocations_are = refl;
            fits = sheet.fits;
            few = subst (FitForm f) (sym sheet.count) good;
            addresses = sheet.addresses;
          },
          tt,
        ),
        (x, refl),
      )

  said_of : (i : PendingItem) (m : Made) (c : Content) → IsGoodContent c → IsGoodValue B (place i.section i.offset) → made_by names i c ≡ Ok m
      → AllByRecursion (IsStatementOf B m) (said_by names i c) × ((r : Relocation) → Contains m.relocations r → ((x : Instruction) × (said_by names i c ≡ x ∷ [])) ⊎ (r.kind ≡ Word16))
  said_of i m (Operands (target.Instruction f) trees) good here e =
      let a = insn_said i m f trees (operand_values (target.Instruction f) (table_at names i.section i.offset) trees) refl good here e in
      (a.0, λ r h. inl a.1)
  said_of i m (Operands (target.Data width.Word) trees) good here e =
      let s = bound (operand_values (target.Data width.Word) (table_at names i.section i.offset) trees) (λ s. Ok (record { section = i.section; offset = i.offset; words = words_of (target.Data width.Word) s.numbers; relocations = relocations_of (target.Data width.Word) i.section i.offset s.addresses })) m e in
      let made : Made = record { section = i.section; offset = i.offset; words = words_of (target.Data width.Word) (s.0).numbers; relocations = relocations_of (target.Data width.Word) i.section i.offset (s.0).addresses } in
      let q : made ≡ m = let last = s.2 in cc in
      let sheet = sheet_made B none (target.Data width.Word) (table_at names i.section i.offset) known here trees s.0 s.1 in
      (tt, λ r h. inr (word_kinds B i.section i.offset 0 (length (s.0).numbers) (s.0).numbers (s.0).addresses r sheet.addresses (subst (λ (x : Made). Contains x.relocations r) (sym q) h)))
  said_of i m (Operands (target.Data width.Byte) trees) good here e =
      let s = bound (operand_values (target.Data width.Byte) (table_at names i.section i.offset) trees) (λ s. Ok (record { section = i.section; offset = i.offset; words = words_of (target.Data width.Byte) s.numbers; relocations = relocations_of (target.Data width.Byte) i.section i.offset s.addresses })) m e in
      let made : Made = record { section = i.section; offset = i.offset; words = words_of (target.Data width.Byte) (s.0).numbers; relocations = relocations_of (target.Data width.Byte) i.section i.offset (s.0).addresses } in
      let q : made ≡ m = let last = s.2 in cc in
      let sheet = sheet_made B none (target.Data width.Byte) (table_at names i.section i.offset) known here trees s.0 s.1 in
      (tt, λ r h. absurd (no_bytes (s.0).numbers 0 (length (s.0).numbers) (s.0).addresses r sheet.addresses (subst (λ (x : Made). Contains x.relocations r) (sym q) h)))
    where
      no_bytes : (ns : List ℕ) (low high : ℕ) (list : List Address) (r : Relocation) → Chain (λ (a : Address). a.operand) (IsAddress B (target.Data width.Byte) ns) low high list → Contains (map (relocation_at (target.Data width.Byte) i.section i.offset) list) r → ⊥
      no_bytes ns low high [] r h c = nothing_in r c
      no_bytes ns low high (a ∷ list) r h c = let k = (h.1).kind in absurd (cc)
  said_of i m (Words ws) good here e = (tt, λ r h. absurd (bare_said i m (Words ws) ws e r h))
  said_of i m (Zeros count) good here e = (tt, λ r h. absurd (bare_said i m (Zeros count) (replicate count 0) e r h))
  said_of i m (Exported exported) good here e =
      let made : Made = record { section = i.section; offset = i.offset; words = []; relocations = [] } in
      let p = permitted (list_all (is_here names) exported) made fault.Undefined m e in
      (tt, λ r h. absurd (bare_said i m (Exported exported) [] (ap Ok p.1) r h))

  pub all_said_of : (is : List PendingItem) (ms : List Made) → AllByRecursion (λ i. IsGoodContent i.content) is → AllByRecursion (λ i. IsGoodValue B (place i.section i.offset)) is → Give names is ms → AreSaid B names is ms
  all_said_of [] [] good here give = tt
  all_said_of [] (m ∷ ms) good here give = give
  all_said_of (i ∷ is) [] good here give = give
  all_said_of (i ∷ is) (m ∷ ms) good here give =
      let a = said_of i m i.content good.0 here.0 give.0 in
      (record { statements = a.0; others = a.1 }, all_said_of is ms good.1 here.1 give.1)

-- ---- lists of statements

pub both_hold : {X : Type 0} (P : X → Type 0) (xs ys : List X) → AllByRecursion P xs → AllByRecursion P ys → AllByRecursion P (xs ++ ys)
both_hold P [] ys g h = h
both_hold P (x ∷ xs) ys g h = (g.0, both_hold P xs ys g.1 h)

pub each_holds : {X : Type 0} (P Q : X → Type 0) (xs : List X) → ((x : X) → P x → Q x) → AllByRecursion P xs → AllByRecursion Q xs
each_holds P Q [] f h = tt
each_holds P Q (x ∷ xs) f h = (f x h.0, each_holds P Q xs f h.1)

pub both_facts : {X : Type 0} (P Q : X → Type 0) (xs : List X) → AllByRecursion P xs → AllByRecursion Q xs → AllByRecursion (λ x. P x × Q x) xs
both_facts P Q [] g h = tt
both_facts P Q (x ∷ xs) g h = ((g.0, h.0), both_facts P Q xs g.1 h.1)

-- an item of a list that ascends
pub chain_has : {X : Type 0} (at : X → ℕ) (good : X → Type 0) (low high : ℕ) (xs : List X) (x : X) → Chain at good low high xs → Contains xs x → (low ≤ at x) × (at x < high) × good x
chain_has at good low high [] x h c = absurd (nothing_in x c)
chain_has at good low high (y ∷ ys) x h c =
    elim (in_front y x ys c) [
      | inl e ↦ here e
      | inr e ↦ there (chain_has at good (at y + 1) high ys x h.2 e)
    ]
  where
    here : y ≡ x → (low ≤ at x) × (at x < high) × good x
    here e = let a = h.0 in let b = chain_bound at good (at y + 1) high ys h.2 in let n = ap at e in (omega (arith, a, n), omega (arith, b, n), subst good e h.1)

    there : (at y + 1 ≤ at x) × (at x < high) × good x → (low ≤ at x) × (at x < high) × good x
    there g = let a = h.0 in let b = g.0 in (omega (arith, a, b), g.1, g.2)

-- ---- words

-- the words at a statement's place read as it
pub record ReadsAt (words_of_section : ℕ → List ℕ) (x : Instruction) : Type 0 where
  pub reads : Reads (slice_index (words_of_section x.section) x.offset) (slice_index (words_of_section x.section) (x.offset + 1)) (insn_with_zeros x)

second_there : (o : Option ℕ) (first : ℕ) (post : List ℕ) → IfSome o (λ w. w ≡ slice_index ((first ∷ option_to_list o) ++ post) 1)
second_there None first post = tt
second_there (Some w) first post = refl

statement_reads : (B : Base → Type 0) (m : Made) (x : Instruction) (whole pre post : List ℕ) → IsStatementOf B m x → whole ≡ pre ++ (m.words ++ post) → length pre ≡ x.offset
    → Reads (slice_index whole x.offset) (slice_index whole (x.offset + 1)) (insn_with_zeros x)
statement_reads B m x whole pre post h is at =
    let i = insn_with_zeros x in
    let same : whole ≡ pre ++ (words i ++ post) = is ∙ ap (λ ws. pre ++ (ws ++ post)) h.words_are in
    let zero_is : x.offset ≡ length pre + 0 = omega (arith, at) in
    let one_is : x.offset + 1 ≡ length pre + 1 = omega (arith, at) in
    let first : slice_index whole x.offset ≡ opcode_word i = (λ j. slice_index (same j) (zero_is j)) ∙ get_or-append-add pre (words i ++ post) 0 0 in
    let second : slice_index whole (x.offset + 1) ≡ slice_index (words i ++ post) 1 = (λ j. slice_index (same j) (one_is j)) ∙ get_or-append-add pre (words i ++ post) 1 0 in
    record {
      in_range = in_range x.form x.sheet.numbers h.fits;
      first_is = sym first;
      second_is = subst (λ (n : ℕ). IfSome (second_word i) (λ w. w ≡ n)) (sym second) (second_there (second_word i) (opcode_word i) post);
    }

-- the relocations of a statement's words are its own
abbrev pub HasOwn : List Made → Instruction → Type 0
HasOwn ms x = (r : Relocation) → Contains (relocations_at x.section ms) r → Covers x.offset (words_of_statement x) r.offset → Contains (relocations_in x) r

-- a statement begins after an item, and the relocations of its words are its own
abbrev IsLater : (ℕ → ℕ) → PendingItem → List Made → Instruction → Type 0
IsLater used i ms x = (used x.section + part x.section i ≤ x.offset) × HasOwn ms x

module _ (B : Base → Type 0) (names : Definitions) where
  pub words_read : (pre : ℕ → List ℕ) (used : ℕ → ℕ) (is : List PendingItem) (ms : List Made) → ((k : ℕ) → length (pre k) ≡ used k) → AreLaid used is → AreMadeOf B is ms → AreSaid B names is ms
      → AllByRecursion (ReadsAt (λ k. pre k ++ words_at k ms)) (said_in names is)
  words_read pre used [] [] at laid made said = tt
  words_read pre used [] (m ∷ ms) at laid made said = absurd said
  words_read pre used (i ∷ is) [] at laid made said = absurd said
  words_read pre used (i ∷ is) (m ∷ ms) at laid made said =
      both_hold (ReadsAt (λ k. pre k ++ words_at k (m ∷ ms))) (said_by names i i.content) (said_in names is)
      (each_holds (IsStatementOf B m) (ReadsAt (λ k. pre k ++ words_at k (m ∷ ms))) (said_by names i i.content) own (said.0).statements)
      (each_holds (ReadsAt (λ k. (pre k ++ words_part k m) ++ words_at k ms)) (ReadsAt (λ k. pre k ++ words_at k (m ∷ ms))) (said_in names is) moved
      (words_read (λ k. pre k ++ words_part k m) (λ k. used k + part k i) is ms longer laid.1 made.1 said.1))
    where
      own : (x : Instruction) → IsStatementOf B m x → ReadsAt (λ k. pre k ++ words_at k (m ∷ ms)) x
      own x h =
          let o = h.offset_is ∙ (made.0).offset_is ∙ laid.0 in
          let same : i.section ≡ x.section = sym (h.section_is ∙ (made.0).section_is) in
          let l = at x.section in
          let u : used i.section ≡ used x.section = ap used same in
          record {
            reads = statement_reads B m x (pre x.section ++ words_at x.section (m ∷ ms)) (pre x.section) (words_at x.section ms) h
                (ap (λ ws. pre x.section ++ ws) (words_here x.section m ms (sym h.section_is))) (omega (arith, o, l, u));
          }

      moved : (x : Instruction) → ReadsAt (λ k. (pre k ++ words_part k m) ++ words_at k ms) x → ReadsAt (λ k. pre k ++ words_at k (m ∷ ms)) x
      moved x h =
          let same : (pre x.section ++ words_part x.section m) ++ words_at x.section ms ≡ pre x.section ++ words_at x.section (m ∷ ms) = append_assoc (pre x.section) (words_part x.section m) (words_at x.section ms) in
          record { reads = subst (λ (ws : List ℕ). Reads (slice_index ws x.offset) (slice_index ws (x.offset + 1)) (insn_with_zeros x)) same h.reads }

      longer : (k : ℕ) → length (pre k ++ words_part k m) ≡ used k + part k i
      longer k =
          let l = at k in
          let size = length-append (pre k) (words_part k m) in
          let p = by (eqb m.section k) (eqb i.section k) (ap (λ n. eqb n k) (made.0).section_is) in
          omega (arith, l, size, p)
        where
          by : (a b : Bool) → a ≡ b → length (cond a m.words []) ≡ cond b (words_in i.content) 0
          by true true e = (made.0).count
          by false false e = refl
          by true false e = absurd (cc)
          by false true e = absurd (cc)

  -- ---- relocations

  -- each relocation of a statement is one of its section
  pub relocations_there_are : (is : List PendingItem) (ms : List Made) → AreSaid B names is ms
      → AllByRecursion (λ x. (r : Relocation) → Contains (relocations_in x) r → Contains (relocations_at x.section ms) r) (said_in names is)
  relocations_there_are [] [] said = tt
  relocations_there_are [] (m ∷ ms) said = absurd said
  relocations_there_are (i ∷ is) [] said = absurd said
  relocations_there_are (i ∷ is) (m ∷ ms) said =
      both_hold (λ x. (r : Relocation) → Contains (relocations_in x) r → Contains (relocations_at x.section (m ∷ ms)) r) (said_by names i i.content) (said_in names is)
      (each_holds (IsStatementOf B m) (λ x. (r : Relocation) → Contains (relocations_in x) r → Contains (relocations_at x.section (m ∷ ms)) r) (said_by names i i.content)
      (λ x h r c. subst (λ (rs : List Relocation). Contains rs r) (sym (relocations_here x.section m ms (sym h.section_is)))
      (Contains-append_left m.relocations (relocations_at x.section ms) r (subst (λ (rs : List Relocation). Contains rs r) (sym h.relocations_are) c))) (said.0).statements)
      (each_holds (λ x. (r : Relocation) → Contains (relocations_in x) r → Contains (relocations_at x.section ms) r) (λ x. (r : Relocation) → Contains (relocations_in x) r → Contains (relocations_at x.section (m ∷ ms)) r) (said_in names is)
      (λ x h r c. Contains-append_right (relocations_part x.section m) (relocations_at x.section ms) r (h r c)) (relocations_there_are is ms said.1))

  -- each relocation of a section is of a statement or of a word
  pub relocations_are_of : (k : ℕ) (is : List PendingItem) (ms : List Made) (r : Relocation) → AreSaid B names is ms → Contains (relocations_at k ms) r
      → ((x : Instruction) × Contains (said_in names is) x × Contains (relocations_in x) r) ⊎ (r.kind ≡ Word16)
  relocations_are_of k [] [] r said c = absurd (nothing_in r c)
  relocations_are_of k [] (m ∷ ms) r said c = absurd said
  relocations_are_of k (i ∷ is) [] r said c = absurd said
  relocations_are_of k (i ∷ is) (m ∷ ms) r said c =
      elim (Contains-append_cases (relocations_part k m) (relocations_at k ms) r c) [
        | inl h ↦ front (part_in (eqb m.section k) h)
        | inr h ↦ behind (relocations_are_of k is ms r said.1 h)
      ]
    where
      part_in : (b : Bool) → Contains (cond b m.relocations []) r → Contains m.relocations r
      part_in true h = h
      part_in false h = absurd (nothing_in r h)

      behind : ((x : Instruction) × Contains (said_in names is) x × Contains (relocations_in x) r) ⊎ (r.kind ≡ Word16) → ((x : Instruction) × Contains (said_in names (i ∷ is)) x × Contains (relocations_in x) r) ⊎ (r.kind ≡ Word16)
      behind (inl h) = inl (h.0, Contains-append_right (said_by names i i.content) (said_in names is) h.0 h.1, h.2)
      behind (inr h) = inr h

      front : Contains m.relocations r → ((x : Instruction) × Contains (said_in names (i ∷ is)) x × Contains (relocations_in x) r) ⊎ (r.kind ≡ Word16)
      front h = elim ((said.0).others r h) [
        | inl e ↦ inl (
          e.0,
          Contains-append_left (said_by names i i.content) (said_in names is) e.0 (subst (λ (xs : List Instruction). Contains xs e.0) (sym e.1) (0, omega arith, refl)),
          subst (λ (rs : List Relocation). Contains rs r) ((subst (AllByRecursion (IsStatementOf B m)) e.1 (said.0).statements).0).relocations_are h,
        )
        | inr e ↦ inr e
      ]

  -- ---- no other relocation is of a statement's words

  pub said_from : (used : ℕ → ℕ) (is : List PendingItem) (ms : List Made) → AreLaid used is → AreMadeOf B is ms → AreSaid B names is ms → AllByRecursion (λ x. used x.section ≤ x.offset) (said_in names is)
  said_from used [] [] laid made said = tt
  said_from used [] (m ∷ ms) laid made said = absurd said
  said_from used (i ∷ is) [] laid made said = absurd said
  said_from used (i ∷ is) (m ∷ ms) laid made said =
      both_hold (λ x. used x.section ≤ x.offset) (said_by names i i.content) (said_in names is)
      (each_holds (IsStatementOf B m) (λ x. used x.section ≤ x.offset) (said_by names i i.content)
      (λ x h. let o = h.offset_is ∙ (made.0).offset_is ∙ laid.0 in let u = ap used (sym (h.section_is ∙ (made.0).section_is)) in omega (arith, o, u)) (said.0).statements)
      (each_holds (λ x. used x.section + part x.section i ≤ x.offset) (λ x. used x.section ≤ x.offset) (said_in names is) (λ x h. omega (arith, h))
      (said_from (λ k. used k + part k i) is ms laid.1 made.1 said.1))

  -- the relocations of items lie after the words that are there
  behind_used : (used : ℕ → ℕ) (k : ℕ) (is : List PendingItem) (ms : List Made) (r : Relocation) → AreLaid used is → AreMadeOf B is ms → Contains (relocations_at k ms) r → used k ≤ r.offset
  behind_used used k is ms r laid made c =
      let pre = replicate {A = ℕ} (used k) 0 in
      (chain_has (λ (x : Relocation). x.offset) (IsFilled B k 0 (pre ++ words_at k ms)) (used k) (used k + total k is) (relocations_at k ms) r (section_filled B k used pre is ms (zero_count (used k)) laid made) c).0

  pub own_relocations : (used : ℕ → ℕ) (is : List PendingItem) (ms : List Made) → AreLaid used is → AreMadeOf B is ms → AreSaid B names is ms
      → AllByRecursion (HasOwn ms) (said_in names is)
  own_relocations used [] [] laid made said = tt
  own_relocations used [] (m ∷ ms) laid made said = absurd said
  own_relocations used (i ∷ is) [] laid made said = absurd said
  own_relocations used (i ∷ is) (m ∷ ms) laid made said =
      both_hold (HasOwn (m ∷ ms)) (said_by names i i.content) (said_in names is)
      (each_holds (IsStatementOf B m) (HasOwn (m ∷ ms)) (said_by names i i.content) own (said.0).statements)
      (each_holds (IsLater used i ms) (HasOwn (m ∷ ms)) (said_in names is) later
      (both_facts (λ x. used x.section + part x.section i ≤ x.offset)
      (HasOwn ms) (said_in names is)
      (said_from (λ k. used k + part k i) is ms laid.1 made.1 said.1) (own_relocations (λ k. used k + part k i) is ms laid.1 made.1 said.1)))
    where
      part_in : (b : Bool) (r : Relocation) → Contains (cond b m.relocations []) r → (b ≡ true) × Contains m.relocations r
      part_in true r h = (refl, h)
      part_in false r h = absurd (nothing_in r h)

      own : (x : Instruction) → IsStatementOf B m x → (r : Relocation) → Contains (relocations_at x.section (m ∷ ms)) r → Covers x.offset (words_of_statement x) r.offset → Contains (relocations_in x) r
      own x h r c covers =
          elim (Contains-append_cases (relocations_part x.section m) (relocations_at x.section ms) r c) [
            | inl e ↦ subst (λ (rs : List Relocation). Contains rs r) h.relocations_are (part_in (eqb m.section x.section) r e).1
            | inr e ↦ absurd (past e)
          ]
        where
          past : Contains (relocations_at x.section ms) r → ⊥
          past e =
              let same : i.section ≡ x.section = sym (h.section_is ∙ (made.0).section_is) in
              let o = h.offset_is ∙ (made.0).offset_is ∙ laid.0 in
              let u : used i.section ≡ used x.section = ap used same in
              let p = part_here x.section i same in
              let size = (made.0).count in
              let n = ap (λ (ws : List ℕ). length ws) h.words_are ∙ form_size x.form x.sheet.numbers in
              let l = behind_used (λ k. used k + part k i) x.section is ms r laid.1 made.1 e in
              let t = covers.upto in
              omega (arith, o, u, p, size, n, l, t)

      later : (x : Instruction) → IsLater used i ms x → (r : Relocation) → Contains (relocations_at x.section (m ∷ ms)) r → Covers x.offset (words_of_statement x) r.offset → Contains (relocations_in x) r
      later x h r c covers =
          elim (Contains-append_cases (relocations_part x.section m) (relocations_at x.section ms) r c) [
            | inl e ↦ absurd (before (part_in (eqb m.section x.section) r e))
            | inr e ↦ h.1 r e covers
          ]
        where
          before : (eqb m.section x.section ≡ true) × Contains m.relocations r → ⊥
          before e =
              let here = eqb-true m.section x.section e.0 in
              let same : i.section ≡ x.section = sym (made.0).section_is ∙ here in
              let b = (chain_has (λ (y : Relocation). y.offset) (IsFilled B m.section m.offset m.words) m.offset (m.offset + length m.words) m.relocations r (made.0).filled e.1).1 in
              let o = (made.0).offset_is ∙ laid.0 in
              let u : used i.section ≡ used x.section = ap used same in
              let p = part_here x.section i same in
              let size = (made.0).count in
              let l = h.0 in
              let t = covers.from in
              omega (arith, b, o, u, p, size, l, t)
