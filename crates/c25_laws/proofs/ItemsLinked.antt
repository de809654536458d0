-- The words of each item of a module, as the program has them, are its own words under the map.
use Rattle.std.proofs.Common.{◌≡◌, ℕ, zero, suc, ◌+◌, ◌%◌, ◌<◌, Bool, true, false, ◌&&◌, eqb, List, [], ◌∷◌, length, set, replicate, slice_index, Option, Some, None, IfSome, Result, Ok, refl, sym, ap, ◌∙◌, subst, arith, inl, inr}
use Rattle.std.specs.Prelude.{find}
use Rattle.std.specs.List.{Contains, fold, list_all}
use Rattle.std.specs.Option.{option_to_list}
use Rattle.std.proofs.lemmas.Bool.{eq-eqb, eqb-true}
use Rattle.std.proofs.lemmas.List.{get_or-set_other, get_or-set_same, length-set}
use Rattle.std.proofs.lemmas.List.Elements.{All-contains, Contains-append_left, Contains-append_right}
use Rattle.c25_meaning_instructions.proofs.RelocatedFields.{filled_zero}
use Rattle.c25_meaning_assembly.specs.Addresses.{OperandValues, relocation_at, relocations_of, operand_values, words_of}
use Rattle.c25_meaning_assembly.specs.Emission.{all_names, is_here, module_with, table_at}
use Rattle.c25_meaning_common.specs.Fields.{field_number, filled}
use Rattle.c25_meaning_assembly.specs.InstructionStatements.{Instruction}
use Rattle.c25_meaning_objects.specs.Module.{Contents}
use Rattle.c25_meaning_common.specs.Fields.{field_values}
use Rattle.c25_meaning_linking.specs.Place.{Place}
use Rattle.c25_meaning_assembly.specs.Sections.{Content, Definitions, Exported, PendingItem, Operands, Progress, Words, Zeros, place}
use Rattle.c25_meaning_language.specs.Statement.{form_row, insn_of}
use Rattle.c25_meaning_instructions.specs.Table.{Reads, opcode_word, second_word, size, words}
use Rattle.c25_meaning_language.specs.Tree.{Tree}
use Rattle.c25_meaning_linking.specs.Words.{is_relocation_at, linked_word, relocated, relocated_value}
use Rattle.c25_meaning_assembly.specs.declared.assembly.Address.{Address}
use Rattle.c25_meaning_assembly.specs.declared.assembly.DataWidth.TheVariants as width
use Rattle.c25_meaning_assembly.specs.declared.assembly.Target.{Target}
use Rattle.c25_meaning_assembly.specs.declared.assembly.Target.TheVariants as target
use Rattle.c25_meaning_objects.specs.declared.object.Relocation.{Relocation}
use Rattle.c25_meaning_common.specs.declared.relocation.RelocationKind.{RelocationKind}
use Rattle.c25_meaning_common.specs.declared.relocation.RelocationKind.TheVariants as kind
use Rattle.c25_meaning_language.specs.declared.statement.FaultKind.{FaultKind}
use Rattle.c25_meaning_language.specs.declared.statement.FaultKind.TheVariants as fault
use Rattle.c25_meaning_language.specs.declared.statement.Form.{Form}
use Rattle.c25_module_laws.proofs.AddressFields.{form_size}
use Rattle.c25_module_laws.proofs.Chains.{Chain}
use Rattle.c25_module_laws.proofs.Emitted.{Give, Made, filled_from, made_by, relocations_at, words_at}
use Rattle.c25_laws.proofs.FieldsFilled.{fill, numbered}
use Rattle.c25_laws.proofs.ItemsStand.{StandsIn, stands_in}
use Rattle.c25_module_laws.proofs.Kept.{heads, is_code, words_in}
use Rattle.c25_module_laws.proofs.KeptActs.{code_section}
use Rattle.c25_module_laws.proofs.KeptLines.{IsMade}
use Rattle.c25_module_laws.proofs.LineWords.{IsFilled}
use Rattle.c25_linking_laws.proofs.Members.{behind_in, each_in, first_in, found_in, from_map, in_front, in_map, none_found, nothing_in}
use Rattle.c25_module_laws.proofs.ModulesOfSources.{base_in, items_placed}
use Rattle.c25_laws.proofs.NamesUnder.{name_kind, name_means}
use Rattle.c25_module_laws.proofs.OperandsValued.{IsAddress, IsSheet, sheet_made}
use Rattle.c25_laws.proofs.ProgramWords.{linked, reads}
use Rattle.c25_module_laws.proofs.ResultSteps.{bound, permitted}
use Rattle.c25_module_laws.proofs.SectionsFilled.{laid_within, zero_count}
use Rattle.c25_laws.proofs.SheetStatements.{address_value}
use Rattle.c25_laws.proofs.ValuesFilled.{sheet_comes}
use Rattle.c25_laws.proofs.StatementItems.{said_by, said_in, with_operands}
use Rattle.c25_laws.proofs.StatementWords.{chain_has}
use Rattle.c25_laws.proofs.StatementsOfSources.{HasOperands, all_operands, are_statements, good, in_module, of_section, words_same}
use Rattle.c25_module_laws.proofs.Symbols.{all_known}
use Rattle.c25_module_laws.proofs.Valued.{IsGoodValue}
use Rattle.c25_laws.specs.ModuleStatements.{IsAssembled, word_at}
use Rattle.c25_laws.specs.ProgramStatements.{numbers_under}
use Rattle.c25_laws.specs.SourceValues.{counted_from}
use Rattle.c25_laws.specs.SourceWords.{item_words}

-- ---- numbers with those of addresses

module _ (value : Address → ℕ) where
  fill_other : (ns : List ℕ) (list : List Address) (j : ℕ) → ((a : Address) → Contains list a → a.operand ≡ j → ⊥) → slice_index (fold (numbered value) ns list) j ≡ slice_index ns j
  fill_other ns [] j h = refl
  fill_other ns (a ∷ list) j h =
      fill_other (set ns a.operand (value a)) list j (λ b c e. h b (behind_in a b list c) e)
      ∙ get_or-set_other ns a.operand j (value a) 0 (λ e. h a (first_in a list) (sym e))

  fill_at : (fair : Address → Type 0) (low high : ℕ) (ns : List ℕ) (list : List Address) (j : ℕ) (a : Address) → Chain (λ (a : Address). a.operand) fair low high list → Contains list a → a.operand ≡ j → j < length ns
      → slice_index (fold (numbered value) ns list) j ≡ value a
  fill_at fair low high ns [] j a h c at l = absurd (nothing_in a c)
  fill_at fair low high ns (b ∷ list) j a h c at l =
      elim (in_front b a list c) [
        | inl e ↦ here e
        | inr e ↦ fill_at fair (b.operand + 1) high (set ns b.operand (value b)) list j a h.2 e at (let n = length-set ns b.operand (value b) in omega (arith, n, l))
      ]
    where
      here : b ≡ a → slice_index (fold (numbered value) (set ns b.operand (value b)) list) j ≡ value a
      here e =
          let is_j : b.operand ≡ j = ap (λ (x : Address). x.operand) e ∙ at in
          fill_other (set ns b.operand (value b)) list j (λ d i g. let f = (chain_has (λ (x : Address). x.operand) fair (b.operand + 1) high list d h.2 i).0 in omega (arith, f, g, is_j))
          ∙ ap (λ k. slice_index (set ns k (value b)) j) is_j ∙ get_or-set_same ns j (value b) 0 l ∙ ap value e

zero_field : (k : RelocationKind) → 0 % field_values k ≡ 0
zero_field kind.Word16 = refl
zero_field kind.Low7 = refl
zero_field kind.Page9 = refl

both : (a b : Bool) → (a && b) ≡ true → (a ≡ true) × (b ≡ true)
both true b h = (refl, h)
both false b h = absurd cc

-- the statement of an item is one of the module's
said_contains : (names : Definitions) (is : List PendingItem) (i : PendingItem) (x : Instruction) → Contains is i → said_by names i i.content ≡ x ∷ [] → Contains (said_in names is) x
said_contains names [] i x c e = absurd (nothing_in i c)
said_contains names (y ∷ is) i x c e =
    elim (in_front y i is c) [
      | inl same ↦ Contains-append_left (said_by names y y.content) (said_in names is) x (subst (λ (xs : List Instruction). Contains xs x) (sym (ap (λ (z : PendingItem). said_by names z z.content) same ∙ e)) (first_in x []))
      | inr later ↦ Contains-append_right (said_by names y y.content) (said_in names is) x (said_contains names is i x later e)
    ]

counted_length : (f : ℕ → Tree → ℕ) (k : ℕ) (es : List Tree) → length (counted_from f k es) ≡ length es
counted_length f k [] = refl
counted_length f k (e ∷ es) = ap suc (counted_length f (k + 1) es)

same_made : (a b : Made) → ◌≡◌ {A = Result Made FaultKind} (Ok a) (Ok b) → a ≡ b
same_made a b e = let q : a ≡ b = cc in q

-- the second word, if there is one
second_there : (o : Option ℕ) (w first : ℕ) → IfSome o (λ v. v ≡ w) → 1 < length (first ∷ option_to_list o) → w ≡ slice_index (first ∷ option_to_list o) 1
second_there None w first h l = absurd (omega (arith, l))
second_there (Some v) w first h l = sym h

no_third : (o : Option ℕ) (k first : ℕ) → suc (suc k) < length (first ∷ option_to_list o) → ⊥
no_third None k first l = omega (arith, l)
no_third (Some v) k first l = omega (arith, l)

-- no byte has an address
no_addresses : (B : _) (ns : List ℕ) (low high : ℕ) (list : List Address) → Chain (λ (a : Address). a.operand) (IsAddress B (target.Data width.Byte) ns) low high list → list ≡ []
no_addresses B ns low high [] h = refl
no_addresses B ns low high (a ∷ list) h = let k = (h.1).kind in absurd (cc)

-- as many words as it was laid with
pub item_count : (all : List Contents) (places : List Place) (number : ℕ) (m : Contents) (names : Definitions) (i : PendingItem) (c : Content) → length (item_words all places number m names i c) ≡ words_in c
item_count all places number m names i (Operands (target.Instruction f) trees) = form_size f (numbers_under all places number m names i.section i.offset (target.Instruction f) trees)
item_count all places number m names i (Operands (target.Data w) trees) = counted_length _ 0 trees
item_count all places number m names i (Words bytes) = refl
item_count all places number m names i (Zeros count) = zero_count count
item_count all places number m names i (Exported exported) = refl

-- ---- items of a module

module _ (all : List Contents) (places : List Place) (number : ℕ) (p : Progress) (ms : List Made) (kept : IsMade p) (give : Give (all_names p) p.items ms) where
  abbrev m : Contents
  m = module_with (filled_from 0 p.sections ms) (all_names p) p.exported

  abbrev value : Address → ℕ
  value a = field_number a.kind (address_value all places number m a)

  pub code : (i : PendingItem) → Contains p.items i → is_code (heads p.sections) i.section ≡ true
  code i c = each_in (λ (i : PendingItem). is_code (heads p.sections) i.section ≡ true) p.items i (kept.kept).items.codes c

  pub stands : (i : PendingItem) → Contains p.items i → StandsIn (base_in p) (all_names p) (λ k. words_at k ms) (λ k. relocations_at k ms) i
  stands i c =
      stands_in (base_in p) (all_names p) (λ k. []) (λ k. []) (λ k. 0) p.items ms (λ k. refl) (λ k r e. absurd (nothing_in r e)) (kept.kept).items.laid (good p ms kept give) give i c

  module _ (i : PendingItem) (c : Contains p.items i) where
    abbrev made : Made
    made = (stands i c).made

    -- operands with their addresses filled are the numbers of the operands under the map
    comes : (t : Target) (trees : List Tree) (s : OperandValues) → operand_values t (table_at (all_names p) i.section i.offset) trees ≡ Ok s
        → fold (numbered value) s.numbers s.addresses ≡ numbers_under all places number m p.names i.section i.offset t trees
    comes t trees s is =
        sheet_comes all places number m p.names (all_names p) i.section i.offset t
        (name_means all places number m (length p.sections) p.names p.declared p.exported refl (kept.kept).names.symbols)
        (name_kind all places number m (length p.sections) p.names p.declared p.exported refl (kept.kept).names.symbols) trees s is

    sheet_is : (t : Target) (trees : List Tree) (s : OperandValues) → operand_values t (table_at (all_names p) i.section i.offset) trees ≡ Ok s → IsSheet (base_in p) t (length trees) s
    sheet_is t trees s is =
        sheet_made (base_in p) tt t (table_at (all_names p) i.section i.offset) (all_known (length p.sections) p.names p.declared p.exported (kept.kept).names.symbols)
        (each_in (λ (i : PendingItem). IsGoodValue (base_in p) (place i.section i.offset)) p.items i
        (items_placed p p.items kept.kept (kept.kept).items.codes (laid_within (λ k. 0) p.items (kept.kept).items.laid)) c) trees s is

    read : (j : ℕ) → j < length made.words → word_at m i.section (i.offset + j) ≡ slice_index made.words j
    read j l = ap (λ ws. slice_index ws (i.offset + j)) (sym (words_same p ms kept give i.section (code i c))) ∙ (stands i c).word_is j l

    split : (o : ℕ) (r : Relocation) → is_relocation_at i.section o r ≡ true → (r.section ≡ i.section) × (r.offset ≡ o)
    split o r e = let t = both (eqb r.section i.section) (eqb r.offset o) e in (eqb-true r.section i.section t.0, eqb-true r.offset o t.1)

    joined : (o : ℕ) (r : Relocation) → r.section ≡ i.section → r.offset ≡ o → is_relocation_at i.section o r ≡ true
    joined o r e f = rw (eq-eqb r.section i.section e, eq-eqb r.offset o f) refl

    found_own : (j : ℕ) (r : Relocation) → j < length made.words → find (is_relocation_at i.section (i.offset + j)) m.relocations ≡ Some r → Contains made.relocations r × (r.offset ≡ i.offset + j)
    found_own j r l e =
        let f = found_in (is_relocation_at i.section (i.offset + j)) m.relocations r e in
        let at = split (i.offset + j) r f.1 in
        let o = at.1 in
        let here : Contains (relocations_at i.section ms) r = subst (λ (n : ℕ). Contains (relocations_at n ms) r) at.0 (of_section p ms kept give r f.0) in
        ((stands i c).own r here (record { from = omega (arith, o); upto = omega (arith, o, l) }), at.1)

    none_own : (j : ℕ) (r : Relocation) → find (is_relocation_at i.section (i.offset + j)) m.relocations ≡ None → Contains made.relocations r → r.offset ≡ i.offset + j → ⊥
    none_own j r e h at =
        let s = code_section p.sections i.section (code i c) in
        let z : i.section ≡ 0 + i.section = omega arith in
        let there : Contains m.relocations r = in_module 0 i.section p.sections ms s.0 r s.1 (subst (λ (n : ℕ). Contains (relocations_at n ms) r) z ((stands i c).there r h)) in
        let g = (stands i c).good in
        let filled = chain_has (λ (x : Relocation). x.offset) (IsFilled (base_in p) made.section made.offset made.words) made.offset (made.offset + length made.words) made.relocations r g.filled h in
        none_found (is_relocation_at i.section (i.offset + j)) m.relocations r e there (joined (i.offset + j) r ((filled.2).section_is ∙ g.section_is) at)

    -- ---- words without relocations

    bare_word : (j w : ℕ) → j < length made.words → made.relocations ≡ [] → linked_word all places number m i.section (i.offset + j) w ≡ w
    bare_word j w l none = by (find (is_relocation_at i.section (i.offset + j)) m.relocations) refl
      where
        by : (o : Option Relocation) → find (is_relocation_at i.section (i.offset + j)) m.relocations ≡ o → relocated all places number m o w ≡ w
        by None e = refl
        by (Some r) e = absurd (nothing_in r (subst (λ (rs : List Relocation). Contains rs r) none (found_own j r l e).0))

    abbrev IsLinked : ℕ → List ℕ → Type 0
    IsLinked j ws = linked_word all places number m i.section (i.offset + j) (word_at m i.section (i.offset + j)) ≡ slice_index ws j

    bare_linked : (ws : List ℕ) (j : ℕ) → j < length made.words → ◌≡◌ {A = Made} (record { section = i.section; offset = i.offset; words = ws; relocations = [] }) made → IsLinked j ws
    bare_linked ws j l q =
        bare_word j (word_at m i.section (i.offset + j)) l (sym (ap (λ (x : Made). x.relocations) q)) ∙ read j l ∙ sym (ap (λ (x : Made). slice_index x.words j) q)

    -- ---- `.word` and `.int`

    words_linked : (trees : List Tree) (s : OperandValues) (j : ℕ) → operand_values (target.Data width.Word) (table_at (all_names p) i.section i.offset) trees ≡ Ok s → j < length made.words
        → ◌≡◌ {A = Made} (record { section = i.section; offset = i.offset; words = s.numbers; relocations = relocations_of (target.Data width.Word) i.section i.offset s.addresses }) made
        → IsLinked j (numbers_under all places number m p.names i.section i.offset (target.Data width.Word) trees)
    words_linked trees s j is l q = by (find (is_relocation_at i.section (i.offset + j)) m.relocations) refl ∙ ap (λ ns. slice_index ns j) (comes (target.Data width.Word) trees s is)
      where
        word_is : word_at m i.section (i.offset + j) ≡ slice_index s.numbers j
        word_is = read j l ∙ sym (ap (λ (x : Made). slice_index x.words j) q)

        small : j < length s.numbers
        small = let n = ap (λ (x : Made). length x.words) q in omega (arith, n, l)

        by : (o : Option Relocation) → find (is_relocation_at i.section (i.offset + j)) m.relocations ≡ o
            → relocated all places number m o (word_at m i.section (i.offset + j)) ≡ slice_index (fold (numbered value) s.numbers s.addresses) j
        by None e =
            word_is
            ∙ sym (fill_other value s.numbers s.addresses j (λ a d at. none_own j (relocation_at (target.Data width.Word) i.section i.offset a) e
            (subst (λ (x : Made). Contains x.relocations (relocation_at (target.Data width.Word) i.section i.offset a)) q (in_map (relocation_at (target.Data width.Word) i.section i.offset) s.addresses a d))
            (ap (λ n. i.offset + n) at)))
        by (Some r) e =
            let f = found_own j r l e in
            let g = from_map (relocation_at (target.Data width.Word) i.section i.offset) s.addresses r (subst (λ (x : Made). Contains x.relocations r) (sym q) f.0) in
            let a = g.0 in
            let there : i.offset + a.operand ≡ r.offset = ap (λ (x : Relocation). x.offset) g.2 in
            let o = f.1 in
            let at : a.operand ≡ j = omega (arith, there, o) in
            let sheet = sheet_is (target.Data width.Word) trees s is in
            let h = chain_has (λ (x : Address). x.operand) (IsAddress (base_in p) (target.Data width.Word) s.numbers) 0 (length s.numbers) s.addresses a sheet.addresses g.1 in
            let empty : word_at m i.section (i.offset + j) ≡ 0 = word_is ∙ ap (slice_index s.numbers) (sym at) ∙ (h.2).clear in
            sym (ap (λ (x : Relocation). filled x.kind (field_number x.kind (relocated_value all places number m x)) (word_at m i.section (i.offset + j))) g.2)
            ∙ ap (filled a.kind (value a)) empty
            ∙ filled_zero a.kind (value a) 0 (zero_field a.kind)
            ∙ (let z : 0 + value a ≡ value a = omega arith in z)
            ∙ sym (fill_at value (IsAddress (base_in p) (target.Data width.Word) s.numbers) 0 (length s.numbers) s.numbers s.addresses j a sheet.addresses g.1 at small)

    -- ---- `.byte`

    bytes_linked : (trees : List Tree) (s : OperandValues) (j : ℕ) → operand_values (target.Data width.Byte) (table_at (all_names p) i.section i.offset) trees ≡ Ok s → j < length made.words
        → ◌≡◌ {A = Made} (record { section = i.section; offset = i.offset; words = s.numbers; relocations = relocations_of (target.Data width.Byte) i.section i.offset s.addresses }) made
        → IsLinked j (numbers_under all places number m p.names i.section i.offset (target.Data width.Byte) trees)
    bytes_linked trees s j is l q =
        let sheet = sheet_is (target.Data width.Byte) trees s is in
        let none = no_addresses (base_in p) s.numbers 0 (length s.numbers) s.addresses sheet.addresses in
        let bare : ◌≡◌ {A = Made} (record { section = i.section; offset = i.offset; words = s.numbers; relocations = [] }) made =
        sym (ap (λ (list : List Address). record { section = i.section; offset = i.offset; words = s.numbers; relocations = relocations_of (target.Data width.Byte) i.section i.offset list }) none) ∙ q in
        bare_linked s.numbers j l bare
        ∙ ap (λ ns. slice_index ns j) (sym (ap (λ (list : List Address). fold (numbered value) s.numbers list) none) ∙ comes (target.Data width.Byte) trees s is)

    -- ---- instructions

    abbrev own : Form → List Tree → List ℕ
    own f trees = numbers_under all places number m p.names i.section i.offset (target.Instruction f) trees

    abbrev filled_word : Form → OperandValues → ℕ → ℕ → ℕ
    filled_word f s k word = fold (fill value f k) word s.addresses

    insn_linked : (f : Form) (trees : List Tree) (s : OperandValues) (j : ℕ) → operand_values (target.Instruction f) (table_at (all_names p) i.section i.offset) trees ≡ Ok s → i.content ≡ Operands (target.Instruction f) trees → j < size (form_row f)
        → IsLinked j (words (insn_of f (numbers_under all places number m p.names i.section i.offset (target.Instruction f) trees)))
    insn_linked f trees s j is content l =
        let x : Instruction = record { section = i.section; offset = i.offset; form = f; sheet = s } in
        let said : said_by (all_names p) i i.content ≡ x ∷ [] = ap (said_by (all_names p) i) content ∙ ap (with_operands i f) is in
        let among = said_contains (all_names p) p.items i x c said in
        let assembled = All-contains (IsAssembled m) (said_in (all_names p) p.items) x (are_statements p ms kept give).each among in
        let operands = each_in HasOperands (said_in (all_names p) p.items) x (all_operands p ms kept give) among in
        by j l (λ (k : ℕ) (h : k < size (form_row f)). linked all places number m x assembled operands k (word_at m i.section (i.offset + k)) h) (reads all places number m x assembled operands)
      where
        by : (j : ℕ) → j < size (form_row f)
            → ((k : ℕ) → k < size (form_row f) → filled_word f s k (word_at m i.section (i.offset + k)) ≡ linked_word all places number m i.section (i.offset + k) (word_at m i.section (i.offset + k)))
            → Reads (filled_word f s 0 (word_at m i.section i.offset)) (filled_word f s 1 (word_at m i.section (i.offset + 1))) (insn_of f (fold (numbered value) s.numbers s.addresses))
            → IsLinked j (words (insn_of f (own f trees)))
        by zero l link r =
            let z : i.offset + 0 ≡ i.offset = omega arith in
            let own_reads = subst (λ (ns : List ℕ). Reads (filled_word f s 0 (word_at m i.section i.offset)) (filled_word f s 1 (word_at m i.section (i.offset + 1))) (insn_of f ns)) (comes (target.Instruction f) trees s is) r in
            sym (link 0 l) ∙ ap (λ n. filled_word f s 0 (word_at m i.section n)) z ∙ sym own_reads.first_is
        by (suc zero) l link r =
            let own_reads = subst (λ (ns : List ℕ). Reads (filled_word f s 0 (word_at m i.section i.offset)) (filled_word f s 1 (word_at m i.section (i.offset + 1))) (insn_of f ns)) (comes (target.Instruction f) trees s is) r in
            let n = form_size f (own f trees) in
            sym (link 1 l) ∙ second_there (second_word (insn_of f (own f trees))) (filled_word f s 1 (word_at m i.section (i.offset + 1))) (opcode_word (insn_of f (own f trees))) own_reads.second_is (omega (arith, n, l))
        by (suc (suc k)) l link r = let n = form_size f (own f trees) in absurd (no_third (second_word (insn_of f (own f trees))) k (opcode_word (insn_of f (own f trees))) (omega (arith, n, l)))

    -- ---- all items

    -- the words of an item as the program has them are its own
    pub item_linked : (j : ℕ) → j < words_in i.content → IsLinked j (item_words all places number m p.names i i.content)
    item_linked j l = by i.content refl (let n = ((stands i c).good).count in omega (arith, n, l))
      where
        by : (d : Content) → i.content ≡ d → j < length made.words → IsLinked j (item_words all places number m p.names i d)
        by (Operands (target.Instruction f) trees) e k =
            let s = bound (operand_values (target.Instruction f) (table_at (all_names p) i.section i.offset) trees) (λ s. Ok (record { section = i.section; offset = i.offset; words = words_of (target.Instruction f) s.numbers; relocations = relocations_of (target.Instruction f) i.section i.offset s.addresses })) made (ap (made_by (all_names p) i) (sym e) ∙ (stands i c).gives) in
            let n = ap words_in e in
            insn_linked f trees s.0 j s.1 e (omega (arith, n, l))
        by (Operands (target.Data width.Word) trees) e k =
            let s = bound (operand_values (target.Data width.Word) (table_at (all_names p) i.section i.offset) trees) (λ s. Ok (record { section = i.section; offset = i.offset; words = words_of (target.Data width.Word) s.numbers; relocations = relocations_of (target.Data width.Word) i.section i.offset s.addresses })) made (ap (made_by (all_names p) i) (sym e) ∙ (stands i c).gives) in
            words_linked trees s.0 j s.1 k (same_made (record { section = i.section; offset = i.offset; words = (s.0).numbers; relocations = relocations_of (target.Data width.Word) i.section i.offset (s.0).addresses }) made s.2)
        by (Operands (target.Data width.Byte) trees) e k =
            let s = bound (operand_values (target.Data width.Byte) (table_at (all_names p) i.section i.offset) trees) (λ s. Ok (record { section = i.section; offset = i.offset; words = words_of (target.Data width.Byte) s.numbers; relocations = relocations_of (target.Data width.Byte) i.section i.offset s.addresses })) made (ap (made_by (all_names p) i) (sym e) ∙ (stands i c).gives) in
            bytes_linked trees s.0 j s.1 k (same_made (record { section = i.section; offset = i.offset; words = (s.0).numbers; relocations = relocations_of (target.Data width.Byte) i.section i.offset (s.0).addresses }) made s.2)
        by (Words bytes) e k = bare_linked bytes j k (same_made (record { section = i.section; offset = i.offset; words = bytes; relocations = [] }) made (ap (made_by (all_names p) i) (sym e) ∙ (stands i c).gives))
        by (Zeros count) e k = bare_linked (replicate count 0) j k (same_made (record { section = i.section; offset = i.offset; words = replicate count 0; relocations = [] }) made (ap (made_by (all_names p) i) (sym e) ∙ (stands i c).gives))
        by (Exported exported) e k =
            bare_linked [] j k (permitted (list_all (is_here (all_names p)) exported) (record { section = i.section; offset = i.offset; words = []; relocations = [] }) fault.Undefined made (ap (made_by (all_names p) i) (sym e) ∙ (stands i c).gives)).1
