-- The words and relocations of a line's operands: the words are words, and the relocations ascend, each of a field that is 0.
use Rattle.std.proofs.Common.{◌≡◌, ℕ, zero, suc, ◌+◌, ◌<◌, ◌^◌, ◌%◌, List, [], ◌∷◌, length, map, reverse, slice_index, Some, pos, refl, subst, arith}
use Rattle.std.specs.Int.{w32}
use Rattle.std.specs.Int.RustNames.{FitsSigned}
use Rattle.c25_meaning_instructions.proofs.FirstWords.{IsPlaced, opcode_word_placed}
use Rattle.c25_bits.proofs.Cuts.{cut_below}
use Rattle.c25_meaning_language.proofs.Numbers.{in_range}
use Rattle.c25_meaning_assembly.specs.Addresses.{words_of, relocation_at, relocations_of}
use Rattle.c25_meaning_assembly.specs.OperandFields.{field_of, word_of, target_size, FitsTarget}
use Rattle.c25_meaning_common.specs.Fields.{field_values}
use Rattle.c25_meaning_language.specs.Statement.{form_field, insn_of, relocation_of}
use Rattle.c25_meaning_instructions.specs.Table.{opcode_word, words}
use Rattle.c25_meaning_assembly.specs.declared.assembly.Address.{Address}
use Rattle.c25_meaning_assembly.specs.declared.assembly.DataWidth.TheVariants as width
use Rattle.c25_meaning_assembly.specs.declared.assembly.Target.{Target}
use Rattle.c25_meaning_assembly.specs.declared.assembly.Target.TheVariants as target
use Rattle.c25_meaning_instructions.specs.declared.insn.Insn.{Insn}
use Rattle.c25_meaning_instructions.specs.declared.insn.Insn.TheVariants as insn
use Rattle.c25_meaning_instructions.specs.declared.mnemonic.LongMemName.{LongMemName}
use Rattle.c25_meaning_objects.specs.declared.object.Relocation.{Relocation}
use Rattle.c25_meaning_common.specs.declared.relocation.RelocationKind.{RelocationKind}
use Rattle.c25_meaning_common.specs.declared.relocation.RelocationKind.TheVariants as kind
use Rattle.c25_meaning_language.specs.declared.statement.AddrForm.{AddrForm}
use Rattle.c25_meaning_language.specs.declared.statement.Form.{Form}
use Rattle.c25_meaning_language.specs.declared.statement.Form.TheVariants as form
use Rattle.c25_meaning_language.specs.declared.value.Base.{Base}
use Rattle.c25_module_laws.proofs.AddressFields.{IsAlone, alone, form_fields, form_size, long_mem_first, word_in_form}
use Rattle.c25_module_laws.proofs.Chains.{Chain, chain_bound}
use Rattle.c25_module_laws.proofs.Counted.{FitForm, IsCount}
use Rattle.c25_module_laws.proofs.OperandsValued.{AreAddresses, HoldsOf, IsAddress}
use Rattle.c25_module_laws.proofs.Spoken.{AreWords}

-- ---- words

first_below : (i : Insn) → IsPlaced i (opcode_word i) → opcode_word i < 2 ^ 16
first_below (insn.Mem name addr) h = grind arith
first_below (insn.Shifted name addr shift) h = grind arith
first_below (insn.ArMem name register addr) h = grind arith
first_below (insn.Port name addr port) h = grind arith
first_below (insn.Bit name addr code) h = grind arith
first_below (insn.Short name register number) h = grind arith
first_below (insn.Long name number high) h = grind arith
first_below (insn.LongMem name value addr) h = grind arith
first_below (insn.Jump name value change next) h = grind arith
first_below (insn.Plain name operand) h = grind arith

insn_words : (i : Insn) → opcode_word i < 2 ^ 16 → AreWords (words i)
insn_words (insn.Mem name addr) h = (h, tt)
insn_words (insn.Shifted name addr shift) h = (h, tt)
insn_words (insn.ArMem name register addr) h = (h, tt)
insn_words (insn.Port name addr port) h = (h, tt)
insn_words (insn.Bit name addr code) h = (h, tt)
insn_words (insn.Short name register number) h = (h, tt)
insn_words (insn.Long name number high) h = (h, (cut_below (pos number) 16, tt))
insn_words (insn.LongMem name value addr) h = (h, (cut_below (pos value) 16, tt))
insn_words (insn.Jump name value change next) h = (h, (cut_below (pos value) 16, tt))
insn_words (insn.Plain name operand) h = (h, tt)

each_word : (ns : List ℕ) → ((k : ℕ) → slice_index ns k < 2 ^ 16) → AreWords ns
each_word [] h = tt
each_word (n ∷ ns) h = (h 0, each_word ns (λ k. h (suc k)))

-- the words of a line's numbers are words
pub line_words : (t : Target) (ns : List ℕ) → FitsTarget t ns → AreWords (words_of t ns)
line_words (target.Instruction f) ns h = insn_words (insn_of f ns) (first_below (insn_of f ns) (opcode_word_placed (insn_of f ns) (in_range f ns h)))
line_words (target.Data width.Word) ns h = each_word ns h
line_words (target.Data width.Byte) ns h = each_word ns (λ k. let l = h k in omega (arith, l))

-- a line has as many words as its operands ask for
pub line_size : (t : Target) (ns : List ℕ) → length (words_of t ns) ≡ target_size t (length ns)
line_size (target.Instruction f) ns = form_size f ns
line_size (target.Data w) ns = refl

-- ---- relocations

-- a relocation of words that begin at an offset of a section
pub record IsFilled (B : Base → Type 0) (section offset : ℕ) (ws : List ℕ) (r : Relocation) : Type 0 where
  pub section_is : r.section ≡ section
  pub word : ℕ
  pub offset_is : r.offset ≡ offset + word
  pub within : word < length ws
  pub clear : slice_index ws word % field_values r.kind ≡ 0
  pub base : HoldsOf B r.base
  pub fits : FitsSigned w32 r.addend

-- the relocations of such words ascend
abbrev pub AreFilled : (Base → Type 0) → ℕ → ℕ → List ℕ → ℕ → ℕ → List Relocation → Type 0
AreFilled B section offset ws low high rs = Chain (λ (r : Relocation). r.offset) (IsFilled B section offset ws) low high rs

-- the word of an address within its line
abbrev place : Target → Address → ℕ
place t a = word_of (field_of t a.operand) a.operand

module _ (B : Base → Type 0) (section offset : ℕ) where
  filled_at : (t : Target) (ns : List ℕ) (a : Address) → IsAddress B t ns a → place t a < length (words_of t ns) → slice_index (words_of t ns) (place t a) % field_values a.kind ≡ 0
      → IsFilled B section offset (words_of t ns) (relocation_at t section offset a)
  filled_at t ns a h within clear = record {
    section_is = refl;
    word = place t a;
    offset_is = refl;
    within = within;
    clear = clear;
    base = h.base;
    fits = h.fits;
  }

  -- ---- instructions

  insn_filled : (f : Form) (ns : List ℕ) (a : Address) → FitForm f (length ns) → a.operand < length ns → IsAddress B (target.Instruction f) ns a
      → IsFilled B section offset (words_of (target.Instruction f) ns) (relocation_at (target.Instruction f) section offset a)
  insn_filled f ns a few l h =
      filled_at (target.Instruction f) ns a h (let w = word_in_form f a.kind a.operand h.kind in let s = form_size f ns in omega (arith, w, s))
      (form_fields f ns a.operand a.kind few l h.kind h.clear).clear

  -- one address at most
  one_filled : (f : Form) (ns : List ℕ) (list : List Address) → IsAlone f → FitForm f (length ns) → AreAddresses B (target.Instruction f) ns list
      → AreFilled B section offset (words_of (target.Instruction f) ns) offset (offset + length (words_of (target.Instruction f) ns)) (map (relocation_at (target.Instruction f) section offset) list)
  unfolding IsAlone
  one_filled f ns [] only few h = omega arith
  one_filled f ns (a ∷ []) only few h =
      let l : a.operand < length ns = let m = h.2 in omega (arith, m) in
      let filled = insn_filled f ns a few l h.1 in
      let w = filled.within in
      (omega arith, filled, omega (arith, w))
  one_filled f ns (a ∷ b ∷ list) only few h =
      let t = h.2 in
      let g = t.1 in
      let k = h.1 in
      absurd (only (length ns) a.operand b.operand a.kind b.kind few (let l = t.0 in omega (arith, l)) (within b list t.2) k.kind g.kind)
    where
      within : (b : Address) (list : List Address) → Chain (λ (a : Address). a.operand) (IsAddress B (target.Instruction f) ns) (b.operand + 1) (length ns) list → b.operand < length ns
      within b list h = let l = chain_bound (λ (a : Address). a.operand) (IsAddress B (target.Instruction f) ns) (b.operand + 1) (length ns) list h in omega (arith, l)

  -- MAC and its like
  two_filled : (name : LongMemName) (x : AddrForm) (ns : List ℕ) (list : List Address) → FitForm (form.LongMem name x) (length ns) → AreAddresses B (target.Instruction (form.LongMem name x)) ns list
      → AreFilled B section offset (words_of (target.Instruction (form.LongMem name x)) ns) offset (offset + length (words_of (target.Instruction (form.LongMem name x)) ns))
      (map (relocation_at (target.Instruction (form.LongMem name x)) section offset) (reverse list))
  two_filled name x ns [] few h = omega arith
  two_filled name x ns (a ∷ []) few h =
      let l : a.operand < length ns = let m = h.2 in omega (arith, m) in
      let filled = insn_filled (form.LongMem name x) ns a few l h.1 in
      let w = filled.within in
      (omega arith, filled, omega (arith, w))
  two_filled name x ns (a ∷ b ∷ []) few h =
      let t = h.2 in
      let l : b.operand < length ns = let m = t.2 in omega (arith, m) in
      let k : a.operand < b.operand = let m = t.0 in omega (arith, m) in
      let first = insn_filled (form.LongMem name x) ns a few (omega (arith, k, l)) h.1 in
      let second = insn_filled (form.LongMem name x) ns b few l t.1 in
      let zero_is : a.operand ≡ 0 = omega (arith, few, k, l) in
      let one_is : b.operand ≡ 1 = omega (arith, few, k, l) in
      let behind : place (target.Instruction (form.LongMem name x)) a ≡ 1 = rw zero_is refl in
      let front : place (target.Instruction (form.LongMem name x)) b ≡ 0 = front_of b.operand one_is (t.1).kind in
      (omega arith, second, (omega (arith, behind, front), first, omega (arith, behind)))
    where
      front_of : (k : ℕ) → k ≡ 1 → relocation_of (form_field (form.LongMem name x) k) ≡ Some b.kind → word_of (form_field (form.LongMem name x) k) k ≡ 0
      front_of zero e h = absurd (omega (arith, e))
      front_of (suc k) e h = long_mem_first name x k b.kind h
  two_filled name x ns (a ∷ b ∷ c ∷ list) few h =
      let t = h.2 in
      let u = t.2 in
      let m = chain_bound (λ (a : Address). a.operand) (IsAddress B (target.Instruction (form.LongMem name x)) ns) (c.operand + 1) (length ns) list u.2 in
      let p = t.0 in
      let q = u.0 in
      absurd (omega (arith, few, p, q, m))

  -- ---- words

  words_filled : (ns : List ℕ) (low : ℕ) (list : List Address) → Chain (λ (a : Address). a.operand) (IsAddress B (target.Data width.Word) ns) low (length ns) list
      → AreFilled B section offset ns (offset + low) (offset + length ns) (map (relocation_at (target.Data width.Word) section offset) list)
  words_filled ns low [] h = omega (arith, h)
  words_filled ns low (a ∷ list) h =
      let g = h.1 in
      let l = chain_bound (λ (a : Address). a.operand) (IsAddress B (target.Data width.Word) ns) (a.operand + 1) (length ns) list h.2 in
      let e : offset + (a.operand + 1) ≡ offset + a.operand + 1 = omega arith in (
        let m = h.0 in omega (arith, m),
        filled_at (target.Data width.Word) ns a g (omega (arith, l)) (zero_clear a.kind g.kind g.clear),
        subst (λ (n : ℕ). AreFilled B section offset ns n (offset + length ns) (map (relocation_at (target.Data width.Word) section offset) list)) e (words_filled ns (a.operand + 1) list h.2),
      )
    where
      zero_clear : (k : RelocationKind) → relocation_of (field_of (target.Data width.Word) a.operand) ≡ Some k → slice_index ns a.operand ≡ 0 → slice_index ns a.operand % field_values k ≡ 0
      zero_clear k e z = let q : kind.Word16 ≡ k = cc in subst (λ (x : RelocationKind). slice_index ns a.operand % field_values x ≡ 0) q (rw z refl)

  -- the relocations of a line
  pub line_filled : (t : Target) (ns : List ℕ) (list : List Address) → IsCount t (length ns) → AreAddresses B t ns list
      → AreFilled B section offset (words_of t ns) offset (offset + length (words_of t ns)) (relocations_of t section offset list)
  line_filled (target.Instruction (form.Mem name a)) ns list few h = one_filled (form.Mem name a) ns list (alone (form.Mem name a) (λ n b e. cc)) few h
  line_filled (target.Instruction (form.Shifted name a)) ns list few h = one_filled (form.Shifted name a) ns list (alone (form.Shifted name a) (λ n b e. cc)) few h
  line_filled (target.Instruction (form.ArMem name a)) ns list few h = one_filled (form.ArMem name a) ns list (alone (form.ArMem name a) (λ n b e. cc)) few h
  line_filled (target.Instruction (form.Port name a)) ns list few h = one_filled (form.Port name a) ns list (alone (form.Port name a) (λ n b e. cc)) few h
  line_filled (target.Instruction (form.Bit name a)) ns list few h = one_filled (form.Bit name a) ns list (alone (form.Bit name a) (λ n b e. cc)) few h
  line_filled (target.Instruction (form.Short name)) ns list few h = one_filled (form.Short name) ns list (alone (form.Short name) (λ n b e. cc)) few h
  line_filled (target.Instruction (form.Long name)) ns list few h = one_filled (form.Long name) ns list (alone (form.Long name) (λ n b e. cc)) few h
  line_filled (target.Instruction (form.LongMem name a)) ns list few h = two_filled name a ns list few h
  line_filled (target.Instruction (form.Jump name c)) ns list few h = one_filled (form.Jump name c) ns list (alone (form.Jump name c) (λ n b e. cc)) few h
  line_filled (target.Instruction (form.Plain name c)) ns list few h = one_filled (form.Plain name c) ns list (alone (form.Plain name c) (λ n b e. cc)) few h
  line_filled (target.Data width.Word) ns list few h = let z : offset + 0 ≡ offset = omega arith in subst (λ (n : ℕ). AreFilled B section offset ns n (offset + length ns) (map (relocation_at (target.Data width.Word) section offset) list)) z (words_filled ns 0 list h)
  line_filled (target.Data width.Byte) ns [] few h = omega arith
  line_filled (target.Data width.Byte) ns (a ∷ list) few h = let g = (h.1).kind in absurd (cc)
