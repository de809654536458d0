-- The words of an instruction whose fields of addresses were filled, in turn, read as it with their numbers.
use Rattle.std.proofs.Common.{◌≡◌, ℕ, zero, suc, ◌+◌, ◌%◌, ◌≤◌, ◌<◌, cond, eqb, List, [], ◌∷◌, length, set, slice_index, Some, refl, sym, ap, ◌∙◌, subst, arith, inl, inr}
use Rattle.std.specs.List.{Contains, fold}
use Rattle.std.proofs.lemmas.Bool.{eq-eqb, ne_eqb}
use Rattle.std.proofs.lemmas.List.{get_or-set_other, length-set}
use Rattle.c25_meaning_instructions.proofs.RelocatedFields.{filled_zero, low_reads, page_reads, word_reads}
use Rattle.c25_meaning_assembly.specs.OperandFields.{word_of}
use Rattle.c25_meaning_common.specs.Fields.{filled}
use Rattle.c25_meaning_common.specs.Fields.{field_values}
use Rattle.c25_meaning_instructions.specs.RelocatedInsn.{HasField}
use Rattle.c25_meaning_language.specs.Statement.{form_field, insn_of, relocation_of}
use Rattle.c25_meaning_instructions.specs.Table.{Reads, words}
use Rattle.c25_meaning_assembly.specs.declared.assembly.Address.{Address}
use Rattle.c25_meaning_assembly.specs.declared.assembly.Target.TheVariants as target
use Rattle.c25_meaning_instructions.specs.declared.insn.Insn.{Insn}
use Rattle.c25_meaning_instructions.specs.declared.insn.Insn.TheVariants as insn
use Rattle.c25_meaning_instructions.specs.declared.mnemonic.LongMemName.{LongMemName}
use Rattle.c25_meaning_common.specs.declared.relocation.RelocationKind.{RelocationKind}
use Rattle.c25_meaning_common.specs.declared.relocation.RelocationKind.TheVariants as kind
use Rattle.c25_meaning_language.specs.declared.statement.AddrForm.{AddrForm}
use Rattle.c25_meaning_language.specs.declared.statement.Form.{Form}
use Rattle.c25_meaning_language.specs.declared.statement.Form.TheVariants as form
use Rattle.c25_module_laws.proofs.AddressFields.{IsAlone, IsField, alone, field_word, form_fields, long_mem_first}
use Rattle.c25_module_laws.proofs.Chains.{Chain, chain_bound}
use Rattle.c25_module_laws.proofs.Counted.{FitForm}
use Rattle.c25_linking_laws.proofs.Members.{behind_in, in_front, nothing_in}
use Rattle.c25_module_laws.proofs.OperandsValued.{IsAddress}

-- addresses of these numbers, whatever they count from
abbrev pub Ascend : Form → List ℕ → ℕ → List Address → Type 0
Ascend f ns low list = Chain (λ (a : Address). a.operand) (IsAddress (λ b. Unit {0}) (target.Instruction f) ns) low (length ns) list

-- the word of an address within its instruction
abbrev pub place : Form → Address → ℕ
place f a = word_of (form_field f a.operand) a.operand

-- a word of an instruction with the field of an address filled, if it is in that word
abbrev pub fill : (Address → ℕ) → Form → ℕ → ℕ → Address → ℕ
fill number f k word a = cond (eqb (place f a) k) (filled a.kind (number a) word) word

-- numbers with that of an address
abbrev pub numbered : (Address → ℕ) → List ℕ → Address → List ℕ
numbered number ns a = set ns a.operand (number a)

-- ---- one field

-- the second word, where it has a field
second_clear : (first second : ℕ) (i : Insn) → Reads first second i → HasField kind.Word16 i → slice_index (words i) 1 % 65536 ≡ 0 → second % 65536 ≡ 0
second_clear first second (insn.Long name n high) r f z = ap (λ w. w % 65536) (sym r.second_is) ∙ z
second_clear first second (insn.LongMem name word addr) r f z = ap (λ w. w % 65536) (sym r.second_is) ∙ z
second_clear first second (insn.Jump name word change next) r f z = ap (λ w. w % 65536) (sym r.second_is) ∙ z
second_clear first second (insn.Mem name addr) r f z = absurd f
second_clear first second (insn.Shifted name addr shift) r f z = absurd f
second_clear first second (insn.ArMem name register addr) r f z = absurd f
second_clear first second (insn.Port name addr port) r f z = absurd f
second_clear first second (insn.Bit name addr code) r f z = absurd f
second_clear first second (insn.Short name register n) r f z = absurd f
second_clear first second (insn.Plain name operand) r f z = absurd f

-- the words with the field of a kind filled
abbrev kind_filled : RelocationKind → ℕ → ℕ → ℕ → ℕ
kind_filled r number k word = cond (eqb (field_word r) k) (filled r number word) word

one_reads : (f : Form) (ns : List ℕ) (k : ℕ) (r : RelocationKind) (number first second : ℕ) → IsField f ns k r → number < field_values r → Reads first second (insn_of f ns)
    → Reads (kind_filled r number 0 first) (kind_filled r number 1 second) (insn_of f (set ns k number))
one_reads f ns k kind.Low7 number first second h l r =
    let clear : first % 128 ≡ 0 = ap (λ w. w % 128) (sym r.first_is) ∙ ap (λ w. slice_index (words (insn_of f ns)) w % 128) (sym h.word_is) ∙ h.clear in
    subst (λ w. Reads w second (insn_of f (set ns k number))) (sym (filled_zero kind.Low7 number first clear))
    (subst (Reads (first + number) second) (h.filled number l) (low_reads first second number (insn_of f ns) r h.has l))
one_reads f ns k kind.Page9 number first second h l r =
    let clear : first % 512 ≡ 0 = ap (λ w. w % 512) (sym r.first_is) ∙ ap (λ w. slice_index (words (insn_of f ns)) w % 512) (sym h.word_is) ∙ h.clear in
    subst (λ w. Reads w second (insn_of f (set ns k number))) (sym (filled_zero kind.Page9 number first clear))
    (subst (Reads (first + number) second) (h.filled number l) (page_reads first second number (insn_of f ns) r h.has l))
one_reads f ns k kind.Word16 number first second h l r =
    let clear : second % 65536 ≡ 0 = second_clear first second (insn_of f ns) r h.has (ap (λ w. slice_index (words (insn_of f ns)) w % 65536) (sym h.word_is) ∙ h.clear) in
    subst (λ w. Reads first w (insn_of f (set ns k number))) (sym (filled_zero kind.Word16 number second clear))
    (subst (Reads first (second + number)) (h.filled number l) (word_reads first second number (insn_of f ns) r h.has l))

-- ---- all fields

chain_behind : {X : Type 0} (at : X → ℕ) (good fair : X → Type 0) (low high : ℕ) (xs : List X) → ((x : X) → low ≤ at x → good x → fair x) → Chain at good low high xs → Chain at fair low high xs
chain_behind at good fair low high [] f h = h
chain_behind at good fair low high (x ∷ xs) f h =
    let l = h.0 in
    (l, f x l h.1, chain_behind at good fair (at x + 1) high xs (λ y m g. f y (omega (arith, l, m)) g) h.2)

others_clear : (f : Form) (ns : List ℕ) (k number : ℕ) (list : List Address) → Ascend f ns (k + 1) list → Ascend f (set ns k number) (k + 1) list
others_clear f ns k number list h =
    let same = length-set ns k number in
    subst (λ n. Chain (λ (a : Address). a.operand) (IsAddress (λ b. Unit {0}) (target.Instruction f) (set ns k number)) (k + 1) n list) (sym same)
    (chain_behind (λ (a : Address). a.operand) (IsAddress (λ b. Unit {0}) (target.Instruction f) ns) (IsAddress (λ b. Unit {0}) (target.Instruction f) (set ns k number)) (k + 1) (length ns) list
    (λ a l g. record { clear = get_or-set_other ns k a.operand number 0 (λ e. omega (arith, l, e)) ∙ g.clear; kind = g.kind; base = g.base; fits = g.fits }) h)

-- filling each field in turn
pub filled_reads : (number : Address → ℕ) (f : Form) (ns : List ℕ) (low : ℕ) (list : List Address) (first second : ℕ) → ((a : Address) → number a < field_values a.kind) → FitForm f (length ns) → Ascend f ns low list
    → Reads first second (insn_of f ns) → Reads (fold (fill number f 0) first list) (fold (fill number f 1) second list) (insn_of f (fold (numbered number) ns list))
filled_reads number f ns low [] first second below few h r = r
filled_reads number f ns low (a ∷ list) first second below few h r =
    let l : a.operand < length ns = (let b = chain_bound (λ (a : Address). a.operand) (IsAddress (λ b. Unit {0}) (target.Instruction f) ns) (a.operand + 1) (length ns) list h.2 in omega (arith, b)) in
    let field = form_fields f ns a.operand a.kind few l (h.1).kind (h.1).clear in
    let next = one_reads f ns a.operand a.kind (number a) first second field (below a) r in
    let words : Reads (fill number f 0 first a) (fill number f 1 second a) (insn_of f (numbered number ns a)) =
    subst (λ w. Reads (cond (eqb w 0) (filled a.kind (number a) first) first) (cond (eqb w 1) (filled a.kind (number a) second) second) (insn_of f (numbered number ns a))) (sym field.word_is) next in
    filled_reads number f (numbered number ns a) (a.operand + 1) list (fill number f 0 first a) (fill number f 1 second a) below
    (subst (FitForm f) (sym (length-set ns a.operand (number a))) few) (others_clear f ns a.operand (number a) list h.2) words

-- ---- no two addresses are in one word

abbrev pub AreApart : Form → List Address → Type 0
AreApart f [] = Unit {0}
AreApart f (a ∷ list) = ((b : Address) → Contains list b → place f a ≡ place f b → ⊥) × AreApart f list

one_apart : (f : Form) (ns : List ℕ) (list : List Address) → IsAlone f → FitForm f (length ns) → Ascend f ns 0 list → AreApart f list
unfolding IsAlone
one_apart f ns [] only few h = tt
one_apart f ns (a ∷ []) only few h = (λ b c e. nothing_in b c, tt)
one_apart f ns (a ∷ b ∷ list) only few h =
    let t = h.2 in
    let l = t.0 in
    let m = chain_bound (λ (a : Address). a.operand) (IsAddress (λ b. Unit {0}) (target.Instruction f) ns) (b.operand + 1) (length ns) list t.2 in
    absurd (only (length ns) a.operand b.operand a.kind b.kind few (omega (arith, l)) (omega (arith, m)) (h.1).kind (t.1).kind)

two_apart : (name : LongMemName) (x : AddrForm) (ns : List ℕ) (list : List Address) → FitForm (form.LongMem name x) (length ns) → Ascend (form.LongMem name x) ns 0 list → AreApart (form.LongMem name x) list
two_apart name x ns [] few h = tt
two_apart name x ns (a ∷ []) few h = (λ b c e. nothing_in b c, tt)
two_apart name x ns (a ∷ b ∷ []) few h =
    let t = h.2 in
    let k : a.operand < b.operand = let m = t.0 in omega (arith, m) in
    let l : b.operand < length ns = let m = t.2 in omega (arith, m) in
    let zero_is : a.operand ≡ 0 = omega (arith, few, k, l) in
    let one_is : b.operand ≡ 1 = omega (arith, few, k, l) in
    let behind : place (form.LongMem name x) a ≡ 1 = rw zero_is refl in
    let front : place (form.LongMem name x) b ≡ 0 = front_of b.operand one_is (t.1).kind in
    (λ c in_b same. only c in_b (omega (arith, behind, front)) same, (λ c d e. nothing_in c d, tt))
  where
    front_of : (k : ℕ) → k ≡ 1 → relocation_of (form_field (form.LongMem name x) k) ≡ Some b.kind → word_of (form_field (form.LongMem name x) k) k ≡ 0
    front_of zero e h = absurd (omega (arith, e))
    front_of (suc k) e h = long_mem_first name x k b.kind h

    only : (c : Address) → Contains (b ∷ []) c → place (form.LongMem name x) b < place (form.LongMem name x) a → place (form.LongMem name x) a ≡ place (form.LongMem name x) c → ⊥
    only c i l same =
        elim (in_front b c [] i) [
          | inl e ↦ (let p = ap (place (form.LongMem name x)) e in omega (arith, p, l, same))
          | inr e ↦ nothing_in c e
        ]
two_apart name x ns (a ∷ b ∷ c ∷ list) few h =
    let t = h.2 in
    let u = t.2 in
    let m = chain_bound (λ (a : Address). a.operand) (IsAddress (λ b. Unit {0}) (target.Instruction (form.LongMem name x)) ns) (c.operand + 1) (length ns) list u.2 in
    let p = t.0 in
    let q = u.0 in
    absurd (omega (arith, few, p, q, m))

pub apart : (f : Form) (ns : List ℕ) (list : List Address) → FitForm f (length ns) → Ascend f ns 0 list → AreApart f list
apart (form.Mem name a) ns list few h = one_apart (form.Mem name a) ns list (alone (form.Mem name a) (λ n b e. cc)) few h
apart (form.Shifted name a) ns list few h = one_apart (form.Shifted name a) ns list (alone (form.Shifted name a) (λ n b e. cc)) few h
apart (form.ArMem name a) ns list few h = one_apart (form.ArMem name a) ns list (alone (form.ArMem name a) (λ n b e. cc)) few h
apart (form.Port name a) ns list few h = one_apart (form.Port name a) ns list (alone (form.Port name a) (λ n b e. cc)) few h
apart (form.Bit name a) ns list few h = one_apart (form.Bit name a) ns list (alone (form.Bit name a) (λ n b e. cc)) few h
apart (form.Short name) ns list few h = one_apart (form.Short name) ns list (alone (form.Short name) (λ n b e. cc)) few h
apart (form.Long name) ns list few h = one_apart (form.Long name) ns list (alone (form.Long name) (λ n b e. cc)) few h
apart (form.LongMem name a) ns list few h = two_apart name a ns list few h
apart (form.Jump name c) ns list few h = one_apart (form.Jump name c) ns list (alone (form.Jump name c) (λ n b e. cc)) few h
apart (form.Plain name c) ns list few h = one_apart (form.Plain name c) ns list (alone (form.Plain name c) (λ n b e. cc)) few h

-- ---- one word

-- no address is in the word
pub fill_none : (number : Address → ℕ) (f : Form) (k word : ℕ) (list : List Address) → ((a : Address) → Contains list a → place f a ≡ k → ⊥) → fold (fill number f k) word list ≡ word
fill_none number f k word [] h = refl
fill_none number f k word (a ∷ list) h =
    let off : fill number f k word a ≡ word = ap (λ b. cond b (filled a.kind (number a) word) word) (ne_eqb (place f a) k (h a (0, omega arith, refl))) in
    ap (λ w. fold (fill number f k) w list) off ∙ fill_none number f k word list (λ b c e. h b (later b c) e)
  where
    later : (b : Address) → Contains list b → Contains (a ∷ list) b
    later b c = behind_in a b list c

-- one address is in the word
pub fill_one : (number : Address → ℕ) (f : Form) (k word : ℕ) (list : List Address) (a : Address) → AreApart f list → Contains list a → place f a ≡ k → fold (fill number f k) word list ≡ filled a.kind (number a) word
fill_one number f k word [] a apart c e = absurd (nothing_in a c)
fill_one number f k word (b ∷ list) a apart c e =
    elim (in_front b a list c) [
      | inl same ↦ here same
      | inr later ↦
          let off : fill number f k word b ≡ word = ap (λ t. cond t (filled b.kind (number b) word) word) (ne_eqb (place f b) k (λ g. apart.0 a later (g ∙ sym e))) in
          ap (λ w. fold (fill number f k) w list) off ∙ fill_one number f k word list a apart.1 later e
    ]
  where
    here : b ≡ a → fold (fill number f k) (fill number f k word b) list ≡ filled a.kind (number a) word
    here same =
        let at : place f b ≡ k = ap (place f) same ∙ e in
        let on : fill number f k word b ≡ filled b.kind (number b) word = ap (λ t. cond t (filled b.kind (number b) word) word) (eq-eqb (place f b) k at) in
        ap (λ w. fold (fill number f k) w list) on ∙ fill_none number f k (filled b.kind (number b) word) list (λ d i g. apart.0 d i (at ∙ sym g))
        ∙ ap (λ (x : Address). filled x.kind (number x) word) same
