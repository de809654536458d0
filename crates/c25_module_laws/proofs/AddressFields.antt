-- The fields of an instruction that take an address: each is within the instruction's words, and where its number is 0 it
-- is 0 in its word; but for the four instructions with a memory operand and an address, there is one at most.
use Rattle.std.proofs.Common.{◌≡◌, ℕ, zero, suc, ◌+◌, ◌*◌, ◌%◌, ◌^◌, ◌<◌, List, [], ◌∷◌, length, set, slice_index, Option, Some, pos, refl, sym, subst, arith}
use Rattle.std.specs.Int.{w16, cast_signed}
use Rattle.std.proofs.lemmas.Int.{to_z_pos}
use Rattle.c25_meaning_instructions.proofs.RowBases.{long_mem_whole, mem_whole}
use Rattle.c25_meaning_assembly.specs.OperandFields.{word_of}
use Rattle.c25_meaning_common.specs.Fields.{field_values}
use Rattle.c25_meaning_instructions.specs.RelocatedInsn.{HasField, with_field}
use Rattle.c25_meaning_language.specs.Statement.{form_field, form_row, insn_of, relocation_of, with_number as beside, addr_field, addr_of}
use Rattle.c25_meaning_instructions.specs.Table.{size, words, shifted_row, ar_mem_row, port_row, bit_row, long_mem_row, mem_row, operand_byte, placed}
use Rattle.c25_meaning_instructions.specs.declared.insn.Addr.TheVariants as addr
use Rattle.c25_meaning_instructions.specs.declared.insn.Insn.TheVariants as insn
use Rattle.c25_meaning_instructions.specs.declared.mnemonic.ShiftedName.{ShiftedName}
use Rattle.c25_meaning_instructions.specs.declared.mnemonic.ShiftedName.TheVariants as shifted
use Rattle.c25_meaning_instructions.specs.declared.mnemonic.ArMemName.{ArMemName}
use Rattle.c25_meaning_instructions.specs.declared.mnemonic.ArMemName.TheVariants as ar_mem
use Rattle.c25_meaning_instructions.specs.declared.mnemonic.PortName.{PortName}
use Rattle.c25_meaning_instructions.specs.declared.mnemonic.PortName.TheVariants as port
use Rattle.c25_meaning_instructions.specs.declared.mnemonic.BitName.{BitName}
use Rattle.c25_meaning_instructions.specs.declared.mnemonic.BitName.TheVariants as bit
use Rattle.c25_meaning_instructions.specs.declared.mnemonic.LongMemName.{LongMemName}
use Rattle.c25_meaning_instructions.specs.declared.mnemonic.LongName.TheVariants as long
use Rattle.c25_meaning_instructions.specs.declared.mnemonic.PlainName.TheVariants as plain
use Rattle.c25_meaning_instructions.specs.declared.mnemonic.ShortName.TheVariants as short
use Rattle.c25_meaning_common.specs.declared.relocation.RelocationKind.{RelocationKind}
use Rattle.c25_meaning_common.specs.declared.relocation.RelocationKind.TheVariants as kind
use Rattle.c25_meaning_language.specs.declared.statement.AddrForm.{AddrForm}
use Rattle.c25_meaning_language.specs.declared.statement.AddrForm.TheVariants.{Direct, Indirect}
use Rattle.c25_meaning_language.specs.declared.statement.Form.{Form}
use Rattle.c25_meaning_language.specs.declared.statement.Form.TheVariants as form
use Rattle.c25_module_laws.proofs.Counted.{FitForm}

-- ---- fields

-- the word of its instruction in which a field is
abbrev pub field_word : RelocationKind → ℕ
field_word kind.Word16 = 1
field_word kind.Low7 = 0
field_word kind.Page9 = 0

-- the k-th number of an instruction is a field that is 0 in its word, and any other number may be put there
pub record IsField (f : Form) (ns : List ℕ) (k : ℕ) (r : RelocationKind) : Type 0 where
  pub clear : slice_index (words (insn_of f ns)) (word_of (form_field f k) k) % field_values r ≡ 0
  pub has : HasField r (insn_of f ns)
  pub filled : (n : ℕ) → n < field_values r → with_field r n (insn_of f ns) ≡ insn_of f (set ns k n)
  pub word_is : word_of (form_field f k) k ≡ field_word r

same_kind : (a b : RelocationKind) → ◌≡◌ {A = Option RelocationKind} (Some a) (Some b) → a ≡ b
same_kind a b e = cc

field_as : (f : Form) (ns : List ℕ) (k : ℕ) (a b : RelocationKind) → ◌≡◌ {A = Option RelocationKind} (Some a) (Some b) → IsField f ns k a → IsField f ns k b
field_as f ns k a b e h = subst (λ (r : RelocationKind). IsField f ns k r) (same_kind a b e) h

low_clear : (base low : ℕ) → base % 256 ≡ 0 → low ≡ 0 → (base + operand_byte (addr_of Direct (Some low))) % 128 ≡ 0
low_clear base low h z = rw z (omega (arith, h))

low_beside : (base low number width : ℕ) → base % 256 ≡ 0 → low ≡ 0 → (base + placed (pos number) 8 width + operand_byte (addr_of Direct (Some low))) % 128 ≡ 0
low_beside base low number width h z = rw z (let n = number % 2 ^ width in let w : (base + n * 256 + 0) % 128 ≡ 0 = omega (arith, h) in w)

word_clear : (n : ℕ) → n ≡ 0 → (n % 2 ^ 16) % 65536 ≡ 0
word_clear n z = rw z refl

page_clear : (n : ℕ) (ns : List ℕ) → n ≡ 0 → slice_index (words (insn_of (form.Short short.Ldpk) (n ∷ ns))) 0 % 512 ≡ 0
page_clear n ns z = rw z refl

page_zero : (n : ℕ) → n ≡ 0 → cast_signed w16 n ≡ pos 0
page_zero n z = rw z refl

page_number : (n : ℕ) → n < 512 → pos n ≡ cast_signed w16 n
page_number n l = sym (to_z_pos w16 n (omega (arith, l)))

shifted_whole : (name : ShiftedName) → (shifted_row name).base % 256 ≡ 0
shifted_whole shifted.Sacl = refl
shifted_whole _ = refl

ar_mem_whole : (name : ArMemName) → (ar_mem_row name).base % 256 ≡ 0
ar_mem_whole ar_mem.Lar = refl
ar_mem_whole _ = refl

port_whole : (name : PortName) → (port_row name).base % 256 ≡ 0
port_whole port.In = refl
port_whole _ = refl

bit_whole : (name : BitName) → (bit_row name).base % 256 ≡ 0
bit_whole bit.Bit = refl

-- where the number of a field that takes an address is 0
pub form_fields : (f : Form) (ns : List ℕ) (k : ℕ) (r : RelocationKind) → FitForm f (length ns) → k < length ns → relocation_of (form_field f k) ≡ Some r → slice_index ns k ≡ 0
    → IsField f ns k r
form_fields f [] k r few l e z = absurd (omega (arith, l))
form_fields (form.Mem name Direct) (n ∷ ns) zero r few l e z = field_as (form.Mem name Direct) (n ∷ ns) 0 kind.Low7 r e (record { clear = low_clear (mem_row name).base n (mem_whole name) z; has = λ i. addr.Direct (z i); filled = λ v l. refl; word_is = refl })
form_fields (form.Mem name Direct) (n ∷ ns) (suc k) r few l e z = absurd (omega (arith, few, l))
form_fields (form.Mem name (Indirect change)) (n ∷ ns) k r few l e z = absurd (cc)
form_fields (form.Shifted name Direct) (n ∷ ns) zero r few l e z = field_as (form.Shifted name Direct) (n ∷ ns) 0 kind.Low7 r e (record { clear = low_beside (shifted_row name).base n (slice_index (n ∷ ns) 1) 4 (shifted_whole name) z; has = λ i. addr.Direct (z i); filled = λ v l. refl; word_is = refl })
form_fields (form.Shifted name Direct) (n ∷ ns) (suc k) r few l e z = absurd (cc)
form_fields (form.Shifted name (Indirect change)) (n ∷ ns) zero r few l e z = absurd (cc)
form_fields (form.Shifted name (Indirect change)) (n ∷ ns) (suc k) r few l e z = absurd (cc)
form_fields (form.ArMem name a) (n ∷ ns) zero r few l e z = absurd (cc)
form_fields (form.ArMem name Direct) (n ∷ []) (suc k) r few l e z = absurd (omega (arith, l))
form_fields (form.ArMem name Direct) (n ∷ m ∷ ns) (suc zero) r few l e z = field_as (form.ArMem name Direct) (n ∷ m ∷ ns) 1 kind.Low7 r e (record { clear = low_beside (ar_mem_row name).base m n 3 (ar_mem_whole name) z; has = λ i. addr.Direct (z i); filled = λ v l. refl; word_is = refl })
form_fields (form.ArMem name Direct) (n ∷ m ∷ ns) (suc (suc k)) r few l e z = absurd (omega (arith, few, l))
form_fields (form.ArMem name (Indirect change)) (n ∷ ns) (suc k) r few l e z = absurd (cc)
form_fields (form.Port name Direct) (n ∷ ns) zero r few l e z = field_as (form.Port name Direct) (n ∷ ns) 0 kind.Low7 r e (record { clear = low_beside (port_row name).base n (slice_index (n ∷ ns) 1) 4 (port_whole name) z; has = λ i. addr.Direct (z i); filled = λ v l. refl; word_is = refl })
form_fields (form.Port name Direct) (n ∷ ns) (suc k) r few l e z = absurd (cc)
form_fields (form.Port name (Indirect change)) (n ∷ ns) zero r few l e z = absurd (cc)
form_fields (form.Port name (Indirect change)) (n ∷ ns) (suc k) r few l e z = absurd (cc)
form_fields (form.Bit name Direct) (n ∷ ns) zero r few l e z = field_as (form.Bit name Direct) (n ∷ ns) 0 kind.Low7 r e (record { clear = low_beside (bit_row name).base n (slice_index (n ∷ ns) 1) 4 (bit_whole name) z; has = λ i. addr.Direct (z i); filled = λ v l. refl; word_is = refl })
form_fields (form.Bit name Direct) (n ∷ ns) (suc k) r few l e z = absurd (cc)
form_fields (form.Bit name (Indirect change)) (n ∷ ns) zero r few l e z = absurd (cc)
form_fields (form.Bit name (Indirect change)) (n ∷ ns) (suc k) r few l e z = absurd (cc)
form_fields (form.Short short.Lark) (n ∷ ns) zero r few l e z = absurd (cc)
form_fields (form.Short short.Lark) (n ∷ ns) (suc k) r few l e z = absurd (cc)
form_fields (form.Short short.Ldpk) (n ∷ ns) zero r few l e z = field_as (form.Short short.Ldpk) (n ∷ ns) 0 kind.Page9 r e (record { clear = page_clear n ns z; has = (refl, page_zero n z); filled = λ v l. λ i. insn.Short short.Ldpk 0 (page_number v l i); word_is = refl })
form_fields (form.Short short.Ldpk) (n ∷ ns) (suc k) r few l e z = absurd (omega (arith, few, l))
form_fields (form.Short short.Mpyk) (n ∷ ns) k r few l e z = absurd (cc)
form_fields (form.Short _) (n ∷ ns) k r few l e z = absurd (cc)
form_fields (form.Long long.Lrlk) (n ∷ ns) zero r few l e z = absurd (cc)
form_fields (form.Long long.Lrlk) (n ∷ []) (suc k) r few l e z = absurd (omega (arith, l))
form_fields (form.Long long.Lrlk) (n ∷ m ∷ ns) (suc zero) r few l e z = field_as (form.Long long.Lrlk) (n ∷ m ∷ ns) 1 kind.Word16 r e (record { clear = word_clear m z; has = z; filled = λ v l. refl; word_is = refl })
form_fields (form.Long long.Lrlk) (n ∷ m ∷ ns) (suc (suc k)) r few l e z = absurd (omega (arith, few, l))
form_fields (form.Long name) (n ∷ ns) zero r few l e z = field_as (form.Long name) (n ∷ ns) 0 kind.Word16 r e (record { clear = word_clear n z; has = z; filled = λ v l. refl; word_is = refl })
form_fields (form.Long _) (n ∷ ns) (suc k) r few l e z = absurd (cc)
form_fields (form.LongMem name a) (n ∷ ns) zero r few l e z = field_as (form.LongMem name a) (n ∷ ns) 0 kind.Word16 r e (record { clear = word_clear n z; has = z; filled = λ v l. refl; word_is = refl })
form_fields (form.LongMem name Direct) (n ∷ []) (suc k) r few l e z = absurd (omega (arith, l))
form_fields (form.LongMem name Direct) (n ∷ m ∷ ns) (suc zero) r few l e z = field_as (form.LongMem name Direct) (n ∷ m ∷ ns) 1 kind.Low7 r e (record { clear = low_clear (long_mem_row name).base m (long_mem_whole name) z; has = λ i. addr.Direct (z i); filled = λ v l. refl; word_is = refl })
form_fields (form.LongMem name Direct) (n ∷ m ∷ ns) (suc (suc k)) r few l e z = absurd (omega (arith, few, l))
form_fields (form.LongMem name (Indirect change)) (n ∷ ns) (suc k) r few l e z = absurd (cc)
form_fields (form.Jump name change) (n ∷ ns) zero r few l e z = field_as (form.Jump name change) (n ∷ ns) 0 kind.Word16 r e (record { clear = word_clear n z; has = z; filled = λ v l. refl; word_is = refl })
form_fields (form.Jump name change) (n ∷ ns) (suc k) r few l e z = absurd (cc)
form_fields (form.Plain plain.Fort written) (n ∷ ns) k r few l e z = absurd (cc)
form_fields (form.Plain _ written) (n ∷ ns) k r few l e z = absurd (cc)

-- ---- where the fields are

word_of_addr : (a : AddrForm) (r : RelocationKind) (k : ℕ) → relocation_of (addr_field a) ≡ Some r → word_of (addr_field a) k ≡ 0
word_of_addr Direct r k h = refl
word_of_addr (Indirect change) r k h = absurd (cc)

word_beside : (a : AddrForm) (limit : ℕ) (r : RelocationKind) (k : ℕ) → relocation_of (beside a limit k) ≡ Some r → word_of (beside a limit k) k < 1
word_beside Direct limit r zero h = omega arith
word_beside Direct limit r (suc k) h = absurd (cc)
word_beside (Indirect change) limit r zero h = absurd (cc)
word_beside (Indirect change) limit r (suc k) h = absurd (cc)

-- the field of an address is within the instruction's words
pub word_in_form : (f : Form) (r : RelocationKind) (k : ℕ) → relocation_of (form_field f k) ≡ Some r → word_of (form_field f k) k < size (form_row f)
word_in_form (form.Mem name a) r k h = let w = word_of_addr a r k h in omega (arith, w)
word_in_form (form.Shifted name a) r k h = word_beside a _ r k h
word_in_form (form.ArMem name a) r zero h = absurd (cc)
word_in_form (form.ArMem name a) r (suc k) h = let w = word_of_addr a r (suc k) h in omega (arith, w)
word_in_form (form.Port name a) r k h = word_beside a 16 r k h
word_in_form (form.Bit name a) r k h = word_beside a 16 r k h
word_in_form (form.Short short.Lark) r zero h = absurd (cc)
word_in_form (form.Short short.Lark) r (suc k) h = absurd (cc)
word_in_form (form.Short short.Ldpk) r k h = omega arith
word_in_form (form.Short short.Mpyk) r k h = absurd (cc)
word_in_form (form.Short _) r k h = absurd (cc)
word_in_form (form.Long long.Lrlk) r zero h = absurd (cc)
word_in_form (form.Long long.Lrlk) r (suc k) h = omega arith
word_in_form (form.Long _) r zero h = omega arith
word_in_form (form.Long _) r (suc k) h = absurd (cc)
word_in_form (form.LongMem name a) r zero h = omega arith
word_in_form (form.LongMem name a) r (suc k) h = let w = word_of_addr a r (suc k) h in omega (arith, w)
word_in_form (form.Jump name change) r zero h = omega arith
word_in_form (form.Jump name change) r (suc k) h = absurd (cc)
word_in_form (form.Plain plain.Fort written) r k h = absurd (cc)
word_in_form (form.Plain _ written) r k h = absurd (cc)

-- the addresses of MAC and its like are in the second word and in the first
pub long_mem_first : (name : LongMemName) (a : AddrForm) (k : ℕ) (r : RelocationKind) → relocation_of (form_field (form.LongMem name a) (suc k)) ≡ Some r → word_of (form_field (form.LongMem name a) (suc k)) (suc k) ≡ 0
long_mem_first name a k r h = word_of_addr a r (suc k) h

pub form_size : (f : Form) (ns : List ℕ) → length (words (insn_of f ns)) ≡ size (form_row f)
form_size (form.Mem name a) ns = refl
form_size (form.Shifted name a) ns = refl
form_size (form.ArMem name a) ns = refl
form_size (form.Port name a) ns = refl
form_size (form.Bit name a) ns = refl
form_size (form.Short short.Lark) ns = refl
form_size (form.Short _) ns = refl
form_size (form.Long long.Lrlk) ns = refl
form_size (form.Long _) ns = refl
form_size (form.LongMem name a) ns = refl
form_size (form.Jump name change) ns = refl
form_size (form.Plain name change) ns = refl

-- two fields of these take no address
unfoldable pub IsAlone : Form → Type 0
IsAlone f = (n j k : ℕ) (r q : RelocationKind) → FitForm f n → j < k → k < n → relocation_of (form_field f j) ≡ Some r → relocation_of (form_field f k) ≡ Some q → ⊥

beside_alone : (a : AddrForm) (limit j k : ℕ) (r q : RelocationKind) → j < k → relocation_of (beside a limit j) ≡ Some r → relocation_of (beside a limit k) ≡ Some q → ⊥
beside_alone a limit j zero r q l g h = omega (arith, l)
beside_alone Direct limit j (suc k) r q l g h = cc
beside_alone (Indirect change) limit zero (suc k) r q l g h = cc
beside_alone (Indirect change) limit (suc j) (suc k) r q l g h = cc

pub alone : (f : Form) → ((name : LongMemName) (a : AddrForm) → f ≡ form.LongMem name a → ⊥) → IsAlone f
unfolding IsAlone
alone (form.Mem name a) other n j k r q few l m g h = omega (arith, few, l, m)
alone (form.Shifted name a) other n j k r q few l m g h = beside_alone a _ j k r q l g h
alone (form.ArMem name a) other n zero k r q few l m g h = cc
alone (form.ArMem name a) other n (suc j) k r q few l m g h = omega (arith, few, l, m)
alone (form.Port name a) other n j k r q few l m g h = beside_alone a 16 j k r q l g h
alone (form.Bit name a) other n j k r q few l m g h = beside_alone a 16 j k r q l g h
alone (form.Short short.Lark) other n zero k r q few l m g h = cc
alone (form.Short short.Lark) other n (suc j) k r q few l m g h = cc
alone (form.Short _) other n j k r q few l m g h = omega (arith, few, l, m)
alone (form.Long long.Lrlk) other n zero k r q few l m g h = cc
alone (form.Long long.Lrlk) other n (suc j) k r q few l m g h = omega (arith, few, l, m)
alone (form.Long _) other n j zero r q few l m g h = omega (arith, l)
alone (form.Long _) other n j (suc k) r q few l m g h = cc
alone (form.LongMem name a) other n j k r q few l m g h = other name a refl
alone (form.Jump name change) other n j zero r q few l m g h = omega (arith, l)
alone (form.Jump name change) other n j (suc k) r q few l m g h = cc
alone (form.Plain plain.Fort written) other n j k r q few l m g h = cc
alone (form.Plain _ written) other n j k r q few l m g h = cc
