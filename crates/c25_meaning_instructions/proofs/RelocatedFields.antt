-- Fields put and read, and the words of instructions whose fields were filled.
use Rattle.std.proofs.Common.{◌≡◌, ℕ, ◌+◌, ◌/◌, ◌%◌, ◌<◌, ℤ, pos, arith, sym, ap, subst, rules}
use Rattle.c25_meaning_common.specs.declared.relocation.RelocationKind.{RelocationKind}
use Rattle.c25_meaning_common.specs.declared.relocation.RelocationKind.TheVariants.{Word16, Low7, Page9}
use Rattle.c25_meaning_instructions.specs.declared.insn.Insn.{Insn}
use Rattle.c25_meaning_instructions.specs.declared.insn.Insn.TheVariants as insn
use Rattle.c25_meaning_instructions.specs.declared.insn.Addr.TheVariants.{Direct}
use Rattle.c25_meaning_instructions.specs.declared.mnemonic.ShortName.TheVariants as short
use Rattle.c25_meaning_common.specs.Fields.{field_number, filled}
use Rattle.c25_meaning_common.specs.Fields.{field_values}
use Rattle.c25_meaning_instructions.specs.RelocatedInsn.{HasField, with_field}
use Rattle.c25_meaning_instructions.specs.Table.{Reads, operand_byte, placed, mem_row, shifted_row, ar_mem_row, port_row, bit_row, long_mem_row}
use Rattle.c25_meaning_instructions.specs.declared.insn.Addr.{Addr}
use Rattle.std.proofs.lemmas.Int.{ints}
use Rattle.c25_bits.specs.Cut.{cut}
use Rattle.c25_bits.proofs.Cuts.{cut_below}

quarter : (n : ℕ) → n < 65536 → n / 128 < 512
quarter n h = omega arith

-- the number fits its field
pub number_below : (kind : RelocationKind) (value : ℤ) → field_number kind value < field_values kind
number_below Word16 value = cut_below value 16
number_below Low7 value = cut_below value 7
number_below Page9 value = quarter (cut value 16) (cut_below value 16)

-- what was put is read, and no other bit changes
pub field_read : (kind : RelocationKind) (number word : ℕ) → number < field_values kind → filled kind number word % field_values kind ≡ number
field_read Word16 number word h = omega arith
field_read Low7 number word h = omega arith
field_read Page9 number word h = omega arith

pub others_stay : (kind : RelocationKind) (number word : ℕ) → number < field_values kind → filled kind number word / field_values kind ≡ word / field_values kind
others_stay Word16 number word h = omega arith
others_stay Low7 number word h = omega arith
others_stay Page9 number word h = omega arith

pub filled_below : (kind : RelocationKind) (number word : ℕ) → number < field_values kind → word < 65536 → filled kind number word < 65536
filled_below Word16 number word h w = omega arith
filled_below Low7 number word h w = omega arith
filled_below Page9 number word h w = omega arith

-- where the field holds 0 its number is added
pub filled_zero : (kind : RelocationKind) (number word : ℕ) → word % field_values kind ≡ 0 → filled kind number word ≡ word + number
filled_zero Word16 number word h = omega arith
filled_zero Low7 number word h = omega arith
filled_zero Page9 number word h = omega arith

-- ---- instructions

zero_byte : (addr : Addr) → addr ≡ Direct 0 → operand_byte addr ≡ 0
zero_byte addr f = ap operand_byte f

number_byte : (number : ℕ) → number < 128 → operand_byte (Direct number) ≡ number
number_byte number lt = omega arith

moved : (rest byte old first number : ℕ) → rest + old ≡ first → old ≡ 0 → byte ≡ number → rest + byte ≡ first + number
moved rest byte old first number a b c = omega arith

-- the direct address in the first word
pub low_reads : (first second number : ℕ) (i : Insn) → Reads first second i → HasField Low7 i → number < 128 → Reads (first + number) second (with_field Low7 number i)
low_reads first second number (insn.Mem name addr) r f lt =
    record { in_range = lt; first_is = moved (mem_row name).base (operand_byte (Direct number)) (operand_byte addr) first number r.first_is (zero_byte addr f) (number_byte number lt); second_is = r.second_is }
low_reads first second number (insn.Shifted name addr shift) r f lt =
    record { in_range = (r.in_range.0, lt); first_is = moved ((shifted_row name).base + placed (pos shift) 8 4) (operand_byte (Direct number)) (operand_byte addr) first number r.first_is (zero_byte addr f) (number_byte number lt); second_is = r.second_is }
low_reads first second number (insn.ArMem name register addr) r f lt =
    record { in_range = (r.in_range.0, lt); first_is = moved ((ar_mem_row name).base + placed (pos register) 8 3) (operand_byte (Direct number)) (operand_byte addr) first number r.first_is (zero_byte addr f) (number_byte number lt); second_is = r.second_is }
low_reads first second number (insn.Port name addr port) r f lt =
    record { in_range = (r.in_range.0, lt); first_is = moved ((port_row name).base + placed (pos port) 8 4) (operand_byte (Direct number)) (operand_byte addr) first number r.first_is (zero_byte addr f) (number_byte number lt); second_is = r.second_is }
low_reads first second number (insn.Bit name addr code) r f lt =
    record { in_range = (r.in_range.0, lt); first_is = moved ((bit_row name).base + placed (pos code) 8 4) (operand_byte (Direct number)) (operand_byte addr) first number r.first_is (zero_byte addr f) (number_byte number lt); second_is = r.second_is }
low_reads first second number (insn.Short name register n) r f lt = absurd f
low_reads first second number (insn.Long name n high) r f lt = absurd f
low_reads first second number (insn.LongMem name word addr) r f lt =
    record { in_range = (r.in_range.0, lt); first_is = moved (long_mem_row name).base (operand_byte (Direct number)) (operand_byte addr) first number r.first_is (zero_byte addr f) (number_byte number lt); second_is = r.second_is }
low_reads first second number (insn.Jump name word change next) r f lt = absurd f
low_reads first second number (insn.Plain name operand) r f lt = absurd f

-- the page of LDPK
page_words : (first second number : ℕ) (register : ℕ) → Reads first second (insn.Short short.Ldpk register (pos 0)) → number < 512 → Reads (first + number) second (insn.Short short.Ldpk register (pos number))
page_words first second number register r lt =
    record { in_range = (r.in_range.0, search rules, omega (arith, ints)); first_is = omega (arith, r.first_is); second_is = tt }

pub page_reads : (first second number : ℕ) (i : Insn) → Reads first second i → HasField Page9 i → number < 512 → Reads (first + number) second (with_field Page9 number i)
page_reads first second number (insn.Short name register n) r f lt =
    let same : insn.Short name register n ≡ insn.Short short.Ldpk register (pos 0) = cc in
    subst (λ m. Reads (first + number) second (insn.Short m register (pos number))) (sym f.0) (page_words first second number register (subst (Reads first second) same r) lt)
page_reads first second number (insn.Mem name addr) r f lt = absurd f
page_reads first second number (insn.Shifted name addr shift) r f lt = absurd f
page_reads first second number (insn.ArMem name register addr) r f lt = absurd f
page_reads first second number (insn.Port name addr port) r f lt = absurd f
page_reads first second number (insn.Bit name addr code) r f lt = absurd f
page_reads first second number (insn.Long name n high) r f lt = absurd f
page_reads first second number (insn.LongMem name word addr) r f lt = absurd f
page_reads first second number (insn.Jump name word change next) r f lt = absurd f
page_reads first second number (insn.Plain name operand) r f lt = absurd f

-- a second word
pub word_reads : (first second number : ℕ) (i : Insn) → Reads first second i → HasField Word16 i → number < 65536 → Reads first (second + number) (with_field Word16 number i)
word_reads first second number (insn.Long name n high) r f lt =
    record { in_range = (lt, r.in_range.1); first_is = r.first_is; second_is = omega (arith, r.second_is, f) }
word_reads first second number (insn.LongMem name word addr) r f lt =
    record { in_range = (lt, r.in_range.1); first_is = r.first_is; second_is = omega (arith, r.second_is, f) }
word_reads first second number (insn.Jump name word change next) r f lt =
    record { in_range = (lt, r.in_range.1); first_is = r.first_is; second_is = omega (arith, r.second_is, f) }
word_reads first second number (insn.Mem name addr) r f lt = absurd f
word_reads first second number (insn.Shifted name addr shift) r f lt = absurd f
word_reads first second number (insn.ArMem name register addr) r f lt = absurd f
word_reads first second number (insn.Port name addr port) r f lt = absurd f
word_reads first second number (insn.Bit name addr code) r f lt = absurd f
word_reads first second number (insn.Short name register n) r f lt = absurd f
word_reads first second number (insn.Plain name operand) r f lt = absurd f

-- ---- the words that linking leaves

pub low_filled : (first second : ℕ) (value : ℤ) (i : Insn) → Reads first second i → HasField Low7 i → first % 128 ≡ 0 → Reads (filled Low7 (field_number Low7 value) first) second (with_field Low7 (field_number Low7 value) i)
low_filled first second value i r f zeros =
    subst (λ w. Reads w second (with_field Low7 (field_number Low7 value) i)) (sym (filled_zero Low7 (field_number Low7 value) first zeros)) (low_reads first second (field_number Low7 value) i r f (number_below Low7 value))

pub page_filled : (first second : ℕ) (value : ℤ) (i : Insn) → Reads first second i → HasField Page9 i → first % 512 ≡ 0 → Reads (filled Page9 (field_number Page9 value) first) second (with_field Page9 (field_number Page9 value) i)
page_filled first second value i r f zeros =
    subst (λ w. Reads w second (with_field Page9 (field_number Page9 value) i)) (sym (filled_zero Page9 (field_number Page9 value) first zeros)) (page_reads first second (field_number Page9 value) i r f (number_below Page9 value))

pub word_filled : (first second : ℕ) (value : ℤ) (i : Insn) → Reads first second i → HasField Word16 i → second % 65536 ≡ 0 → Reads first (filled Word16 (field_number Word16 value) second) (with_field Word16 (field_number Word16 value) i)
word_filled first second value i r f zeros =
    subst (λ w. Reads first w (with_field Word16 (field_number Word16 value) i)) (sym (filled_zero Word16 (field_number Word16 value) second zeros)) (word_reads first second (field_number Word16 value) i r f (number_below Word16 value))
