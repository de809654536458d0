-- Each family: what is printed of an instruction says it.
use Rattle.std.proofs.Common.{◌≡◌, ℕ, suc, ◌-◌, ◌<◌, ◌^◌, ◌≤◌, ℤ, pos, negsuc, ◌≤ℤ◌, List, [], ◌∷◌, ◌++◌, Option, Some, None, Ok, codes, refl, sym, ap, ◌∙◌, arith}
use Rattle.std.specs.Fmt.{decimal}
use Rattle.std.specs.Int.{w16, cast_signed}
use Rattle.std.proofs.lemmas.Int.{ints}
use mathlib.Core.List.{append-nil, append_assoc}
use Rattle.c25_meaning_instructions.specs.Show.{show, long_text, place_text, change_text, next_text, tail_text}
use Rattle.c25_meaning_instructions.specs.Table.{AddrInRange, InRange, NextInRange, ShortInRange, PlainInRange, shift_limit, high_limit, mem_row, shifted_row, ar_mem_row, port_row, bit_row, short_row, long_row, long_mem_row, jump_row, plain_row}
use Rattle.c25_meaning_instructions.specs.declared.insn.Insn.{Insn}
use Rattle.c25_meaning_instructions.specs.declared.insn.Insn.TheVariants as insn
use Rattle.c25_meaning_instructions.specs.declared.insn.Addr.{Addr}
use Rattle.c25_meaning_instructions.specs.declared.insn.Addr.TheVariants as addr
use Rattle.c25_meaning_instructions.specs.declared.insn.Change.{Change}
use Rattle.c25_meaning_instructions.specs.declared.insn.Change.TheVariants as change
use Rattle.c25_meaning_instructions.specs.declared.insn.PlainOperand.{PlainOperand}
use Rattle.c25_meaning_instructions.specs.declared.insn.PlainOperand.TheVariants as operand
use Rattle.c25_meaning_instructions.specs.declared.mnemonic.Mnemonic.TheVariants as family
use Rattle.c25_meaning_instructions.specs.declared.mnemonic.MemName.{MemName}
use Rattle.c25_meaning_instructions.specs.declared.mnemonic.ShiftedName.{ShiftedName}
use Rattle.c25_meaning_instructions.specs.declared.mnemonic.ShiftedName.TheVariants as shifted
use Rattle.c25_meaning_instructions.specs.declared.mnemonic.ArMemName.{ArMemName}
use Rattle.c25_meaning_instructions.specs.declared.mnemonic.PortName.{PortName}
use Rattle.c25_meaning_instructions.specs.declared.mnemonic.BitName.{BitName}
use Rattle.c25_meaning_instructions.specs.declared.mnemonic.ShortName.{ShortName}
use Rattle.c25_meaning_instructions.specs.declared.mnemonic.ShortName.TheVariants as short
use Rattle.c25_meaning_instructions.specs.declared.mnemonic.LongName.{LongName}
use Rattle.c25_meaning_instructions.specs.declared.mnemonic.LongName.TheVariants as long
use Rattle.c25_meaning_instructions.specs.declared.mnemonic.LongMemName.{LongMemName}
use Rattle.c25_meaning_instructions.specs.declared.mnemonic.JumpName.{JumpName}
use Rattle.c25_meaning_instructions.specs.declared.mnemonic.PlainName.{PlainName}
use Rattle.c25_meaning_instructions.specs.declared.mnemonic.PlainName.TheVariants as plain
use Rattle.c25_meaning_language.specs.Forms.{short_count, expressions}
use Rattle.c25_meaning_language.specs.Statement.{form_field, insn_of, number_in}
use Rattle.c25_meaning_language.specs.Tree.{Single, Unary, Name}
use Rattle.c25_meaning_language.specs.declared.expression.UnaryOperator.TheVariants as unary
use Rattle.c25_meaning_language.specs.declared.statement.Field.TheVariants as field
use Rattle.c25_meaning_language.specs.declared.statement.Form.TheVariants as form
use Rattle.c25_meaning_assembly.specs.StatementLine.{operation_of, with_operand}
use Rattle.c25_meaning_assembly.specs.declared.assembly.Target.TheVariants.{Instruction}
use Rattle.c25_print_laws.proofs.Mnemonics.{mem_mnemonic, shifted_mnemonic, ar_mem_mnemonic, port_mnemonic, bit_mnemonic, short_mnemonic, long_mnemonic, long_mem_mnemonic, jump_mnemonic, plain_mnemonic}
use Rattle.c25_print_laws.proofs.Names.{register_name, port_name}
use Rattle.c25_print_laws.proofs.Numerals.{word_constant, decimal_constant}
use Rattle.c25_print_laws.proofs.Operations.{AreOperands, front_trees, back_trees, next_trees, mem_operands, shifted_operands, ar_mem_operands, port_operands, bit_operands, long_mem_operands, jump_operands, lark_operands, short_operands, negative_operands, lrlk_operands, long_operands, norm_operands, number_operands}
use Rattle.c25_print_laws.proofs.ReadBack.{ReadsBack, read_as, four, six, first_text, word_number, decimal_number, register_number, port_number, front_numbers, back_numbers, next_numbers, alone, following, around}
use Rattle.c25_print_laws.proofs.Tokens.{AreLexed}
use Rattle.c25_print_laws.proofs.Values.{constant_tree, negative_number, page9, word16, number, signed13, negative13, low_signed, high_signed, no_numbers, one_number, two_numbers}
use Rattle.c25_print_laws.proofs.Words.{constant, name, comma, minus, next, front, back, form_of, low_of, next_of, register_of, register_text, changing_text, next_printed, front_text, back_text, constant_lexed, name_lexed, comma_lexed, minus_lexed, changing_lexed, next_lexed, back_ends, back_ends_names, back_lexed, front_lexed, front_few, back_few}

-- ---- a memory operand alone

pub mem_says : (n : MemName) (a : Addr) → AddrInRange a → ReadsBack (insn.Mem n a)
mem_says n a h =
    read_as (family.Mem n) (front a (back a)) (form.Mem n (form_of a)) (front_trees (form_of a) (low_of a) (back_trees (form_of a) (next_of a))) (front_numbers a (back_numbers a)) (insn.Mem n a)
    (mem_mnemonic n) (omega (arith, front_few a (back a), back_few a)) (front_lexed a (back a) h (back_ends a) (back_lexed a h))
    (four (mem_row n).name (codes " ") (place_text a) (tail_text a) ∙ ap (λ (t : List ℕ). (mem_row n).name ++ t) (sym (first_text a (back a) (tail_text a) (back_text a))))
    (mem_operands n (form_of a) (low_of a) (next_of a)) (alone (Instruction (form.Mem n (form_of a))) a refl h) (same a)
  where
    same : (a : Addr) → insn_of (form.Mem n (form_of a)) (front_numbers a (back_numbers a)) ≡ insn.Mem n a
    same (addr.Direct low) = refl
    same (addr.Indirect c None) = refl
    same (addr.Indirect c (Some m)) = refl

-- ---- a memory operand and a number

shift_small : (n : ShiftedName) → shift_limit n ≤ 65536
shift_small shifted.Add = omega arith
shift_small _ = omega arith

pub shifted_says : (n : ShiftedName) (a : Addr) (shift : ℕ) → shift < shift_limit n → AddrInRange a → ReadsBack (insn.Shifted n a shift)
shifted_says n a shift small h =
    read_as (family.Shifted n) (front a (comma ∷ constant (decimal shift) ∷ back a)) (form.Shifted n (form_of a)) (front_trees (form_of a) (low_of a) (constant_tree (decimal shift) ∷ back_trees (form_of a) (next_of a))) (front_numbers a (shift ∷ back_numbers a)) (insn.Shifted n a shift)
    (shifted_mnemonic n) (omega (arith, front_few a (comma ∷ constant (decimal shift) ∷ back a), back_few a)) (front_lexed a (comma ∷ constant (decimal shift) ∷ back a) h refl (comma_lexed (constant (decimal shift) ∷ back a) (constant_lexed shift (decimal shift) (back a) (decimal_constant shift (omega (arith, small, shift_small n))) (back_ends a) (back_lexed a h))))
    (six (shifted_row n).name (codes " ") (place_text a) (codes ",") (decimal shift) (tail_text a)
    ∙ ap (λ (t : List ℕ). (shifted_row n).name ++ t) (sym (first_text a (comma ∷ constant (decimal shift) ∷ back a) (codes "," ++ (decimal shift ++ tail_text a)) (ap (λ (t : List ℕ). codes "," ++ (decimal shift ++ t)) (back_text a)))))
    (shifted_operands n (form_of a) (low_of a) (next_of a) (decimal shift)) (around (Instruction (form.Shifted n (form_of a))) a (constant_tree (decimal shift)) shift (shift_limit n) (decimal_number shift (omega (arith, small, shift_small n))) small (shift_small n) refl refl h) (same a)
  where
    same : (a : Addr) → insn_of (form.Shifted n (form_of a)) (front_numbers a (shift ∷ back_numbers a)) ≡ insn.Shifted n a shift
    same (addr.Direct low) = refl
    same (addr.Indirect c None) = refl
    same (addr.Indirect c (Some m)) = refl

pub port_says : (n : PortName) (a : Addr) (p : ℕ) → p < 16 → AddrInRange a → ReadsBack (insn.Port n a p)
port_says n a p small h =
    read_as (family.Port n) (front a (comma ∷ name (80 ∷ 65 ∷ decimal p) ∷ back a)) (form.Port n (form_of a)) (front_trees (form_of a) (low_of a) (Single (Name (80 ∷ 65 ∷ decimal p)) ∷ back_trees (form_of a) (next_of a))) (front_numbers a (p ∷ back_numbers a)) (insn.Port n a p)
    (port_mnemonic n) (omega (arith, front_few a (comma ∷ name (80 ∷ 65 ∷ decimal p) ∷ back a), back_few a)) (front_lexed a (comma ∷ name (80 ∷ 65 ∷ decimal p) ∷ back a) h refl (comma_lexed (name (80 ∷ 65 ∷ decimal p) ∷ back a) (name_lexed p (80 ∷ 65 ∷ decimal p) (back a) (port_name p small) (back_ends_names a) (back_lexed a h))))
    (six (port_row n).name (codes " ") (place_text a) (codes ",PA") (decimal p) (tail_text a)
    ∙ ap (λ (t : List ℕ). (port_row n).name ++ t) (sym (first_text a (comma ∷ name (80 ∷ 65 ∷ decimal p) ∷ back a) (codes ",PA" ++ (decimal p ++ tail_text a)) (ap (λ (t : List ℕ). codes ",PA" ++ (decimal p ++ t)) (back_text a)))))
    (port_operands n (form_of a) (low_of a) (next_of a) (80 ∷ 65 ∷ decimal p)) (around (Instruction (form.Port n (form_of a))) a (Single (Name (80 ∷ 65 ∷ decimal p))) p (16) (port_number p small) small (omega arith) refl refl h) (same a)
  where
    same : (a : Addr) → insn_of (form.Port n (form_of a)) (front_numbers a (p ∷ back_numbers a)) ≡ insn.Port n a p
    same (addr.Direct low) = refl
    same (addr.Indirect c None) = refl
    same (addr.Indirect c (Some m)) = refl

pub bit_says : (n : BitName) (a : Addr) (code : ℕ) → code < 16 → AddrInRange a → ReadsBack (insn.Bit n a code)
bit_says n a code small h =
    read_as (family.Bit n) (front a (comma ∷ constant (decimal code) ∷ back a)) (form.Bit n (form_of a)) (front_trees (form_of a) (low_of a) (constant_tree (decimal code) ∷ back_trees (form_of a) (next_of a))) (front_numbers a (code ∷ back_numbers a)) (insn.Bit n a code)
    (bit_mnemonic n) (omega (arith, front_few a (comma ∷ constant (decimal code) ∷ back a), back_few a)) (front_lexed a (comma ∷ constant (decimal code) ∷ back a) h refl (comma_lexed (constant (decimal code) ∷ back a) (constant_lexed code (decimal code) (back a) (decimal_constant code (omega (arith, small))) (back_ends a) (back_lexed a h))))
    (six (bit_row n).name (codes " ") (place_text a) (codes ",") (decimal code) (tail_text a)
    ∙ ap (λ (t : List ℕ). (bit_row n).name ++ t) (sym (first_text a (comma ∷ constant (decimal code) ∷ back a) (codes "," ++ (decimal code ++ tail_text a)) (ap (λ (t : List ℕ). codes "," ++ (decimal code ++ t)) (back_text a)))))
    (bit_operands n (form_of a) (low_of a) (next_of a) (decimal code)) (around (Instruction (form.Bit n (form_of a))) a (constant_tree (decimal code)) code (16) (decimal_number code (omega (arith, small))) small (omega arith) refl refl h) (same a)
  where
    same : (a : Addr) → insn_of (form.Bit n (form_of a)) (front_numbers a (code ∷ back_numbers a)) ≡ insn.Bit n a code
    same (addr.Direct low) = refl
    same (addr.Indirect c None) = refl
    same (addr.Indirect c (Some m)) = refl

-- ---- a number and a memory operand

pub ar_mem_says : (n : ArMemName) (register : ℕ) (a : Addr) → register < 8 → AddrInRange a → ReadsBack (insn.ArMem n register a)
ar_mem_says n register a small h =
    read_as (family.ArMem n) (name (register_text register) ∷ comma ∷ front a (back a)) (form.ArMem n (form_of a)) (Single (Name (register_text register)) ∷ front_trees (form_of a) (low_of a) (back_trees (form_of a) (next_of a)))
    (register ∷ front_numbers a (back_numbers a)) (insn.ArMem n register a)
    (ar_mem_mnemonic n) (omega (arith, front_few a (back a), back_few a)) (name_lexed register (register_text register) (comma ∷ front a (back a)) (register_name register small) refl (comma_lexed (front a (back a)) (front_lexed a (back a) h (back_ends a) (back_lexed a h))))
    (six (ar_mem_row n).name (codes " AR") (decimal register) (codes ",") (place_text a) (tail_text a)
    ∙ ap (λ (t : List ℕ). (ar_mem_row n).name ++ (codes " AR" ++ (decimal register ++ (44 ∷ t)))) (sym (front_text a (back a) ∙ ap (λ (t : List ℕ). place_text a ++ t) (back_text a))))
    (ar_mem_operands n (form_of a) (low_of a) (next_of a) (register_text register))
    (following (Instruction (form.ArMem n (form_of a))) a (Single (Name (register_text register))) register (register_number register small) (number 8 register small (omega arith)) refl h) (same a)
  where
    same : (a : Addr) → insn_of (form.ArMem n (form_of a)) (register ∷ front_numbers a (back_numbers a)) ≡ insn.ArMem n register a
    same (addr.Direct low) = refl
    same (addr.Indirect c None) = refl
    same (addr.Indirect c (Some m)) = refl

pub long_mem_says : (n : LongMemName) (word : ℕ) (a : Addr) → word < 65536 → AddrInRange a → ReadsBack (insn.LongMem n word a)
long_mem_says n word a small h =
    read_as (family.LongMem n) (constant (long_text word) ∷ comma ∷ front a (back a)) (form.LongMem n (form_of a)) (constant_tree (long_text word) ∷ front_trees (form_of a) (low_of a) (back_trees (form_of a) (next_of a)))
    (word ∷ front_numbers a (back_numbers a)) (insn.LongMem n word a)
    (long_mem_mnemonic n) (omega (arith, front_few a (back a), back_few a)) (constant_lexed word (long_text word) (comma ∷ front a (back a)) (word_constant word small) refl (comma_lexed (front a (back a)) (front_lexed a (back a) h (back_ends a) (back_lexed a h))))
    (six (long_mem_row n).name (codes " ") (long_text word) (codes ",") (place_text a) (tail_text a)
    ∙ ap (λ (t : List ℕ). (long_mem_row n).name ++ (codes " " ++ (long_text word ++ (44 ∷ t)))) (sym (front_text a (back a) ∙ ap (λ (t : List ℕ). place_text a ++ t) (back_text a))))
    (long_mem_operands n (form_of a) (low_of a) (next_of a) (long_text word))
    (following (Instruction (form.LongMem n (form_of a))) a (constant_tree (long_text word)) word (word_number word small) (word16 word small) refl h) (same a)
  where
    same : (a : Addr) → insn_of (form.LongMem n (form_of a)) (word ∷ front_numbers a (back_numbers a)) ≡ insn.LongMem n word a
    same (addr.Direct low) = refl
    same (addr.Indirect c None) = refl
    same (addr.Indirect c (Some m)) = refl

pub jump_says : (n : JumpName) (word : ℕ) (c : Change) (o : Option ℕ) → word < 65536 → NextInRange o → ReadsBack (insn.Jump n word c o)
jump_says n word c o small h =
    let a = addr.Indirect c o in
    read_as (family.Jump n) (constant (long_text word) ∷ comma ∷ front a (back a)) (form.Jump n c) (constant_tree (long_text word) ∷ next_trees (register_of o)) (word ∷ next_numbers o) (insn.Jump n word c o)
    (jump_mnemonic n) (omega (arith, front_few a (back a), back_few a)) (constant_lexed word (long_text word) (comma ∷ front a (back a)) (word_constant word small) refl (comma_lexed (front a (back a)) (changing_lexed c (next (register_of o)) (next_lexed o h))))
    (six (jump_row n).name (codes " ") (long_text word) (codes ",") (change_text c) (next_text o)
    ∙ ap (λ (t : List ℕ). (jump_row n).name ++ (codes " " ++ (long_text word ++ (44 ∷ t)))) (sym (changing_text c (next (register_of o)) ∙ ap (λ (t : List ℕ). change_text c ++ t) (next_printed o))))
    (jump_operands n c (register_of o) (long_text word))
    (following (Instruction (form.Jump n c)) a (constant_tree (long_text word)) word (word_number word small) (word16 word small) refl h) (same o)
  where
    same : (o : Option ℕ) → insn_of (form.Jump n c) (word ∷ next_numbers o) ≡ insn.Jump n word c o
    same None = refl
    same (Some m) = refl

-- ---- short numbers

-- a number of a range
up_to : (n most : ℕ) → pos n ≤ℤ pos most → n ≤ most
up_to n most h = omega (arith, ints, h)

down_to : (n most : ℕ) → negsuc most ≤ℤ negsuc n → n ≤ most
down_to n most h = omega (arith, ints, h)

not_negative : (n : ℕ) → pos 0 ≤ℤ negsuc n → ⊥
not_negative n h = omega (arith, ints, h)

-- a short number alone is lexed, and printed
alone_lexed : (n : ℕ) → n < 65536 → AreLexed (constant (decimal n) ∷ [])
alone_lexed n h = constant_lexed n (decimal n) [] (decimal_constant n (omega arith)) refl tt

-- a number that is not negative, alone
positive : (m : ShortName) (register n : ℕ) → short_count m ≡ 1 → register ≡ 0 → n < 2 ^ 15 → number_in (form_field (form.Short m) 0) (pos n) ≡ Ok n
    → show (insn.Short m register (pos n)) ≡ (short_row m).name ++ (32 ∷ (decimal n ++ [])) → insn_of (form.Short m) (n ∷ []) ≡ insn.Short m 0 (cast_signed w16 n) → ReadsBack (insn.Short m register (pos n))
positive m register n one none h field shown same =
    read_as (family.Short m) (constant (decimal n) ∷ []) (form.Short m) (constant_tree (decimal n) ∷ []) (n ∷ []) (insn.Short m register (pos n))
    (short_mnemonic m) (omega arith) (alone_lexed n (omega arith)) shown (short_operands m (decimal n) one)
    (one_number (Instruction (form.Short m)) (constant_tree (decimal n)) (pos n) n (decimal_number n (omega arith)) field)
    (same ∙ ap (λ z. insn.Short m 0 z) (low_signed n h) ∙ ap (λ r. insn.Short m r (pos n)) (sym none))

negative : (register n : ℕ) → register ≡ 0 → n ≤ 4095 → ReadsBack (insn.Short short.Mpyk register (negsuc n))
negative register n none h =
    read_as (family.Short short.Mpyk) (minus ∷ constant (decimal (suc n)) ∷ []) (form.Short short.Mpyk) (Unary unary.Minus (constant_tree (decimal (suc n))) ∷ []) ((65535 - n) ∷ []) (insn.Short short.Mpyk register (negsuc n))
    (short_mnemonic short.Mpyk) (omega arith) (minus_lexed (constant (decimal (suc n)) ∷ []) (alone_lexed (suc n) (omega arith)))
    (ap (λ (t : List ℕ). (short_row short.Mpyk).name ++ (32 ∷ 45 ∷ t)) (sym (append-nil (decimal (suc n))))) (negative_operands (decimal (suc n)))
    (one_number (Instruction (form.Short short.Mpyk)) (Unary unary.Minus (constant_tree (decimal (suc n)))) (negsuc n) (65535 - n)
    (negative_number n (decimal (suc n)) (decimal_constant (suc n) (omega arith)).value (omega arith)) (negative13 n h))
    (ap (λ z. insn.Short short.Mpyk 0 z) (high_signed n h) ∙ ap (λ r. insn.Short short.Mpyk r (negsuc n)) (sym none))

lark : (register n : ℕ) → register < 8 → n ≤ 255 → ReadsBack (insn.Short short.Lark register (pos n))
lark register n small h =
    read_as (family.Short short.Lark) (name (register_text register) ∷ comma ∷ constant (decimal n) ∷ []) (form.Short short.Lark) (Single (Name (register_text register)) ∷ constant_tree (decimal n) ∷ []) (register ∷ n ∷ [])
    (insn.Short short.Lark register (pos n))
    (short_mnemonic short.Lark) (omega arith) (name_lexed register (register_text register) (comma ∷ constant (decimal n) ∷ []) (register_name register small) refl (comma_lexed (constant (decimal n) ∷ []) (alone_lexed n (omega arith))))
    (four (codes "LARK AR") (decimal register) (codes ",") (decimal n) ∙ ap (λ (t : List ℕ). codes "LARK AR" ++ (decimal register ++ (44 ∷ t))) (sym (append-nil (decimal n))))
    (lark_operands (register_text register) (decimal n))
    (two_numbers (Instruction (form.Short short.Lark)) (Single (Name (register_text register))) (constant_tree (decimal n)) (pos register) (pos n) register n
    (register_number register small) (number 8 register small (omega arith)) (decimal_number n (omega arith)) (number 256 n (omega arith) (omega arith)))
    (ap (λ z. insn.Short short.Lark register z) (low_signed n (omega arith)))

pub short_number : (m : ShortName) (register : ℕ) (z : ℤ) → ShortInRange m register z → ReadsBack (insn.Short m register z)
short_number short.Lark register (pos n) h = lark register n h.0 (up_to n 255 h.2)
short_number short.Lark register (negsuc n) h = absurd (not_negative n h.1)
short_number short.Mpyk register (pos n) h =
    let low = up_to n 4095 h.2 in
    positive short.Mpyk register n refl h.0 (omega arith) (signed13 n low) (ap (λ (t : List ℕ). (short_row short.Mpyk).name ++ (32 ∷ t)) (sym (append-nil (decimal n)))) refl
short_number short.Mpyk register (negsuc n) h = negative register n h.0 (down_to n 4095 h.1)
short_number short.Ldpk register (pos n) h =
    let low = up_to n 511 h.2 in
    positive short.Ldpk register n refl h.0 (omega arith) (page9 n (omega arith)) (ap (λ (t : List ℕ). (short_row short.Ldpk).name ++ (32 ∷ t)) (sym (append-nil (decimal n)))) refl
short_number m register (pos n) h =
    let low = up_to n 255 h.2 in
    positive m register n refl h.0 (omega arith) (number 256 n (omega arith) (omega arith)) (ap (λ (t : List ℕ). (short_row m).name ++ (32 ∷ t)) (sym (append-nil (decimal n)))) refl
short_number m register (negsuc n) h = absurd (not_negative n h.1)

-- ---- long numbers

lrlk : (word register : ℕ) → word < 65536 → register < 8 → ReadsBack (insn.Long long.Lrlk word register)
lrlk word register small h =
    read_as (family.Long long.Lrlk) (name (register_text register) ∷ comma ∷ constant (long_text word) ∷ []) (form.Long long.Lrlk) (Single (Name (register_text register)) ∷ constant_tree (long_text word) ∷ []) (register ∷ word ∷ [])
    (insn.Long long.Lrlk word register)
    (long_mnemonic long.Lrlk) (omega arith) (name_lexed register (register_text register) (comma ∷ constant (long_text word) ∷ []) (register_name register h) refl
    (comma_lexed (constant (long_text word) ∷ []) (constant_lexed word (long_text word) [] (word_constant word small) refl tt)))
    (four (codes "LRLK AR") (decimal register) (codes ",") (long_text word))
    (lrlk_operands (register_text register) (long_text word))
    (two_numbers (Instruction (form.Long long.Lrlk)) (Single (Name (register_text register))) (constant_tree (long_text word)) (pos register) (pos word) register word
    (register_number register h) (number 8 register h (omega arith)) (word_number word small) (word16 word small))
    refl

pub long_number : (m : LongName) (word high : ℕ) → word < 65536 → high < high_limit m → ReadsBack (insn.Long m word high)
long_number long.Lrlk word high small h = lrlk word high small h
long_number m word high small h =
    read_as (family.Long m) (constant (long_text word) ∷ comma ∷ constant (decimal high) ∷ []) (form.Long m) (constant_tree (long_text word) ∷ constant_tree (decimal high) ∷ []) (word ∷ high ∷ [])
    (insn.Long m word high)
    (long_mnemonic m) (omega arith) (constant_lexed word (long_text word) (comma ∷ constant (decimal high) ∷ []) (word_constant word small) refl (comma_lexed (constant (decimal high) ∷ []) (alone_lexed high (omega arith))))
    (ap (λ (t : List ℕ). (long_row m).name ++ (codes " " ++ (long_text word ++ (44 ∷ t)))) (sym (append-nil (decimal high))))
    (long_operands m (long_text word) (decimal high))
    (two_numbers (Instruction (form.Long m)) (constant_tree (long_text word)) (constant_tree (decimal high)) (pos word) (pos high) word high
    (word_number word small) (word16 word small) (decimal_number high (omega arith)) (number 16 high h (omega arith)))
    refl

-- ---- no data word

numbered : (m : PlainName) (n limit : ℕ) → n < limit → limit ≤ 4 → form_field (form.Plain m change.Keep) 0 ≡ field.Number limit
    → show (insn.Plain m (operand.Number n)) ≡ (plain_row m).name ++ (32 ∷ (decimal n ++ [])) → AreOperands (family.Plain m) (constant (decimal n) ∷ []) (form.Plain m change.Keep) (constant_tree (decimal n) ∷ [])
    → insn_of (form.Plain m change.Keep) (n ∷ []) ≡ insn.Plain m (operand.Number n) → ReadsBack (insn.Plain m (operand.Number n))
numbered m n limit small few f shown are same =
    read_as (family.Plain m) (constant (decimal n) ∷ []) (form.Plain m change.Keep) (constant_tree (decimal n) ∷ []) (n ∷ []) (insn.Plain m (operand.Number n))
    (plain_mnemonic m) (omega arith) (alone_lexed n (omega arith)) shown are
    (one_number (Instruction (form.Plain m change.Keep)) (constant_tree (decimal n)) (pos n) n (decimal_number n (omega arith)) (ap (λ f. number_in f (pos n)) f ∙ number limit n small (omega arith)))
    same

bare : (m : PlainName) → AreOperands (family.Plain m) [] (form.Plain m change.Keep) [] → insn_of (form.Plain m change.Keep) [] ≡ insn.Plain m operand.Nothing
    → ReadsBack (insn.Plain m operand.Nothing)
bare m are same =
    read_as (family.Plain m) [] (form.Plain m change.Keep) [] [] (insn.Plain m operand.Nothing)
    (plain_mnemonic m) (omega arith) tt (sym (append-nil (plain_row m).name)) are (no_numbers (Instruction (form.Plain m change.Keep))) same

numbered_shown : (m : PlainName) (n : ℕ) → show (insn.Plain m (operand.Number n)) ≡ (plain_row m).name ++ (32 ∷ (decimal n ++ []))
numbered_shown m n = append_assoc (plain_row m).name (codes " ") (decimal n) ∙ ap (λ (t : List ℕ). (plain_row m).name ++ (32 ∷ t)) (sym (append-nil (decimal n)))

norm : (c : Change) → ReadsBack (insn.Plain plain.Norm (operand.Change c))
norm c =
    let a = addr.Indirect c None in
    read_as (family.Plain plain.Norm) (front a []) (form.Plain plain.Norm c) [] [] (insn.Plain plain.Norm (operand.Change c))
    (plain_mnemonic plain.Norm) (omega (arith, front_few a [])) (changing_lexed c [] tt)
    (ap (λ (t : List ℕ). (plain_row plain.Norm).name ++ t) (sym (first_text a [] [] refl ∙ ap (λ (t : List ℕ). 32 ∷ t) (append-nil (change_text c))))) (norm_operands c) (no_numbers (Instruction (form.Plain plain.Norm c))) refl

pub plain_insn : (m : PlainName) (o : PlainOperand) → PlainInRange m o → ReadsBack (insn.Plain m o)
unfolding operation_of with_operand expressions
plain_insn plain.Spm (operand.Number n) h = numbered plain.Spm n 4 h (omega arith) refl (numbered_shown plain.Spm n) (number_operands (decimal n)).0 refl
plain_insn plain.Spm operand.Nothing h = absurd h
plain_insn plain.Spm (operand.Change c) h = absurd h
plain_insn plain.Fort (operand.Number n) h = numbered plain.Fort n 2 h (omega arith) refl (numbered_shown plain.Fort n) (number_operands (decimal n)).1 refl
plain_insn plain.Fort operand.Nothing h = absurd h
plain_insn plain.Fort (operand.Change c) h = absurd h
plain_insn plain.Cmpr (operand.Number n) h = numbered plain.Cmpr n 4 h (omega arith) refl (numbered_shown plain.Cmpr n) (number_operands (decimal n)).2 refl
plain_insn plain.Cmpr operand.Nothing h = absurd h
plain_insn plain.Cmpr (operand.Change c) h = absurd h
plain_insn plain.Norm (operand.Change c) h = norm c
plain_insn plain.Norm operand.Nothing h = absurd h
plain_insn plain.Norm (operand.Number n) h = absurd h
plain_insn m operand.Nothing h = bare m (λ at. refl) refl
plain_insn m (operand.Number n) h = absurd h
plain_insn m (operand.Change c) h = absurd h

-- ---- all

pub read_back : (i : Insn) → InRange i → ReadsBack i
read_back (insn.Mem n a) h = mem_says n a h
read_back (insn.Shifted n a shift) h = shifted_says n a shift h.0 h.1
read_back (insn.ArMem n register a) h = ar_mem_says n register a h.0 h.1
read_back (insn.Port n a p) h = port_says n a p h.0 h.1
read_back (insn.Bit n a code) h = bit_says n a code h.0 h.1
read_back (insn.Short n register z) h = short_number n register z h
read_back (insn.Long n word high) h = long_number n word high h.0 h.1
read_back (insn.LongMem n word a) h = long_mem_says n word a h.0 h.1
read_back (insn.Jump n word c o) h = jump_says n word c o h.0 h.1
read_back (insn.Plain n o) h = plain_insn n o h
