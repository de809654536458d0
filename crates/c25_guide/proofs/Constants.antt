-- The rows without an operand byte: constants, registers, pages.
use Rattle.std.proofs.Common.{◌≡◌, ℕ, ◌+◌, ◌-◌, ◌*◌, ◌/◌, ◌%◌, ◌<◌, ℤ, pos, negsuc, List, [], ◌∷◌, refl, arith}
use Rattle.std.specs.Prelude.{codes}
use Rattle.std.proofs.lemmas.Int.{ints}
use Rattle.c25_meaning_instructions.specs.Table.{ShortInRange, PlainInRange, high_limit, opcode_word}
use Rattle.c25_meaning_instructions.specs.declared.insn.Insn.TheVariants as insn
use Rattle.c25_meaning_instructions.specs.declared.insn.PlainOperand.{PlainOperand}
use Rattle.c25_meaning_instructions.specs.declared.insn.PlainOperand.TheVariants as operand
use Rattle.c25_meaning_instructions.specs.declared.mnemonic.ShortName.{ShortName}
use Rattle.c25_meaning_instructions.specs.declared.mnemonic.ShortName.TheVariants as short
use Rattle.c25_meaning_instructions.specs.declared.mnemonic.LongName.{LongName}
use Rattle.c25_meaning_instructions.specs.declared.mnemonic.LongName.TheVariants as long
use Rattle.c25_meaning_instructions.specs.declared.mnemonic.PlainName.{PlainName}
use Rattle.c25_meaning_instructions.specs.declared.mnemonic.PlainName.TheVariants as plain
use Rattle.c25_guide.specs.Rows.{short_text, long_text, plain_text}
use Rattle.c25_guide.specs.Patterns.{signs_of, Field, field, value, AllFit, PlainFits, plain_fields, constant_letter, high_letter, change_signs}
use Rattle.c25_guide.proofs.Values.{one_digit, two_digits, three_digits, four_digits, eight_digits, nine_digits, thirteen_digits}
use Rattle.c25_guide.proofs.Operands.{change_value, change_small}

-- MPYK has negative numbers: its thirteen digits y are those x of 8191 less the number, each turned over. Each digit is a
-- variable here, since omega takes few quotients at once
turned : (y0 y1 y2 y3 y4 y5 y6 y7 y8 y9 y10 y11 y12 x0 x1 x2 x3 x4 x5 x6 x7 x8 x9 x10 x11 x12 : ℕ) → y0 + x0 ≡ 1 → y1 + x1 ≡ 1 → y2 + x2 ≡ 1 → y3 + x3 ≡ 1 → y4 + x4 ≡ 1 → y5 + x5 ≡ 1 → y6 + x6 ≡ 1 → y7 + x7 ≡ 1 → y8 + x8 ≡ 1 → y9 + x9 ≡ 1 → y10 + x10 ≡ 1 → y11 + x11 ≡ 1 → y12 + x12 ≡ 1 → (y12 * 4096 + (y11 * 2048 + (y10 * 1024 + (y9 * 512 + (y8 * 256 + (y7 * 128 + (y6 * 64 + (y5 * 32 + (y4 * 16 + (y3 * 8 + (y2 * 4 + (y1 * 2 + (y0 * 1 + 0))))))))))))) + (x12 * 4096 + (x11 * 2048 + (x10 * 1024 + (x9 * 512 + (x8 * 256 + (x7 * 128 + (x6 * 64 + (x5 * 32 + (x4 * 16 + (x3 * 8 + (x2 * 4 + (x1 * 2 + (x0 * 1 + 0))))))))))))) ≡ 8191
turned y0 y1 y2 y3 y4 y5 y6 y7 y8 y9 y10 y11 y12 x0 x1 x2 x3 x4 x5 x6 x7 x8 x9 x10 x11 x12 h0 h1 h2 h3 h4 h5 h6 h7 h8 h9 h10 h11 h12 = omega arith

flip : (n : ℕ) → (1 - n % 2) + n % 2 ≡ 1
flip n = omega arith

negative_digits : (n : ℕ) → n < 4096 → (1 - n / 4096 % 2) * 4096 + ((1 - n / 2048 % 2) * 2048 + ((1 - n / 1024 % 2) * 1024 + ((1 - n / 512 % 2) * 512 + ((1 - n / 256 % 2) * 256 + ((1 - n / 128 % 2) * 128 + ((1 - n / 64 % 2) * 64 + ((1 - n / 32 % 2) * 32 + ((1 - n / 16 % 2) * 16 + ((1 - n / 8 % 2) * 8 + ((1 - n / 4 % 2) * 4 + ((1 - n / 2 % 2) * 2 + ((1 - n / 1 % 2) * 1 + 0)))))))))))) ≡ 8191 - n
negative_digits n h = finish _ _ n (turned (1 - n / 1 % 2) (1 - n / 2 % 2) (1 - n / 4 % 2) (1 - n / 8 % 2) (1 - n / 16 % 2) (1 - n / 32 % 2) (1 - n / 64 % 2) (1 - n / 128 % 2) (1 - n / 256 % 2) (1 - n / 512 % 2) (1 - n / 1024 % 2) (1 - n / 2048 % 2) (1 - n / 4096 % 2) (n / 1 % 2) (n / 2 % 2) (n / 4 % 2) (n / 8 % 2) (n / 16 % 2) (n / 32 % 2) (n / 64 % 2) (n / 128 % 2) (n / 256 % 2) (n / 512 % 2) (n / 1024 % 2) (n / 2048 % 2) (n / 4096 % 2) (flip (n / 1)) (flip (n / 2)) (flip (n / 4)) (flip (n / 8)) (flip (n / 16)) (flip (n / 32)) (flip (n / 64)) (flip (n / 128)) (flip (n / 256)) (flip (n / 512)) (flip (n / 1024)) (flip (n / 2048)) (flip (n / 4096))) (thirteen_digits n (omega arith))
  where
    finish : (a b n : ℕ) → a + b ≡ 8191 → b ≡ n → a ≡ 8191 - n
    finish a b n p q = omega arith

-- ---- short constants

mpyk_word : (s r n : ℕ) → s ≡ 8191 - n → r ≡ 0 → n < 4096 → 32768 + (0 + (8192 + s)) ≡ 40960 + r % 8 * 256 + (8191 - n % 8192) * 1
mpyk_word s r n p q b = omega arith

abbrev pub short_fields : ShortName → ℕ → ℤ → List Field
short_fields name r k = field (codes "r") (pos r) ∷ field (constant_letter name) k ∷ []

pub short_word : (name : ShortName) (r : ℕ) (k : ℤ) → ShortInRange name r k → value (short_fields name r k) (signs_of (short_text name)) ≡ opcode_word (insn.Short name r k)
short_word short.Mpyk r (pos n) h = let d = thirteen_digits n (omega (arith, ints)) in omega (arith, ints)
short_word short.Mpyk r (negsuc n) h = let below : n < 4096 = omega (arith, ints) in mpyk_word _ r n (negative_digits n below) h.0 below
short_word short.Ldpk r (pos n) h = let d = nine_digits n (omega (arith, ints)) in omega (arith, ints)
short_word short.Lark r (pos n) h = let d = eight_digits n (omega (arith, ints)) in let e = three_digits r h.0 in omega (arith, ints)
short_word short.Adrk r (pos n) h = let d = eight_digits n (omega (arith, ints)) in omega (arith, ints)
short_word _ r (pos n) h = let d = eight_digits n (omega (arith, ints)) in omega (arith, ints)
short_word short.Adrk r (negsuc n) h = absurd (omega (arith, ints))
short_word _ r (negsuc n) h = absurd (omega (arith, ints))

pub short_fit : (name : ShortName) (r : ℕ) (k : ℤ) → ShortInRange name r k → AllFit (signs_of (short_text name)) (short_fields name r k)
short_fit short.Mpyk r (pos n) h = (omega (arith, ints), (omega (arith, ints), tt))
short_fit short.Mpyk r (negsuc n) h = (omega (arith, ints), (omega (arith, ints), tt))
short_fit short.Adrk r (pos n) h = (omega (arith, ints), (omega (arith, ints), tt))
short_fit _ r (pos n) h = (omega (arith, ints), (omega (arith, ints), tt))
short_fit short.Adrk r (negsuc n) h = absurd (omega (arith, ints))
short_fit _ r (negsuc n) h = absurd (omega (arith, ints))

pub short_room : (name : ShortName) (r : ℕ) (k : ℤ) → AllFit (signs_of (short_text name)) (short_fields name r k) → ShortInRange name r k
short_room short.Mpyk r (pos n) h = (omega (arith, ints), omega (arith, ints), omega (arith, ints))
short_room short.Mpyk r (negsuc n) h = (omega (arith, ints), omega (arith, ints), omega (arith, ints))
short_room short.Adrk r (pos n) h = (omega (arith, ints), omega (arith, ints), omega (arith, ints))
short_room _ r (pos n) h = (omega (arith, ints), omega (arith, ints), omega (arith, ints))
short_room short.Adrk r (negsuc n) h = absurd h.1.0
short_room _ r (negsuc n) h = absurd h.1.0

-- ---- long constants

abbrev pub long_fields : LongName → ℕ → List Field
long_fields name high = field (high_letter name) (pos high) ∷ []

pub long_word : (name : LongName) (high : ℕ) → high < high_limit name → value (long_fields name high) (signs_of (long_text name)) ≡ opcode_word (insn.Long name 0 high)
long_word long.Lrlk high h = let d = three_digits high h in omega arith
long_word _ high h = let d = four_digits high h in omega arith

pub long_fit : (name : LongName) (high : ℕ) → high < high_limit name → AllFit (signs_of (long_text name)) (long_fields name high)
long_fit long.Lrlk high h = (h, tt)
long_fit _ high h = (h, tt)

pub long_room : (name : LongName) (high : ℕ) → AllFit (signs_of (long_text name)) (long_fields name high) → high < high_limit name
long_room long.Lrlk high h = h.0
long_room _ high h = h.0

-- ---- no operand in memory

pub plain_word : (name : PlainName) (o : PlainOperand) → PlainInRange name o → value (plain_fields o) (signs_of (plain_text name)) ≡ opcode_word (insn.Plain name o)
plain_word plain.Spm (operand.Number n) h = let d = two_digits n h in omega arith
plain_word plain.Fort (operand.Number n) h = let d = one_digit n h in omega arith
plain_word plain.Cmpr (operand.Number n) h = let d = two_digits n h in omega arith
plain_word plain.Norm (operand.Change c) h =
    let e = change_value c in let s = change_small c in let d = three_digits (value [] (change_signs c)) (omega arith) in omega arith
plain_word plain.Eint operand.Nothing h = refl
plain_word _ operand.Nothing h = refl
plain_word plain.Eint (operand.Number n) h = absurd h
plain_word _ (operand.Number n) h = absurd h
plain_word plain.Eint (operand.Change c) h = absurd h
plain_word _ (operand.Change c) h = absurd h

pub plain_fit : (name : PlainName) (o : PlainOperand) → PlainInRange name o → AllFit (signs_of (plain_text name)) (plain_fields o)
plain_fit plain.Spm (operand.Number n) h = (h, tt)
plain_fit plain.Fort (operand.Number n) h = (h, tt)
plain_fit plain.Cmpr (operand.Number n) h = (h, tt)
plain_fit plain.Norm (operand.Change c) h = let e = change_value c in let s = change_small c in (omega arith, tt)
plain_fit plain.Eint operand.Nothing h = tt
plain_fit _ operand.Nothing h = tt
plain_fit plain.Eint (operand.Number n) h = absurd h
plain_fit _ (operand.Number n) h = absurd h
plain_fit plain.Eint (operand.Change c) h = absurd h
plain_fit _ (operand.Change c) h = absurd h

pub plain_operand : (name : PlainName) (o : PlainOperand) → PlainInRange name o → PlainFits o (signs_of (plain_text name))
plain_operand plain.Spm (operand.Number n) h = refl
plain_operand plain.Fort (operand.Number n) h = refl
plain_operand plain.Cmpr (operand.Number n) h = refl
plain_operand plain.Norm (operand.Change c) h = refl
plain_operand plain.Eint operand.Nothing h = refl
plain_operand plain.Spm operand.Nothing h = absurd h
plain_operand plain.Fort operand.Nothing h = absurd h
plain_operand plain.Cmpr operand.Nothing h = absurd h
plain_operand plain.Norm operand.Nothing h = absurd h
plain_operand _ operand.Nothing h = refl
plain_operand plain.Eint (operand.Number n) h = absurd h
plain_operand _ (operand.Number n) h = absurd h
plain_operand plain.Eint (operand.Change c) h = absurd h
plain_operand _ (operand.Change c) h = absurd h

pub plain_room : (name : PlainName) (o : PlainOperand) → AllFit (signs_of (plain_text name)) (plain_fields o) → PlainFits o (signs_of (plain_text name)) → PlainInRange name o
plain_room plain.Spm (operand.Number n) h b = h.0
plain_room plain.Fort (operand.Number n) h b = h.0
plain_room plain.Cmpr (operand.Number n) h b = h.0
plain_room plain.Norm (operand.Change c) h b = tt
plain_room plain.Spm operand.Nothing h b = absurd (cc)
plain_room plain.Fort operand.Nothing h b = absurd (cc)
plain_room plain.Cmpr operand.Nothing h b = absurd (cc)
plain_room plain.Norm operand.Nothing h b = absurd (cc)
plain_room plain.Eint operand.Nothing h b = tt
plain_room _ operand.Nothing h b = tt
plain_room plain.Eint (operand.Number n) h b = absurd (cc)
plain_room _ (operand.Number n) h b = absurd (cc)
plain_room plain.Eint (operand.Change c) h b = absurd (cc)
plain_room _ (operand.Change c) h b = absurd (cc)
