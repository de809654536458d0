-- Two words read as an instruction exactly where they are printed of it.
use Rattle.std.proofs.Common.{◌≡◌, ℕ, ◌+◌, ◌*◌, ◌<◌, ◌↔◌, ◌∙◌, sym, ap, arith}
use Rattle.c25_meaning_instructions.specs.Table.{Reads, InRange, operand_byte, mem_row, long_mem_row, jump_row, opcode_word, shift_limit, second_word}
use Rattle.c25_meaning_instructions.specs.declared.insn.Insn.{Insn}
use Rattle.c25_meaning_instructions.specs.declared.insn.Insn.TheVariants as insn
use Rattle.c25_meaning_instructions.specs.declared.insn.Addr.TheVariants.{Indirect}
use Rattle.c25_meaning_instructions.specs.declared.mnemonic.ShiftedName.{ShiftedName}
use Rattle.c25_meaning_instructions.specs.declared.mnemonic.ShiftedName.TheVariants as shifted
use Rattle.c25_guide.specs.Patterns.{IsPrinted, printed, value, SecondIs, mode, address_number, indirect_number}
use Rattle.c25_guide.proofs.Values.{mem_value, mem_fit, mem_room, shifted_value, shifted_fit, shifted_room, ar_mem_value, ar_mem_fit, ar_mem_room, port_value, port_fit, port_room, bit_value, bit_fit, bit_room, long_mem_value, long_mem_fit, long_mem_room, jump_value, jump_fit}
use Rattle.std.specs.Prelude.{IfSome}
use Rattle.c25_guide.specs.Patterns.{AllFit}
use Rattle.c25_guide.proofs.Constants.{short_word, short_fit, short_room, long_word, long_fit, long_room, plain_word, plain_fit, plain_operand, plain_room}
use Rattle.c25_guide.proofs.Operands.{is_byte, in_range, indirect_value, next_in_range}

-- a row's number and an operand's byte
summed : (word base extra i d byte : ℕ) → word ≡ base + extra + (128 * i + d) → 128 * i + d ≡ byte → word ≡ base + extra + byte
summed word base extra i d byte p q = omega arith

plainly : (word base i d byte : ℕ) → word ≡ base + (128 * i + d) → 128 * i + d ≡ byte → word ≡ base + byte
plainly word base i d byte p q = omega arith

shift_below : (name : ShiftedName) (s : ℕ) → s < shift_limit name → s < 16
shift_below shifted.Add s h = omega arith
shift_below _ s h = omega arith

-- the first word, where the numbers are in range
first_word : (i : Insn) → InRange i → value (printed i).fields (printed i).signs ≡ opcode_word i
first_word (insn.Mem name a) h =
    let b = is_byte a h in
    plainly _ (mem_row name).base (mode a) (address_number a) (operand_byte a) (mem_value name (mode a) (address_number a) b.mode_below b.below) b.byte_is
first_word (insn.Shifted name a s) h =
    let b = is_byte a h.1 in
    let e = shifted_value name s (mode a) (address_number a) h.0 b.mode_below b.below in
    let f = b.byte_is in let g = shift_below name s h.0 in omega arith
first_word (insn.ArMem name r a) h =
    let b = is_byte a h.1 in
    let e = ar_mem_value name r (mode a) (address_number a) h.0 b.mode_below b.below in
    let f = b.byte_is in let g = h.0 in omega arith
first_word (insn.Port name a n) h =
    let b = is_byte a h.1 in
    let e = port_value name n (mode a) (address_number a) h.0 b.mode_below b.below in
    let f = b.byte_is in let g = h.0 in omega arith
first_word (insn.Bit name a n) h =
    let b = is_byte a h.1 in
    let e = bit_value name n (mode a) (address_number a) h.0 b.mode_below b.below in
    let f = b.byte_is in let g = h.0 in omega arith
first_word (insn.LongMem name w a) h =
    let b = is_byte a h.1 in
    plainly _ (long_mem_row name).base (mode a) (address_number a) (operand_byte a) (long_mem_value name (mode a) (address_number a) b.mode_below b.below) b.byte_is
first_word (insn.Jump name w c next) h =
    let v = indirect_value c next h.1 in
    jump_value name (indirect_number c next) v.0 ∙ ap (λ n. (jump_row name).base + n) v.1
first_word (insn.Short name r k) h = short_word name r k h
first_word (insn.Long name k high) h = long_word name high h.1
first_word (insn.Plain name o) h = plain_word name o h

-- the numbers of an instruction in range fit their letters
fits_of : (i : Insn) → InRange i → AllFit (printed i).signs (printed i).fields
fits_of (insn.Mem name a) h = let b = is_byte a h in mem_fit name (mode a) (address_number a) b.mode_below b.below
fits_of (insn.Shifted name a s) h = let b = is_byte a h.1 in shifted_fit name s (mode a) (address_number a) h.0 b.mode_below b.below
fits_of (insn.ArMem name r a) h = let b = is_byte a h.1 in ar_mem_fit name r (mode a) (address_number a) h.0 b.mode_below b.below
fits_of (insn.Port name a n) h = let b = is_byte a h.1 in port_fit name n (mode a) (address_number a) h.0 b.mode_below b.below
fits_of (insn.Bit name a n) h = let b = is_byte a h.1 in bit_fit name n (mode a) (address_number a) h.0 b.mode_below b.below
fits_of (insn.LongMem name w a) h = let b = is_byte a h.1 in long_mem_fit name (mode a) (address_number a) b.mode_below b.below
fits_of (insn.Jump name w c next) h = jump_fit name (indirect_number c next) (indirect_value c next h.1).0
fits_of (insn.Short name r k) h = short_fit name r k h
fits_of (insn.Long name k high) h = long_fit name high h.1
fits_of (insn.Plain name o) h = plain_fit name o h

operand_fits_of : (i : Insn) → InRange i → (printed i).operand_fits
operand_fits_of (insn.Mem name a) h = (is_byte a h).fits
operand_fits_of (insn.Shifted name a s) h = (is_byte a h.1).fits
operand_fits_of (insn.ArMem name r a) h = (is_byte a h.1).fits
operand_fits_of (insn.Port name a n) h = (is_byte a h.1).fits
operand_fits_of (insn.Bit name a n) h = (is_byte a h.1).fits
operand_fits_of (insn.LongMem name w a) h = (is_byte a h.1).fits
operand_fits_of (insn.Jump name w c next) h = (is_byte (Indirect c next) h.1).fits
operand_fits_of (insn.Short name r k) h = tt
operand_fits_of (insn.Long name k high) h = tt
operand_fits_of (insn.Plain name o) h = plain_operand name o h

-- the second word
second_of : (second : ℕ) (i : Insn) → InRange i → IfSome (second_word i) (λ w. w ≡ second) → SecondIs second (printed i).second
second_of second (insn.Long name k high) h e = (h.0, omega arith)
second_of second (insn.LongMem name k a) h e = (h.0, omega arith)
second_of second (insn.Jump name k c next) h e = (h.0, omega arith)
second_of second (insn.Mem name a) h e = tt
second_of second _ h e = tt

second_back : (second : ℕ) (i : Insn) → SecondIs second (printed i).second → IfSome (second_word i) (λ w. w ≡ second)
second_back second (insn.Long name k high) e = omega arith
second_back second (insn.LongMem name k a) e = omega arith
second_back second (insn.Jump name k c next) e = omega arith
second_back second (insn.Mem name a) e = tt
second_back second _ e = tt

-- what is printed is in range
range_of : (second : ℕ) (i : Insn) → AllFit (printed i).signs (printed i).fields → (printed i).operand_fits → SecondIs second (printed i).second → InRange i
range_of second (insn.Mem name a) f b s = in_range a (mem_room name (mode a) (address_number a) f).1 b
range_of second (insn.Shifted name a n) f b s = let r = shifted_room name n (mode a) (address_number a) f in (r.0, in_range a r.2 b)
range_of second (insn.ArMem name n a) f b s = let r = ar_mem_room name n (mode a) (address_number a) f in (r.0, in_range a r.2 b)
range_of second (insn.Port name a n) f b s = let r = port_room name n (mode a) (address_number a) f in (r.0, in_range a r.2 b)
range_of second (insn.Bit name a n) f b s = let r = bit_room name n (mode a) (address_number a) f in (r.0, in_range a r.2 b)
range_of second (insn.LongMem name w a) f b s = (s.0, in_range a (long_mem_room name (mode a) (address_number a) f).1 b)
range_of second (insn.Jump name w c next) f b s = (s.0, next_in_range c next b)
range_of second (insn.Short name r k) f b s = short_room name r k f
range_of second (insn.Long name k high) f b s = (s.0, long_room name high f)
range_of second (insn.Plain name o) f b s = plain_room name o f b

to : (first second : ℕ) (i : Insn) → Reads first second i → IsPrinted first second i
to first second i r =
    record { fits = fits_of i r.in_range; operand_fits = operand_fits_of i r.in_range; first_is = first_word i r.in_range ∙ r.first_is; second_is = second_of second i r.in_range r.second_is }

back : (first second : ℕ) (i : Insn) → IsPrinted first second i → Reads first second i
back first second i p =
    let h = range_of second i p.fits p.operand_fits p.second_is in
    record { in_range = h; first_is = sym (first_word i h) ∙ p.first_is; second_is = second_back second i p.second_is }

pub patterns : (first second : ℕ) (i : Insn) → Reads first second i ↔ IsPrinted first second i
patterns first second i = (to first second i, back first second i)
