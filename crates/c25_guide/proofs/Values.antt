-- The numbers whose bits the signs of each row are.
use Rattle.std.proofs.Common.{◌≡◌, ℕ, ◌+◌, ◌*◌, ◌/◌, ◌%◌, ◌<◌, pos, List, [], ◌∷◌, arith}
use Rattle.std.specs.Prelude.{codes}
use Rattle.c25_meaning_instructions.specs.Table.{mem_row, shifted_row, ar_mem_row, port_row, bit_row, long_mem_row, jump_row, shift_limit}
use Rattle.c25_meaning_instructions.specs.declared.mnemonic.MemName.{MemName}
use Rattle.c25_meaning_instructions.specs.declared.mnemonic.MemName.TheVariants as mem
use Rattle.c25_meaning_instructions.specs.declared.mnemonic.ShiftedName.{ShiftedName}
use Rattle.c25_meaning_instructions.specs.declared.mnemonic.ShiftedName.TheVariants as shifted
use Rattle.c25_meaning_instructions.specs.declared.mnemonic.ArMemName.{ArMemName}
use Rattle.c25_meaning_instructions.specs.declared.mnemonic.ArMemName.TheVariants as ar_mem
use Rattle.c25_meaning_instructions.specs.declared.mnemonic.PortName.{PortName}
use Rattle.c25_meaning_instructions.specs.declared.mnemonic.PortName.TheVariants as port
use Rattle.c25_meaning_instructions.specs.declared.mnemonic.BitName.{BitName}
use Rattle.c25_meaning_instructions.specs.declared.mnemonic.BitName.TheVariants as bit
use Rattle.c25_meaning_instructions.specs.declared.mnemonic.LongMemName.{LongMemName}
use Rattle.c25_meaning_instructions.specs.declared.mnemonic.LongMemName.TheVariants as long_mem
use Rattle.c25_meaning_instructions.specs.declared.mnemonic.JumpName.{JumpName}
use Rattle.c25_meaning_instructions.specs.declared.mnemonic.JumpName.TheVariants as jump
use Rattle.c25_guide.specs.Rows.{mem_text, shifted_text, ar_mem_text, port_text, bit_text, long_mem_text, jump_text}
use Rattle.c25_guide.specs.Patterns.{signs_of, Field, field, value, AllFit}

-- the binary digits of a number of so many digits add up to the number
pub one_digit : (n : ℕ) → n < 2 → n / 1 % 2 * 1 + 0 ≡ n
one_digit n h = omega arith

pub two_digits : (n : ℕ) → n < 4 → n / 2 % 2 * 2 + (n / 1 % 2 * 1 + 0) ≡ n
two_digits n h = omega arith

pub three_digits : (n : ℕ) → n < 8 → n / 4 % 2 * 4 + (n / 2 % 2 * 2 + (n / 1 % 2 * 1 + 0)) ≡ n
three_digits n h = omega arith

pub four_digits : (n : ℕ) → n < 16 → n / 8 % 2 * 8 + (n / 4 % 2 * 4 + (n / 2 % 2 * 2 + (n / 1 % 2 * 1 + 0))) ≡ n
four_digits n h = omega arith

pub seven_digits : (n : ℕ) → n < 128 → n / 64 % 2 * 64 + (n / 32 % 2 * 32 + (n / 16 % 2 * 16 + (n / 8 % 2 * 8 + (n / 4 % 2 * 4 + (n / 2 % 2 * 2 + (n / 1 % 2 * 1 + 0)))))) ≡ n
seven_digits n h = omega arith

pub eight_digits : (n : ℕ) → n < 256 → n / 128 % 2 * 128 + (n / 64 % 2 * 64 + (n / 32 % 2 * 32 + (n / 16 % 2 * 16 + (n / 8 % 2 * 8 + (n / 4 % 2 * 4 + (n / 2 % 2 * 2 + (n / 1 % 2 * 1 + 0))))))) ≡ n
eight_digits n h = omega arith

pub nine_digits : (n : ℕ) → n < 512 → n / 256 % 2 * 256 + (n / 128 % 2 * 128 + (n / 64 % 2 * 64 + (n / 32 % 2 * 32 + (n / 16 % 2 * 16 + (n / 8 % 2 * 8 + (n / 4 % 2 * 4 + (n / 2 % 2 * 2 + (n / 1 % 2 * 1 + 0)))))))) ≡ n
nine_digits n h = omega arith

pub thirteen_digits : (n : ℕ) → n < 8192 → n / 4096 % 2 * 4096 + (n / 2048 % 2 * 2048 + (n / 1024 % 2 * 1024 + (n / 512 % 2 * 512 + (n / 256 % 2 * 256 + (n / 128 % 2 * 128 + (n / 64 % 2 * 64 + (n / 32 % 2 * 32 + (n / 16 % 2 * 16 + (n / 8 % 2 * 8 + (n / 4 % 2 * 4 + (n / 2 % 2 * 2 + (n / 1 % 2 * 1 + 0)))))))))))) ≡ n
thirteen_digits n h = omega arith

abbrev pub low_fields : ℕ → ℕ → List Field
low_fields i d = field (codes "I") (pos i) ∷ field (codes "d") (pos d) ∷ []

-- ---- of each family: the number whose bits are the signs of a row, that numbers in range have room in their letters, and
-- that those with room are in range

-- mem
pub mem_value : (name : MemName) (i d : ℕ) → i < 2 → d < 128 → value (low_fields i d) (signs_of (mem_text name)) ≡ (mem_row name).base + (128 * i + d)
mem_value mem.Mpy i d p q = let s = seven_digits d q in omega arith
mem_value _ i d p q = let s = seven_digits d q in omega arith

pub mem_fit : (name : MemName) (i d : ℕ) → i < 2 → d < 128 → AllFit (signs_of (mem_text name)) (low_fields i d)
mem_fit mem.Mpy i d p q = (p, (q, tt))
mem_fit _ i d p q = (p, (q, tt))

pub mem_room : (name : MemName) (i d : ℕ) → AllFit (signs_of (mem_text name)) (low_fields i d) → (i < 2) × (d < 128)
mem_room mem.Mpy i d h = (h.0, h.1.0)
mem_room _ i d h = (h.0, h.1.0)

-- shifted
pub shifted_value : (name : ShiftedName) (s : ℕ) (i d : ℕ) → s < shift_limit name → i < 2 → d < 128 → value (field (codes "s") (pos s) ∷ low_fields i d) (signs_of (shifted_text name)) ≡ (shifted_row name).base + s * 256 + (128 * i + d)
shifted_value shifted.Add s i d x p q = let low = seven_digits d q in let u = four_digits s x in omega arith
shifted_value shifted.Sub s i d x p q = let low = seven_digits d q in let u = four_digits s x in omega arith
shifted_value shifted.Lac s i d x p q = let low = seven_digits d q in let u = four_digits s x in omega arith
shifted_value _ s i d x p q = let low = seven_digits d q in let u = three_digits s x in omega arith

pub shifted_fit : (name : ShiftedName) (s : ℕ) (i d : ℕ) → s < shift_limit name → i < 2 → d < 128 → AllFit (signs_of (shifted_text name)) (field (codes "s") (pos s) ∷ low_fields i d)
shifted_fit shifted.Add s i d x p q = (x, (p, (q, tt)))
shifted_fit _ s i d x p q = (x, (p, (q, tt)))

pub shifted_room : (name : ShiftedName) (s : ℕ) (i d : ℕ) → AllFit (signs_of (shifted_text name)) (field (codes "s") (pos s) ∷ low_fields i d) → (s < shift_limit name) × (i < 2) × (d < 128)
shifted_room shifted.Add s i d h = (h.0, h.1.0, h.1.1.0)
shifted_room _ s i d h = (h.0, h.1.0, h.1.1.0)

-- ar_mem
pub ar_mem_value : (name : ArMemName) (r : ℕ) (i d : ℕ) → r < 8 → i < 2 → d < 128 → value (field (codes "r") (pos r) ∷ low_fields i d) (signs_of (ar_mem_text name)) ≡ (ar_mem_row name).base + r * 256 + (128 * i + d)
ar_mem_value ar_mem.Lar r i d x p q = let s = seven_digits d q in let u = three_digits r x in omega arith
ar_mem_value _ r i d x p q = let s = seven_digits d q in let u = three_digits r x in omega arith

pub ar_mem_fit : (name : ArMemName) (r : ℕ) (i d : ℕ) → r < 8 → i < 2 → d < 128 → AllFit (signs_of (ar_mem_text name)) (field (codes "r") (pos r) ∷ low_fields i d)
ar_mem_fit ar_mem.Lar r i d x p q = (x, (p, (q, tt)))
ar_mem_fit _ r i d x p q = (x, (p, (q, tt)))

pub ar_mem_room : (name : ArMemName) (r : ℕ) (i d : ℕ) → AllFit (signs_of (ar_mem_text name)) (field (codes "r") (pos r) ∷ low_fields i d) → (r < 8) × (i < 2) × (d < 128)
ar_mem_room ar_mem.Lar r i d h = (h.0, h.1.0, h.1.1.0)
ar_mem_room _ r i d h = (h.0, h.1.0, h.1.1.0)

-- port
pub port_value : (name : PortName) (n : ℕ) (i d : ℕ) → n < 16 → i < 2 → d < 128 → value (field (codes "p") (pos n) ∷ low_fields i d) (signs_of (port_text name)) ≡ (port_row name).base + n * 256 + (128 * i + d)
port_value port.In n i d x p q = let s = seven_digits d q in let u = four_digits n x in omega arith
port_value _ n i d x p q = let s = seven_digits d q in let u = four_digits n x in omega arith

pub port_fit : (name : PortName) (n : ℕ) (i d : ℕ) → n < 16 → i < 2 → d < 128 → AllFit (signs_of (port_text name)) (field (codes "p") (pos n) ∷ low_fields i d)
port_fit port.In n i d x p q = (x, (p, (q, tt)))
port_fit _ n i d x p q = (x, (p, (q, tt)))

pub port_room : (name : PortName) (n : ℕ) (i d : ℕ) → AllFit (signs_of (port_text name)) (field (codes "p") (pos n) ∷ low_fields i d) → (n < 16) × (i < 2) × (d < 128)
port_room port.In n i d h = (h.0, h.1.0, h.1.1.0)
port_room _ n i d h = (h.0, h.1.0, h.1.1.0)

-- bit
pub bit_value : (name : BitName) (n : ℕ) (i d : ℕ) → n < 16 → i < 2 → d < 128 → value (field (codes "b") (pos n) ∷ low_fields i d) (signs_of (bit_text name)) ≡ (bit_row name).base + n * 256 + (128 * i + d)
bit_value bit.Bit n i d x p q = let s = seven_digits d q in let u = four_digits n x in omega arith

pub bit_fit : (name : BitName) (n : ℕ) (i d : ℕ) → n < 16 → i < 2 → d < 128 → AllFit (signs_of (bit_text name)) (field (codes "b") (pos n) ∷ low_fields i d)
bit_fit bit.Bit n i d x p q = (x, (p, (q, tt)))

pub bit_room : (name : BitName) (n : ℕ) (i d : ℕ) → AllFit (signs_of (bit_text name)) (field (codes "b") (pos n) ∷ low_fields i d) → (n < 16) × (i < 2) × (d < 128)
bit_room bit.Bit n i d h = (h.0, h.1.0, h.1.1.0)

-- long_mem
pub long_mem_value : (name : LongMemName) (i d : ℕ) → i < 2 → d < 128 → value (low_fields i d) (signs_of (long_mem_text name)) ≡ (long_mem_row name).base + (128 * i + d)
long_mem_value long_mem.Macd i d p q = let s = seven_digits d q in omega arith
long_mem_value _ i d p q = let s = seven_digits d q in omega arith

pub long_mem_fit : (name : LongMemName) (i d : ℕ) → i < 2 → d < 128 → AllFit (signs_of (long_mem_text name)) (low_fields i d)
long_mem_fit long_mem.Macd i d p q = (p, (q, tt))
long_mem_fit _ i d p q = (p, (q, tt))

pub long_mem_room : (name : LongMemName) (i d : ℕ) → AllFit (signs_of (long_mem_text name)) (low_fields i d) → (i < 2) × (d < 128)
long_mem_room long_mem.Macd i d h = (h.0, h.1.0)
long_mem_room _ i d h = (h.0, h.1.0)

-- jump
pub jump_value : (name : JumpName) (d : ℕ) → d < 128 → value (field (codes "d") (pos d) ∷ []) (signs_of (jump_text name)) ≡ (jump_row name).base + (128 + d)
jump_value jump.Bc d q = let low = seven_digits d q in omega arith
jump_value _ d q = let low = seven_digits d q in omega arith

pub jump_fit : (name : JumpName) (d : ℕ) → d < 128 → AllFit (signs_of (jump_text name)) (field (codes "d") (pos d) ∷ [])
jump_fit jump.Bc d q = (q, tt)
jump_fit _ d q = (q, tt)

pub jump_room : (name : JumpName) (d : ℕ) → AllFit (signs_of (jump_text name)) (field (codes "d") (pos d) ∷ []) → d < 128
jump_room jump.Bc d h = h.0
jump_room _ d h = h.0
