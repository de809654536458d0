-- What is printed of an operand is its byte.
use Rattle.std.proofs.Common.{◌≡◌, ℕ, ◌+◌, ◌*◌, ◌<◌, Option, Some, None, [], refl, arith}
use Rattle.c25_meaning_instructions.specs.Table.{operand_byte, indirect_byte, change_number, AddrInRange, NextInRange}
use Rattle.c25_meaning_instructions.specs.declared.insn.Addr.{Addr}
use Rattle.c25_meaning_instructions.specs.declared.insn.Addr.TheVariants.{Direct, Indirect}
use Rattle.c25_meaning_instructions.specs.declared.insn.Change.{Change}
use Rattle.c25_meaning_instructions.specs.declared.insn.Change.TheVariants as change
use Rattle.c25_guide.specs.Patterns.{AddressFits, mode, address_number, indirect_number, change_signs, value}
use Rattle.c25_guide.proofs.Values.{three_digits}

-- a change's signs are its number, of three bits
pub change_value : (c : Change) → value [] (change_signs c) ≡ change_number c
change_value change.Keep = refl
change_value _ = refl

pub change_small : (c : Change) → change_number c < 8
change_small change.Keep = omega arith
change_small _ = omega arith

change_room : (c : Change) → value [] (change_signs c) < 8
change_room change.Keep = omega arith
change_room _ = omega arith

-- an indirect operand's seven bits
pub indirect_value : (c : Change) (next : Option ℕ) → NextInRange next → (indirect_number c next < 128) × (128 + indirect_number c next ≡ indirect_byte c next)
indirect_value change.Keep None h = (omega arith, omega arith)
indirect_value _ None h = (omega arith, omega arith)
indirect_value change.Keep (Some n) h = let y = three_digits n h in (omega arith, omega arith)
indirect_value _ (Some n) h = let y = three_digits n h in (omega arith, omega arith)

pub record IsByte (a : Addr) : Type 0 where
  pub mode_below : mode a < 2
  pub below : address_number a < 128
  pub byte_is : 128 * mode a + address_number a ≡ operand_byte a
  pub fits : AddressFits a

indirect_fits : (c : Change) (next : Option ℕ) → NextInRange next → AddressFits (Indirect c next)
indirect_fits c None h = (change_room c, tt)
indirect_fits c (Some n) h = (change_room c, (h, tt))

pub next_in_range : (c : Change) (next : Option ℕ) → AddressFits (Indirect c next) → NextInRange next
next_in_range c None h = tt
next_in_range c (Some n) h = h.1.0

-- an operand in range is printed so
pub is_byte : (a : Addr) → AddrInRange a → IsByte a
is_byte (Direct low) h = record { mode_below = omega arith; below = h; byte_is = omega arith; fits = tt }
is_byte (Indirect c next) h =
    let v = indirect_value c next h in
    record { mode_below = omega arith; below = v.0; byte_is = v.1; fits = indirect_fits c next h }

-- what is printed so is in range
pub in_range : (a : Addr) → address_number a < 128 → AddressFits a → AddrInRange a
in_range (Direct low) p h = p
in_range (Indirect c next) p h = next_in_range c next h
