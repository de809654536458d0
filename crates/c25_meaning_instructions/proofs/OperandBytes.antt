-- An operand byte is a byte, and gives back the operand that it was made of.
use Rattle.std.proofs.Common.{◌≡◌, ℕ, ◌<◌, Option, Some, None, List, [], ◌∷◌, refl, ap, ◌∙◌, arith}
use Rattle.std.proofs.lemmas.Grind.{common_steps}
use Rattle.c25_meaning_instructions.specs.Table.{operand_byte, indirect_byte, change_number, AddrInRange, NextInRange}
use Rattle.c25_meaning_instructions.specs.declared.insn.Addr.{Addr}
use Rattle.c25_meaning_instructions.specs.declared.insn.Addr.TheVariants.{Direct, Indirect}
use Rattle.c25_meaning_instructions.specs.declared.insn.Change.{Change}
use Rattle.c25_meaning_instructions.specs.declared.insn.Change.TheVariants as change
use Rattle.c25_meaning_instructions.proofs.Keys.{found_by, one_by}

-- the byte of an operand in range is below 256
pub operand_byte_below : (addr : Addr) → AddrInRange addr → operand_byte addr < 256
operand_byte_below addr h = grind (arith, common_steps)

-- the byte of an indirect operand in range is below 256
pub indirect_byte_below : (c : Change) (next : Option ℕ) → NextInRange next → indirect_byte c next < 256
indirect_byte_below c next h = operand_byte_below (Indirect c next) h

-- all changes of an auxiliary register
abbrev changes : List Change
changes = change.Keep ∷ change.Decrement ∷ change.Increment ∷ change.ReverseSubtract ∷ change.Subtract ∷ change.Add ∷ change.ReverseAdd ∷ []

change_found : (c : Change) → found_by change_number (change_number c) changes ≡ Some c
change_found change.Keep = refl
change_found _ = refl

-- one number is one change's
pub one_change : (c other : Change) → change_number c ≡ change_number other → c ≡ other
one_change c other same = one_by change_number changes change_found c other same

-- a change has three bits
change_small : (c : Change) → change_number c < 8
change_small c = grind (arith, common_steps)

-- one byte has one change and one next register
same_indirect : (c other : Change) (next more : Option ℕ) → NextInRange next → NextInRange more → indirect_byte c next ≡ indirect_byte other more → (change_number c ≡ change_number other) × (next ≡ more)
same_indirect c other None None p q same = let small = change_small c in let less = change_small other in (omega arith, refl)
same_indirect c other None (Some m) p q same = let small = change_small c in let less = change_small other in absurd (omega arith)
same_indirect c other (Some n) None p q same = let small = change_small c in let less = change_small other in absurd (omega arith)
same_indirect c other (Some n) (Some m) p q same = let small = change_small c in let less = change_small other in (omega arith, ap Some (omega arith))

-- one byte is one indirect operand's
pub one_indirect : (c other : Change) (next more : Option ℕ) → NextInRange next → NextInRange more → indirect_byte c next ≡ indirect_byte other more → (c ≡ other) × (next ≡ more)
one_indirect c other next more p q same =
    let both = same_indirect c other next more p q same in
    (one_change c other both.0, both.1)

-- one byte is one operand's
pub one_operand : (addr other : Addr) → AddrInRange addr → AddrInRange other → operand_byte addr ≡ operand_byte other → addr ≡ other
one_operand (Direct low) (Direct more) p q same = ap Direct (omega arith)
one_operand (Direct low) (Indirect c next) p q same = absurd (grind (arith, common_steps))
one_operand (Indirect c next) (Direct low) p q same = absurd (grind (arith, common_steps))
one_operand (Indirect c next) (Indirect other more) p q same =
    let both = one_indirect c other next more p q same in
    ap (λ ch. Indirect ch next) both.0 ∙ ap (λ n. Indirect other n) both.1
