-- Where the first words of each family lie.
use Rattle.std.proofs.Common.{◌≡◌, ℕ, ◌<◌, ◌≤◌, ◌⊎◌, subst, arith}
use Rattle.std.proofs.lemmas.Grind.{common_steps}
use Rattle.c25_meaning_instructions.specs.Table.{opcode_word, InRange, Reads}
use Rattle.c25_meaning_instructions.specs.declared.insn.Insn.{Insn}
use Rattle.c25_meaning_instructions.specs.declared.insn.Insn.TheVariants as insn
use Rattle.c25_meaning_instructions.proofs.OperandBytes.{operand_byte_below}

-- the ten families, by numbers
abbrev pub kind : Insn → ℕ
kind (insn.Mem name addr) = 0
kind (insn.Shifted name addr shift) = 1
kind (insn.ArMem name register addr) = 2
kind (insn.Port name addr port) = 3
kind (insn.Bit name addr code) = 4
kind (insn.Short name register number) = 5
kind (insn.Long name number high) = 6
kind (insn.LongMem name word addr) = 7
kind (insn.Jump name word change next) = 8
kind (insn.Plain name operand) = 9

-- from the one word up to the other
abbrev Between : ℕ → ℕ → ℕ → Type 0
Between low high word = (low ≤ word) × (word < high)

-- where a family's first words lie
abbrev pub IsPlaced : Insn → ℕ → Type 0
IsPlaced (insn.Mem name addr) word = Between 0x3800 0x5c00 word ⊎ Between 0x7800 0x7e00 word ⊎ Between 0xcf00 0xd000 word
IsPlaced (insn.Shifted name addr shift) word = Between 0 0x3000 word ⊎ Between 0x6000 0x7000 word
IsPlaced (insn.ArMem name register addr) word = Between 0x3000 0x3800 word ⊎ Between 0x7000 0x7800 word
IsPlaced (insn.Port name addr port) word = Between 0x8000 0x9000 word ⊎ Between 0xe000 0xf000 word
IsPlaced (insn.Bit name addr code) word = Between 0x9000 0xa000 word
IsPlaced (insn.Short name register number) word = Between 0x7e00 0x8000 word ⊎ Between 0xa000 0xce00 word
IsPlaced (insn.Long name number high) word = Between 0xd000 0xe000 word
IsPlaced (insn.LongMem name value addr) word = Between 0x5c00 0x5e00 word ⊎ Between 0xfc00 0xfe00 word
IsPlaced (insn.Jump name value change next) word = Between 0x5e00 0x6000 word ⊎ Between 0xf000 0xfc00 word ⊎ Between 0xfe00 0x10000 word
IsPlaced (insn.Plain name operand) word = Between 0xce00 0xcf00 word

-- an instruction's first word lies with its family's
pub opcode_word_placed : (i : Insn) → InRange i → IsPlaced i (opcode_word i)
opcode_word_placed (insn.Mem name addr) h = grind (arith, common_steps, operand_byte_below)
opcode_word_placed (insn.Shifted name addr shift) h = grind (arith, common_steps, operand_byte_below)
opcode_word_placed (insn.ArMem name register addr) h = grind (arith, common_steps, operand_byte_below)
opcode_word_placed (insn.Port name addr port) h = grind (arith, common_steps, operand_byte_below)
opcode_word_placed (insn.Bit name addr code) h = grind (arith, common_steps, operand_byte_below)
opcode_word_placed (insn.Short name register number) h = grind (arith, common_steps)
opcode_word_placed (insn.Long name number high) h = grind (arith, common_steps)
opcode_word_placed (insn.LongMem name value addr) h = grind (arith, common_steps, operand_byte_below)
opcode_word_placed (insn.Jump name value change next) h = grind (arith, common_steps)
opcode_word_placed (insn.Plain name operand) h = grind (arith, common_steps)

-- words that lie with a family's lie with no other's
apart : (x y : Insn) (word : ℕ) → IsPlaced x word → IsPlaced y word → kind x ≡ kind y
apart (insn.Mem name addr) y word p q = grind arith
apart (insn.Shifted name addr shift) y word p q = grind arith
apart (insn.ArMem name register addr) y word p q = grind arith
apart (insn.Port name addr port) y word p q = grind arith
apart (insn.Bit name addr code) y word p q = grind arith
apart (insn.Short name register number) y word p q = grind arith
apart (insn.Long name number high) y word p q = grind arith
apart (insn.LongMem name value addr) y word p q = grind arith
apart (insn.Jump name value change next) y word p q = grind arith
apart (insn.Plain name operand) y word p q = grind arith

-- two instructions with one first word are of one family
pub same_kind : (first second other : ℕ) (x y : Insn) → Reads first second x → Reads first other y → kind x ≡ kind y
same_kind first second other x y of_x of_y =
    apart x y first (subst (IsPlaced x) of_x.first_is (opcode_word_placed x of_x.in_range)) (subst (IsPlaced y) of_y.first_is (opcode_word_placed y of_y.in_range))
