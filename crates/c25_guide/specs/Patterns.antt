-- How the signs of a row are read: 0 and 1 are bits; a letter's signs are the binary digits of its number, the highest
-- first. A number is in range where its letter has room for it (SPRU014, "Instruction Set Summary"; "Indirect Addressing
-- Mode" for the operand in memory).
use Rattle.std.specs.Prelude.{◌≡◌, ℕ, ◌+◌, ◌-◌, ◌*◌, ◌/◌, ◌%◌, ◌^◌, ◌<◌, ◌==◌, ℤ, pos, negsuc, Bool, true, false, not, ◌&&◌, List, [], ◌∷◌, length, drop, Option, None, Some, IsTrue, codes, slice_index, if◌then◌else◌}
use Rattle.c25_meaning_instructions.specs.declared.insn.Insn.{Insn}
use Rattle.c25_meaning_instructions.specs.declared.insn.Insn.TheVariants as insn
use Rattle.c25_meaning_instructions.specs.declared.insn.Addr.{Addr}
use Rattle.c25_meaning_instructions.specs.declared.insn.Addr.TheVariants.{Direct, Indirect}
use Rattle.c25_meaning_instructions.specs.declared.insn.Change.{Change}
use Rattle.c25_meaning_instructions.specs.declared.insn.Change.TheVariants as change
use Rattle.c25_meaning_instructions.specs.declared.insn.PlainOperand.{PlainOperand}
use Rattle.c25_meaning_instructions.specs.declared.insn.PlainOperand.TheVariants as operand
use Rattle.c25_meaning_instructions.specs.declared.mnemonic.ShortName.{ShortName}
use Rattle.c25_meaning_instructions.specs.declared.mnemonic.ShortName.TheVariants as short
use Rattle.c25_meaning_instructions.specs.declared.mnemonic.LongName.{LongName}
use Rattle.c25_meaning_instructions.specs.declared.mnemonic.LongName.TheVariants as long
use Rattle.c25_meaning_instructions.specs.declared.mnemonic.Mnemonic.{Mnemonic}
use Rattle.c25_meaning_instructions.specs.declared.mnemonic.Mnemonic.TheVariants as family
use Rattle.c25_guide.specs.Rows.{mem_text, shifted_text, ar_mem_text, port_text, bit_text, short_text, long_text, long_mem_text, jump_text, plain_text}

-- ---- rows

-- a sign, given as a text of one
abbrev pub sign : List ℕ → ℕ
sign text = slice_index text 0

-- what stands before the first blank of a text
abbrev pub first_word : List ℕ → List ℕ
first_word [] = []
first_word (first ∷ text) = if first == sign (codes " ") then [] else first ∷ first_word text

-- the sixteen signs of a row's text
abbrev pub signs_of : List ℕ → List ℕ
signs_of text = drop 6 text

-- the text of each row
abbrev pub row_text : Mnemonic → List ℕ
row_text (family.Mem name) = mem_text name
row_text (family.Shifted name) = shifted_text name
row_text (family.ArMem name) = ar_mem_text name
row_text (family.Port name) = port_text name
row_text (family.Bit name) = bit_text name
row_text (family.Short name) = short_text name
row_text (family.Long name) = long_text name
row_text (family.LongMem name) = long_mem_text name
row_text (family.Jump name) = jump_text name
row_text (family.Plain name) = plain_text name

-- ---- signs

-- a letter with its number
pub record Field : Type 0 where
  pub letter : ℕ
  pub number : ℤ

-- a letter, given as a text of one, with its number
abbrev pub field : List ℕ → ℤ → Field
field text number = record { letter = sign text; number = number }

-- how often a sign is among signs
abbrev pub count : ℕ → List ℕ → ℕ
count letter [] = 0
count letter (first ∷ signs) = if first == letter then 1 + count letter signs else count letter signs

-- a binary digit of a whole number, in two's complement
abbrev pub digit : ℤ → ℕ → ℕ
digit (pos n) place = n / 2 ^ place % 2
digit (negsuc n) place = 1 - n / 2 ^ place % 2

-- the binary digit of a letter's number that has so many more after it; 0 of a letter without a number
abbrev pub letter_digit : List Field → ℕ → ℕ → ℕ
letter_digit [] letter place = 0
letter_digit (f ∷ fields) letter place = if f.letter == letter then digit f.number place else letter_digit fields letter place

-- the bit of a sign that has these signs after it
abbrev pub sign_bit : List Field → ℕ → List ℕ → ℕ
sign_bit fields first signs =
    if first == sign (codes "0") then 0 else (if first == sign (codes "1") then 1 else letter_digit fields first (count first signs))

-- the number whose bits are these signs
abbrev pub value : List Field → List ℕ → ℕ
value fields [] = 0
value fields (first ∷ signs) = sign_bit fields first signs * 2 ^ length signs + value fields signs

-- a number has room in so many digits, of which the first may be a sign; the number 0 needs no digit
abbrev pub Room : Bool → ℕ → ℤ → Type 0
Room false width (pos n) = n < 2 ^ width
Room false width (negsuc n) = ⊥
Room true width (pos n) = n < 2 ^ (width - 1)
Room true width (negsuc n) = n < 2 ^ (width - 1)

-- a number has room in the digits of its letter, of which those of c alone have a sign
abbrev pub Fits : List ℕ → Field → Type 0
Fits signs f = Room (f.letter == sign (codes "c")) (count f.letter signs) f.number

-- each number has room in the digits of its letter
abbrev pub AllFit : List ℕ → List Field → Type 0
AllFit signs [] = Unit {0}
AllFit signs (f ∷ fields) = Fits signs f × AllFit signs fields

-- ---- operands ("Indirect Addressing Mode")

-- the three signs m of each indirect form
abbrev pub change_signs : Change → List ℕ
change_signs change.Keep = codes "000"
change_signs change.Decrement = codes "001"
change_signs change.Increment = codes "010"
change_signs change.ReverseSubtract = codes "100"
change_signs change.Subtract = codes "101"
change_signs change.Add = codes "110"
change_signs change.ReverseAdd = codes "111"

-- the letter m, with the number of an indirect form
abbrev pub change_field : Change → Field
change_field c = field (codes "m") (pos (value [] (change_signs c)))

-- the seven signs after I, without and with a next auxiliary register y
abbrev pub indirect_signs : Option ℕ → List ℕ
indirect_signs None = codes "mmm0000"
indirect_signs (Some next) = codes "mmm1yyy"

-- the numbers of those seven signs
abbrev pub indirect_fields : Change → Option ℕ → List Field
indirect_fields c None = change_field c ∷ []
indirect_fields c (Some next) = change_field c ∷ field (codes "y") (pos next) ∷ []

-- the number whose bits those seven signs are
abbrev pub indirect_number : Change → Option ℕ → ℕ
indirect_number c next = value (indirect_fields c next) (indirect_signs next)

-- I: 0 for direct, 1 for indirect addressing
abbrev pub mode : Addr → ℕ
mode (Direct low) = 0
mode (Indirect c next) = 1

-- d: the low seven bits of a direct address, or the seven bits of an indirect operand
abbrev pub address_number : Addr → ℕ
address_number (Direct low) = low
address_number (Indirect c next) = indirect_number c next

-- the numbers of an operand in memory
abbrev pub address_fields : Addr → List Field
address_fields a = field (codes "I") (pos (mode a)) ∷ field (codes "d") (pos (address_number a)) ∷ []

-- the numbers of an indirect operand have room in its seven signs
abbrev pub AddressFits : Addr → Type 0
AddressFits (Direct low) = Unit {0}
AddressFits (Indirect c next) = AllFit (indirect_signs next) (indirect_fields c next)

-- ---- instructions

-- an instruction in the form of the Guide: its signs, the numbers of its letters, its second word, and what its operand
-- must be for the row
pub record GuideForm : Type 1 where
  pub signs : List ℕ
  pub fields : List Field
  pub second : Option ℕ
  pub operand_fits : Type 0

-- the form of an instruction whose row has this text
abbrev form : List ℕ → List Field → Option ℕ → Type 0 → GuideForm
form text fields second operand_fits = record { signs = signs_of text; fields = fields; second = second; operand_fits = operand_fits }

-- whether a letter is among signs
abbrev pub has : List ℕ → List ℕ → Bool
has letter signs = not (count (sign letter) signs == 0)

-- the number of the operand of a row without a data word
abbrev pub plain_fields : PlainOperand → List Field
plain_fields operand.Nothing = []
plain_fields (operand.Number n) = field (codes "k") (pos n) ∷ []
plain_fields (operand.Change c) = change_field c ∷ []

-- the operand is a number where the row has k, a change where it has m, and nothing elsewhere
abbrev pub PlainFits : PlainOperand → List ℕ → Type 0
PlainFits operand.Nothing signs = IsTrue (not (has (codes "k") signs) && not (has (codes "m") signs))
PlainFits (operand.Number n) signs = IsTrue (has (codes "k") signs)
PlainFits (operand.Change c) signs = IsTrue (has (codes "m") signs)

-- the letter of a short constant: that of MPYK alone has a sign
abbrev pub constant_letter : ShortName → List ℕ
constant_letter short.Mpyk = codes "c"
constant_letter _ = codes "k"

-- the letter of the number that a row with a long constant has in its first word: a register in LRLK, else a shift
abbrev pub high_letter : LongName → List ℕ
high_letter long.Lrlk = codes "r"
high_letter _ = codes "s"

-- the form of each family
abbrev pub printed : Insn → GuideForm
printed (insn.Mem name a) = form (mem_text name) (address_fields a) None (AddressFits a)
printed (insn.Shifted name a s) = form (shifted_text name) (field (codes "s") (pos s) ∷ address_fields a) None (AddressFits a)
printed (insn.ArMem name r a) = form (ar_mem_text name) (field (codes "r") (pos r) ∷ address_fields a) None (AddressFits a)
printed (insn.Port name a p) = form (port_text name) (field (codes "p") (pos p) ∷ address_fields a) None (AddressFits a)
printed (insn.Bit name a b) = form (bit_text name) (field (codes "b") (pos b) ∷ address_fields a) None (AddressFits a)
printed (insn.Short name r k) = form (short_text name) (field (codes "r") (pos r) ∷ field (constant_letter name) k ∷ []) None (Unit {0})
printed (insn.Long name k high) = form (long_text name) (field (high_letter name) (pos high) ∷ []) (Some k) (Unit {0})
printed (insn.LongMem name w a) = form (long_mem_text name) (address_fields a) (Some w) (AddressFits a)
printed (insn.Jump name w c next) = form (jump_text name) (field (codes "d") (pos (indirect_number c next)) ∷ []) (Some w) (AddressFits (Indirect c next))
printed (insn.Plain name o) = form (plain_text name) (plain_fields o) None (PlainFits o (signs_of (plain_text name)))

-- the second word, where there is one, is this word, and a number of 16 bits
abbrev pub SecondIs : ℕ → Option ℕ → Type 0
SecondIs word None = Unit {0}
SecondIs word (Some k) = (k < 2 ^ 16) × (k ≡ word)

-- two words are the form of an instruction: its numbers have room, and the bits are those of the first word
pub record IsPrinted (first second : ℕ) (i : Insn) : Type 0 where
  pub fits : AllFit (printed i).signs (printed i).fields
  pub operand_fits : (printed i).operand_fits
  pub first_is : value (printed i).fields (printed i).signs ≡ first
  pub second_is : SecondIs second (printed i).second
