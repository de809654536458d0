-- Sources made of printed instructions and words.
use Rattle.std.specs.Prelude.{◌≡◌, ℕ, ◌<◌, ◌^◌, List, [], ◌∷◌, ◌++◌, codes}
use Rattle.c25_meaning_instructions.specs.Show.{long_text, show}
use Rattle.c25_meaning_instructions.specs.Table.{InRange, words}
use Rattle.c25_meaning_instructions.specs.declared.insn.Insn.{Insn}
use Rattle.c25_meaning_objects.specs.Module.{Contents, Initialised}

-- what a line prints: an instruction, or one or two words as data
pub data Printed : Type 0 where
  Code : Insn → Printed
  Word : ℕ → Printed
  Pair : ℕ → ℕ → Printed

-- the text of a printed line
abbrev pub text_of : Printed → List ℕ
text_of (Code i) = show i
text_of (Word n) = codes ".word " ++ long_text n
text_of (Pair m n) = codes ".word " ++ long_text m ++ codes "," ++ long_text n

-- the words of a printed line
abbrev pub words_in : Printed → List ℕ
words_in (Code i) = words i
words_in (Word n) = n ∷ []
words_in (Pair m n) = m ∷ n ∷ []

-- the operands of an instruction are in range, words have 16 bits
abbrev pub IsInRange : Printed → Type 0
IsInRange (Code i) = InRange i
IsInRange (Word n) = n < 2 ^ 16
IsInRange (Pair m n) = (m < 2 ^ 16) × (n < 2 ^ 16)

-- the source of printed lines: each text after a blank on a line of its own
abbrev pub source_of : List Printed → List ℕ
source_of [] = []
source_of (p ∷ ps) = codes " " ++ text_of p ++ (codes "\n" ++ source_of ps)

-- a module has the section `.text` with these words and no other, no symbols and no relocations
pub record IsTextOf (words : List ℕ) (m : Contents) : Type 0 where
  pub sections : m.sections ≡ record { name = codes ".text"; body = Initialised words } ∷ []
  pub symbols : m.symbols ≡ []
  pub relocations : m.relocations ≡ []
