-- The lines of a disassembly: an address, its words, and what they are (this project's own).
use Rattle.std.specs.Prelude.{◌≡◌, ℕ, List, [], ◌∷◌, ◌++◌, Option, Some, None, option_to_list, codes}
use Rattle.c25_meaning_common.specs.Digits.{four_digits}
use Rattle.c25_meaning_instructions.specs.Show.{long_text, show}
use Rattle.c25_meaning_instructions.specs.Table.{InRange, words}
use Rattle.c25_meaning_instructions.specs.declared.insn.Insn.{Insn}

-- the words are those of an instruction, all of them
pub record IsCode (first : ℕ) (second : Option ℕ) (insn : Insn) : Type 0 where
  pub in_range : InRange insn
  pub words_are : words insn ≡ first ∷ option_to_list second

-- the instruction whose words these are, or that there is none
abbrev pub ReadAs : ℕ → Option ℕ → Option Insn → Type 0
ReadAs first second (Some i) = IsCode first second i
ReadAs first second None = (i : Insn) → IsCode first second i → ⊥

-- one word or two, in columns of one width
abbrev pub columns : ℕ → Option ℕ → List ℕ
columns first None = four_digits first ++ codes "     "
columns first (Some second) = four_digits first ++ codes " " ++ four_digits second

-- a second word of data, after a comma
abbrev pub further_text : Option ℕ → List ℕ
further_text None = []
further_text (Some second) = codes "," ++ long_text second

-- words as data, in the assembler's spelling
abbrev pub data_text : ℕ → Option ℕ → List ℕ
data_text first second = codes ".word " ++ long_text first ++ further_text second

-- words as their instruction, or as data
abbrev pub code_text : ℕ → Option ℕ → Option Insn → List ℕ
code_text first second None = data_text first second
code_text first second (Some i) = show i

-- an address, the words from there on, and what they are
abbrev pub line_text : ℕ → ℕ → Option ℕ → Option Insn → List ℕ
line_text address first second insn = four_digits address ++ codes " " ++ columns first second ++ codes " " ++ code_text first second insn
