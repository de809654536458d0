-- The text of words by their addresses, with no marks: each is read where the line before ended (this
-- project's own).
use Rattle.std.specs.Prelude.{◌≡◌, ℕ, zero, suc, ◌+◌, ◌-◌, ◌==◌, Bool, true, false, nat_lt, if◌then◌else◌, List, [], ◌∷◌, ◌++◌, length, codes, Option, Some, None, option_to_list}
use Rattle.std.specs.FinMap as map
use Rattle.std.specs.Ordering.{nat_cmp}
use Rattle.c25_meaning_instructions.specs.declared.insn.Insn.{Insn}
use Rattle.c25_dis.specs.Lines.{IsCode, line_text}

-- the word at an address, if one is there; an address has sixteen bits
abbrev pub word_at : map.FinMap nat_cmp ℕ → ℕ → Option ℕ
word_at words address = if nat_lt address 65536 then map.get words address else None

-- a word is an instruction, or it and the next one are, if there is one, or it is data
abbrev pub IsTaken : ℕ → Option ℕ → Option ℕ → Option Insn → Type 0
IsTaken word next None (Some i) = IsCode word None i
IsTaken word next (Some second) (Some i) = (next ≡ Some second) × IsCode word (Some second) i
IsTaken word next None None = (i : Insn) → (IsCode word None i → ⊥) × ((second : ℕ) → next ≡ Some second → IsCode word (Some second) i → ⊥)
IsTaken word next (Some second) None = ⊥

-- whether an address stands before the end of the last line, if there is one
abbrev pub is_before : ℕ → Option ℕ → Bool
is_before address None = false
is_before address (Some end) = nat_lt address end

-- an empty line, unless the next line begins where the last one ended
abbrev pub gap_text : Option ℕ → ℕ → List ℕ
gap_text None address = []
gap_text (Some end) address = if end == address then [] else codes "\n"

-- a text is the line of a word, after a last line that ended at one address, and it ends at another
pub record IsWordLine (next : Option ℕ) (address word : ℕ) (was end : Option ℕ) (text : List ℕ) : Type 0 where
  pub second : Option ℕ
  pub insn : Option Insn
  pub taken : IsTaken word next second insn
  pub end_is : end ≡ Some (address + length (word ∷ option_to_list second))
  pub text_is : text ≡ gap_text was address ++ line_text address word second insn ++ codes "\n"

-- what an address adds: no line where there is no word, or where the word is in the last line
abbrev pub IsAddressText : Option ℕ → Option ℕ → Bool → ℕ → Option ℕ → Option ℕ → List ℕ → Type 0
IsAddressText None next before address was end text = (end ≡ was) × (text ≡ [])
IsAddressText (Some word) next true address was end text = (end ≡ was) × (text ≡ [])
IsAddressText (Some word) next false address was end text = IsWordLine next address word was end text

-- a text is that of the first n addresses from one on, and its last line ends there
abbrev pub AreWords : map.FinMap nat_cmp ℕ → ℕ → ℕ → Option ℕ → List ℕ → Type 0
AreWords words from zero end text = (end ≡ None) × (text ≡ [])
AreWords words from (suc n) end text =
    (was : Option ℕ) × (before last : List ℕ) × AreWords words from n was before
    × IsAddressText (word_at words (from + n)) (word_at words (from + n + 1)) (is_before (from + n) was) (from + n) was end last × (text ≡ before ++ last)

-- a text is that of the words from an address on
abbrev pub IsWordsText : map.FinMap nat_cmp ℕ → ℕ → List ℕ → Type 0
IsWordsText words from text = (end : Option ℕ) × AreWords words from (65536 - from) end text
