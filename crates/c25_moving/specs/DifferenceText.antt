-- What is reported where the words of the old program and those of the new one differ.
use Rattle.std.specs.Prelude.{◌≡◌, ◌⊎◌, ℕ, ◌+◌, ◌-◌, ◌%◌, ◌^◌, ◌==◌, ◌&&◌, Bool, if◌then◌else◌, nat_lt, List, ◌++◌, codes, Option, Some, None, MatchOption, unwrap_or}
use Rattle.std.specs.FinMap as finite
use Rattle.std.specs.Fmt.{decimal}
use Rattle.std.specs.List.{list_any}
use Rattle.c25_meaning_common.specs.Digits.{four_digits}
use Rattle.c25_meaning_image.specs.declared.mark.Mark.{Mark}
use Rattle.c25_meaning_instructions.specs.Show.{show}
use Rattle.c25_meaning_instructions.specs.Table.{Reads}
use Rattle.c25_meaning_instructions.specs.declared.insn.Insn.{Insn}
use Rattle.c25_meaning_linking.specs.Linking.{ImageData, line_at}
use Rattle.c25_move_files.specs.Task.{Words}
use Rattle.c25_moving.specs.Differing.{count_of}

-- ---- the word at an address

-- a word, with the instruction that it and the word after it read as, if they do
abbrev pub IsWordText : (first second : ℕ) → (text : List ℕ) → Type 0
IsWordText first second text =
    ((insn : Insn) × Reads first second insn × (text ≡ four_digits first ++ codes " " ++ show insn))
    ⊎ (((insn : Insn) → ¬ Reads first second insn) × (text ≡ four_digits first))

-- the word of a program at an address, or 0; the first address comes after the last
abbrev pub word_or_zero : Words → (address : ℕ) → ℕ
word_or_zero words address = unwrap_or (finite.get words (address % 2 ^ 16)) 0

-- what a program has at an address
abbrev pub IsShownAt : Words → (address : ℕ) → (text : List ℕ) → Type 0
IsShownAt words address text =
    MatchOption (finite.get words address) (text ≡ codes "no word") (λ word. IsWordText word (word_or_zero words (address + 1)) text)

-- ---- the line of a source

-- whether an instruction of two words begins at an address
abbrev pub is_long : List Mark → (address : ℕ) → Bool
is_long marks address = list_any (λ mark. mark.address == address && mark.size == 2) marks

-- the line of the instruction whose second word is at an address, if it is known
abbrev pub line_before : ImageData → (address : ℕ) → Option (List ℕ × ℕ)
line_before image address = if (nat_lt 0 address && is_long image.marks (address - 1)) then line_at (address - 1) image.lines else None

-- this line, or else that of the instruction whose second word is at an address
abbrev pub line_or_before : Option (List ℕ × ℕ) → ImageData → (address : ℕ) → Option (List ℕ × ℕ)
line_or_before (Some line) image address = Some line
line_or_before None image address = line_before image address

-- the line of the instruction to which the word at an address belongs, if it is known
abbrev pub line_near : ImageData → (address : ℕ) → Option (List ℕ × ℕ)
line_near image address = line_or_before (line_at address image.lines) image address

-- ---- the text

-- how many words differ, of how many of the old program
abbrev pub counted_text : (name : List ℕ) → (differing words : ℕ) → List ℕ
counted_text name differing words = name ++ codes ": " ++ decimal differing ++ codes " of " ++ decimal words ++ codes " words differ"

-- what stood and what stands at the first address where they do
abbrev pub first_text : (first : ℕ) → (was stands : List ℕ) → List ℕ
first_text first was stands = codes ", first at " ++ four_digits first ++ codes ": old " ++ was ++ codes ", new " ++ stands

-- the line of the new source, if it is known
abbrev pub source_text : Option (List ℕ × ℕ) → List ℕ
source_text None = codes "\n"
source_text (Some line) = codes ", " ++ line.0 ++ codes ":" ++ decimal line.1 ++ codes "\n"

-- the line of the report: how many words differ, and the two words at the first address where they do
pub record IsDifferenceText (name : List ℕ) (old : Words) (image : ImageData) (differing first : ℕ) (text : List ℕ) : Type 0 where
  pub was : List ℕ
  pub stands : List ℕ
  pub shows_old : IsShownAt old first was
  pub shows_new : IsShownAt image.program first stands
  pub reported : text ≡ counted_text name differing (count_of old) ++ first_text first was stands ++ source_text (line_near image first)
