-- The texts that a debugger answers with (this project's own).
use Rattle.std.specs.Prelude.{◌≡◌, ℕ, zero, suc, ◌+◌, ◌-◌, ◌/◌, Bool, true, false, List, [], ◌∷◌, ◌++◌, Option, Some, None, codes, min, filter, take, nat_le}
use Rattle.std.specs.List.{flat_map}
use Rattle.std.specs.Fmt.{decimal}
use Rattle.std.specs.Ordering.{nat_cmp}
use Rattle.std.specs.FinMap as map
use Rattle.c25_meaning_processor.specs.FirstState.{memory_of_map}
use Rattle.c25_meaning_linking.specs.MapText.{NamedValue, eight_digits, symbol_text}
use Rattle.c25_meaning_processor.specs.RunText.{stop_name}
use Rattle.c25_meaning_common.specs.Digits.{four_digits, two_digits}
use Rattle.c25_meaning_instructions.specs.Show.{show}
use Rattle.c25_meaning_instructions.specs.Table.{Reads, size_of}
use Rattle.c25_meaning_instructions.specs.declared.insn.Insn.{Insn}
use Rattle.c25_meaning_image.specs.declared.mark.Mark.{Mark}
use Rattle.c25_meaning_processor.specs.declared.registers.Regs.{Regs}
use Rattle.c25_meaning_processor.specs.Goes.{Halting, Ran, Met, Left}

-- ---- steps

-- the line that says how steps ended, with the number of steps done in all; at a breakpoint with PC
abbrev pub halting_text : Halting → ℕ → ℕ → List ℕ
halting_text Ran steps pc = codes "ran " ++ decimal steps ++ codes "\n"
halting_text Met steps pc = codes "break " ++ decimal steps ++ codes " " ++ four_digits pc ++ codes "\n"
halting_text (Left stop) steps pc = codes "left " ++ decimal steps ++ codes " " ++ stop_name stop ++ codes "\n"

-- the line that says that the sink refused a word in the step of this number
abbrev pub sink_text : ℕ → List ℕ
sink_text steps = codes "sink " ++ decimal steps ++ codes "\n"

-- a line of a name and an address
abbrev pub address_line : List ℕ → ℕ → List ℕ
address_line word address = word ++ codes " " ++ four_digits address ++ codes "\n"

-- ---- breakpoints

-- the answer to `break`: the breakpoint is set, or as many as may be are set already
abbrev pub set_text : Bool → ℕ → List ℕ
set_text true address = address_line (codes "set") address
set_text false address = codes "full\n"

-- the answer to `clear`: the breakpoint was set and is cleared, or there was none
abbrev pub cleared_text : Bool → ℕ → List ℕ
cleared_text true address = address_line (codes "cleared") address
cleared_text false address = address_line (codes "none") address

-- ---- registers and memory

-- words in four hexadecimal digits, a blank before each
abbrev pub spaced : List ℕ → List ℕ
spaced words = flat_map (λ w. codes " " ++ four_digits w) words

-- the answer to `regs`: the registers, in two lines
unfoldable pub regs_text : Regs → List ℕ
regs_text r =
    codes "PC " ++ four_digits r.pc ++ codes " ACC " ++ eight_digits r.acc ++ codes " P " ++ eight_digits r.p ++ codes " T " ++ four_digits r.t
    ++ codes " ST0 " ++ four_digits r.st0 ++ codes " ST1 " ++ four_digits r.st1 ++ codes " RPTC " ++ two_digits r.rptc ++ codes "\nAR" ++ spaced r.ar ++ codes "\n"

-- the answer to `stack`: the hardware stack, the top first
unfoldable pub stack_text : Regs → List ℕ
stack_text r = codes "STACK" ++ spaced r.stack ++ codes "\n"

-- n words of a memory from an address on
abbrev pub words_from : (ℕ → ℕ) → ℕ → ℕ → List ℕ
words_from word_at address zero = []
words_from word_at address (suc n) = word_at address ∷ words_from word_at (address + 1) n

-- a line of an address, and n words from there on
abbrev pub words_line : (ℕ → ℕ) → ℕ → ℕ → List ℕ
words_line word_at address n = four_digits address ++ spaced (words_from word_at address n) ++ codes "\n"

-- so many lines of n words in all: each has eight words, the last those that are left
abbrev pub words_lines : (ℕ → ℕ) → ℕ → ℕ → ℕ → List ℕ
words_lines word_at zero address n = []
words_lines word_at (suc more) address n = words_line word_at address (min 8 n) ++ words_lines word_at more (address + 8) (n - 8)

-- the answer to `data` and `prog`: n words from an address on, in lines of eight, the last of what is left
unfoldable pub words_text : (ℕ → ℕ) → ℕ → ℕ → List ℕ
words_text word_at address n = words_lines word_at ((n + 7) / 8) address n

-- ---- the image

-- which instruction of this size the words of an image's page 0 read as at an address; None where they read
-- as none of this size
abbrev pub ReadsAt : map.FinMap nat_cmp ℕ → ℕ → ℕ → Option Insn → Type 0
ReadsAt words address size (Some i) = Reads (memory_of_map words address) (memory_of_map words (address + 1)) i × (size_of i ≡ size)
ReadsAt words address size None =
    (i : Insn) → Reads (memory_of_map words address) (memory_of_map words (address + 1)) i → size_of i ≡ size → ⊥

-- the text of an instruction that was read, or `none`
abbrev pub insn_text : Option Insn → List ℕ
insn_text None = codes "none"
insn_text (Some i) = show i

-- where an instruction stands in the sources, if it is known: the name of a file and the number of a line
abbrev pub SourceLine : Type 0
SourceLine = Option (List ℕ × ℕ)

-- the end of an instruction's line: where it stands in the sources, if it is known
abbrev pub source_line_end : SourceLine → List ℕ
source_line_end None = codes "\n"
source_line_end (Some place) = codes " " ++ place.0 ++ codes ":" ++ decimal place.1 ++ codes "\n"

-- an instruction's line: its address, its text, and where it stands in the sources
abbrev pub insn_line : ℕ → Option Insn → SourceLine → List ℕ
insn_line address insn source = four_digits address ++ codes " " ++ insn_text insn ++ source_line_end source

-- a text is the line of the instruction at a mark
pub record IsLineOf (words : map.FinMap nat_cmp ℕ) (source_line_at : ℕ → SourceLine) (mark : Mark) (text : List ℕ) : Type 0 where
  pub insn : Option Insn
  pub reads : ReadsAt words mark.address mark.size insn
  pub text_is : text ≡ insn_line mark.address insn (source_line_at mark.address)

-- a text is the lines of the instructions at some marks, in order
abbrev pub AreLinesOf : map.FinMap nat_cmp ℕ → (ℕ → SourceLine) → List Mark → List ℕ → Type 0
AreLinesOf words source_line_at [] text = text ≡ []
AreLinesOf words source_line_at (mark ∷ marks) text =
    (first rest : List ℕ) × IsLineOf words source_line_at mark first × AreLinesOf words source_line_at marks rest × (text ≡ first ++ rest)

-- a text is the line of an address: of the instruction whose mark, of this size, is there, or of none where
-- there is no mark
abbrev pub IsWhere : map.FinMap nat_cmp ℕ → (ℕ → SourceLine) → ℕ → Option ℕ → List ℕ → Type 0
IsWhere words source_line_at address None text = text ≡ insn_line address None None
IsWhere words source_line_at address (Some size) text = IsLineOf words source_line_at (record { address = address; size = size }) text

-- the first n marks at an address or above
abbrev pub marks_from : List Mark → ℕ → ℕ → List Mark
marks_from marks address n = take n (filter (λ m. nat_le address m.address) marks)

-- the answer to `symbols`: a line for each symbol
abbrev pub symbols_text : List NamedValue → List ℕ
symbols_text symbols = flat_map symbol_text symbols
