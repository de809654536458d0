-- Addresses at the prompt: numbers, names of a program, lines of its sources (this project's own).
use Rattle.std.specs.Prelude.{ℕ, ◌+◌, ◌==◌, Bool, false, ◌&&◌, List, count_by, find, position, take, drop, Option, Some, None, option_map, Result, Ok, Err, nat_lt, if◌then◌else◌}
use Rattle.std.specs.Str.{bytes_eq}
use Rattle.c25_meaning_common.specs.Digits.{decimal_of, hexadecimal_of}
use Rattle.c25_meaning_common.specs.Results.{◌>>=◌}
use Rattle.c25_meaning_image.specs.declared.mark.Mark.{Mark}
use Rattle.c25_meaning_image.specs.declared.mark.RunMark.{RunMark}
use Rattle.c25_meaning_linking.specs.Linking.{ImageData, line_at}
use Rattle.c25_symbols.specs.Symbols.{Listed}
use Rattle.c25_symbols.specs.View.{entries_view}
use Rattle.c25_prompt_lines.specs.declared.command.Wrong.{Wrong}
use Rattle.c25_prompt_lines.specs.declared.command.Wrong.TheVariants.{Count, NoName, SeveralNames, NoLine, TooFar}
use Rattle.c25_prompt_lines.specs.SourceTexts.{text_in}
use Rattle.c25_prompt_lines.specs.declared.program.Program.{Program}

-- a linked program, the symbols that its modules define, local ones too, and the texts of the files that its
-- sources are read from
pub record ProgramData : Type 0 where
  pub symbols : List Listed
  pub image : ImageData
  pub texts : List ℕ → Option (List ℕ)

-- a program, as the definitions have it
abbrev pub program_view : Program → ProgramData
program_view p = record { symbols = entries_view p.symbols.now; image = p.image.now; texts = text_in p.texts.now }

-- ---- names

-- whether a symbol has this name
abbrev pub is_named : List ℕ → Listed → Bool
is_named name y = bytes_eq y.name name

-- whether a symbol has this name and is of a module with this source
abbrev pub is_of : List ℕ → List ℕ → Listed → Bool
is_of source name y = bytes_eq y.source source && bytes_eq y.name name

-- the address that the value of a symbol is, if there is a symbol
abbrev pub symbol_address : Option Listed → Result ℕ Wrong
symbol_address None = Err NoName
symbol_address (Some y) = if nat_lt y.value 65536 then Ok y.value else Err TooFar

-- the address of the only symbol of a name
abbrev pub only_named : List Listed → List ℕ → Result ℕ Wrong
only_named symbols name =
    if nat_lt 1 (count_by (is_named name) symbols) then Err SeveralNames else symbol_address (find (is_named name) symbols)

-- the address of a symbol of the current source, or else of the only symbol of the name
abbrev pub first_here : List Listed → List ℕ → Option Listed → Result ℕ Wrong
first_here symbols name None = only_named symbols name
first_here symbols name (Some y) = symbol_address (Some y)

-- the address of a name: that of the current source, if there is a current source and it has one, else that
-- of the only source that has one
abbrev pub named : List Listed → (here : Option (List ℕ)) → List ℕ → Result ℕ Wrong
named symbols None name = only_named symbols name
named symbols (Some source) name = first_here symbols name (find (is_of source name) symbols)

-- ---- lines

-- whether this is a line of a file
abbrev pub is_line : List ℕ → ℕ → Option (List ℕ × ℕ) → Bool
is_line file line None = false
is_line file line (Some r) = bytes_eq r.0 file && r.1 == line

-- whether the instruction that is loaded at an address stands at a line of a file
abbrev pub stands_at : ImageData → List ℕ → ℕ → ℕ → Bool
stands_at image file line address = is_line file line (line_at address image.lines)

-- the address where an instruction in block B0 runs, if there is one
abbrev pub run_address : Option RunMark → Result ℕ Wrong
run_address None = Err NoLine
run_address (Some m) = Ok m.run

-- the address of an instruction, or else that where one in block B0 runs
abbrev pub first_address : Option Mark → Option RunMark → Result ℕ Wrong
first_address None copied = run_address copied
first_address (Some m) copied = Ok m.address

-- the address where the first instruction of a line runs
abbrev pub line_address : ImageData → List ℕ → ℕ → Result ℕ Wrong
line_address image file line =
    first_address (find (λ m. stands_at image file line m.address) image.marks) (find (λ m. stands_at image file line m.load) image.run_marks)

-- ---- what is written

-- the text before the first of a byte, and the text after it
abbrev pub cut_at : ℕ → List ℕ → Option (List ℕ × List ℕ)
cut_at byte text = option_map (λ i. (take i text, drop (i + 1) text)) (position (λ b. b == byte) text)

-- the address of a line of a file, where its number is written, or else of a name of a source
abbrev pub line_or_name : ProgramData → (file : List ℕ) → (what : List ℕ) → Option ℕ → Result ℕ Wrong
line_or_name p file what None = symbol_address (find (is_of file what) p.symbols)
line_or_name p file what (Some line) = line_address p.image file line

-- the address of a line or of a name of a file
abbrev pub in_file : ProgramData → (file : List ℕ) → List ℕ → Result ℕ Wrong
in_file p file what = line_or_name p file what (decimal_of 4294967295 what)

-- an address and a number of words, which may be at most 65,535 in all
abbrev pub added : Option ℕ → ℕ → Result ℕ Wrong
added None address = Err Count
added (Some words) address = if nat_lt (address + words) 65536 then Ok (address + words) else Err TooFar

-- the address of what is written, with so many words added where `+` is written
abbrev pub sum_of : (base : List ℕ → Result ℕ Wrong) → List ℕ → Option (List ℕ × List ℕ) → Result ℕ Wrong
sum_of base text None = base text
sum_of base text (Some parts) = base parts.0 >>= added (decimal_of 4294967295 parts.1)

-- the address of `NAME`, `SOURCE:NAME` or `FILE:LINE`, with so many words added where `+` is written
abbrev pub place_of : ProgramData → (here : Option (List ℕ)) → List ℕ → Option (List ℕ × List ℕ) → Result ℕ Wrong
place_of p here text None = sum_of (named p.symbols here) text (cut_at 43 text)
place_of p here text (Some parts) = sum_of (in_file p parts.0) parts.1 (cut_at 43 parts.1)

-- a number, or else the address of what is written
abbrev pub number_or_place : ProgramData → (here : Option (List ℕ)) → List ℕ → Option ℕ → Result ℕ Wrong
number_or_place p here text None = place_of p here text (cut_at 58 text)
number_or_place p here text (Some address) = Ok address

-- the address that a text is: one to four hexadecimal digits are a number, as in a script; `here` is the file
-- of the instruction at PC, if it is known
abbrev pub address_of : ProgramData → (here : Option (List ℕ)) → List ℕ → Result ℕ Wrong
address_of p here text = number_or_place p here text (hexadecimal_of 1 text)
