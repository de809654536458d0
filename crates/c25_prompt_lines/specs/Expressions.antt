-- Operands that are shown as numbers: what is no address is an expression of the assembler over the names of a program
-- (this project's own).
use Rattle.std.specs.Prelude.{ℕ, ◌==◌, ◌&&◌, Bool, false, not, List, [], ◌∷◌, Option, Some, None, option_map, Result, Ok, Err, if◌then◌else◌}
use Rattle.std.specs.List.{list_any}
use Rattle.std.specs.Str.{is_utf8}
use Rattle.c25_meaning_common.specs.Bytes.{begins_name, is_digit}
use Rattle.c25_meaning_common.specs.Results.{◌>>=◌, told}
use Rattle.c25_named_values.specs.Values.{text_value}
use Rattle.c25_named_values.specs.declared.no_value.NoValue.{NoValue}
use Rattle.c25_named_values.specs.declared.no_value.NoValue.TheVariants as no
use Rattle.c25_prompt_lines.specs.Addresses.{ProgramData, address_of, named}
use Rattle.c25_prompt_lines.specs.declared.command.Shown.{Shown}
use Rattle.c25_prompt_lines.specs.declared.command.Shown.TheVariants as shown
use Rattle.c25_prompt_lines.specs.declared.command.Wrong.{Wrong}
use Rattle.c25_prompt_lines.specs.declared.command.Wrong.TheVariants as wrong
use Rattle.c25_prompt_lines.specs.declared.program.Here.{Here}

-- where the processor stands: the address in PC, and the file of the instruction there, if it is known
pub record HereData : Type 0 where
  pub pc : ℕ
  pub file : Option (List ℕ)

-- the same of the code's
abbrev pub here_view : Here → HereData
here_view h = record { pc = h.pc; file = option_map (λ s. s.now) h.file }

-- ---- expressions

-- an address that was found
abbrev pub if_ok : Result ℕ Wrong → Option ℕ
if_ok (Ok address) = Some address
if_ok (Err w) = None

-- the address that a name in an expression stands for, if it has one
abbrev pub name_address : ProgramData → (file : Option (List ℕ)) → List ℕ → Option ℕ
name_address p file name = if_ok (named p.symbols file name)

-- why an expression is invalid
abbrev pub value_wrong : NoValue → Wrong
value_wrong no.NoExpression = wrong.NoExpression
value_wrong no.NoName = wrong.NoNameInside
value_wrong no.DivideByZero = wrong.DivideByZero
value_wrong no.TooLarge = wrong.TooLarge

-- the value of an expression over the names of a program, where `$` is PC
abbrev pub value_in : ProgramData → HereData → List ℕ → Result ℕ Wrong
value_in p here text = told value_wrong (text_value (name_address p here.file) here.pc text)

-- the text that bytes are, if they are UTF-8
abbrev pub text_of : List ℕ → Option (List ℕ)
text_of bytes = if is_utf8 bytes then Some bytes else None

abbrev pub value_by : ProgramData → HereData → Option (List ℕ) → Result ℕ Wrong
value_by p here None = Err wrong.NoExpression
value_by p here (Some text) = value_in p here text

-- the value of bytes as an expression
abbrev pub expression_value : ProgramData → HereData → List ℕ → Result ℕ Wrong
expression_value p here text = value_by p here (text_of text)

-- ---- operands

-- whether a text has a character that no name and no number has
abbrev pub has_sign : List ℕ → Bool
has_sign text = list_any (λ b. not (begins_name b) && not (is_digit b)) text

-- whether a text has a colon, as one that names a file
abbrev pub names_file : List ℕ → Bool
names_file text = list_any (λ b. b == 58) text

-- whether an operand that is no address for this reason is read as an expression: it has a sign and names no file,
-- and it begins with the name of no symbol, or no number of words is added to it
abbrev pub may_be_expression : Wrong → List ℕ → Bool
may_be_expression wrong.NoName text = has_sign text && not (names_file text)
may_be_expression wrong.Count text = has_sign text && not (names_file text)
may_be_expression _ text = false

-- an address, or else the value of an expression
abbrev pub or_value : ProgramData → HereData → List ℕ → Result ℕ Wrong → Result ℕ Wrong
or_value p here text (Ok address) = Ok address
or_value p here text (Err w) = if may_be_expression w text then expression_value p here text else Err w

-- the number that an operand is
abbrev pub number_of : ProgramData → HereData → List ℕ → Result ℕ Wrong
number_of p here text = or_value p here text (address_of p here.file text)

-- the text after a `*` with which a text begins
abbrev pub after_star : List ℕ → Option (List ℕ)
after_star [] = None
after_star (byte ∷ rest) = if byte == 42 then Some rest else None

-- a number, or the word at the data address after a `*`
abbrev pub shown_by : ProgramData → HereData → List ℕ → Option (List ℕ) → Result Shown Wrong
shown_by p here text None = number_of p here text >>= λ n. Ok (shown.Number n)
shown_by p here text (Some rest) = number_of p here rest >>= λ n. Ok (shown.Word n)

-- what is to be shown as a number
abbrev pub shown_of : ProgramData → HereData → List ℕ → Result Shown Wrong
shown_of p here text = shown_by p here text (after_star text)
